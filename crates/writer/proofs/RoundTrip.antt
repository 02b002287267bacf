-- The round trip (W6), over the definitions: what is written of a description that keeps the rules is read back as that description.
-- It holds behind every valid header and with any octets behind End.
use Prim.Native.Nat.{ℕ, suc, ◌+◌, ◌-◌, ◌<◌, ◌≤◌}
use mathlib.Core.Path.{◌≡◌, refl, sym, ap, ap₂, ◌∙◌}
use mathlib.Core.List.{List, [], ◌∷◌, ◌++◌, map, append_assoc, append-nil}
use mathlib.Core.Bool.{Bool, true, false, not}
use native.Mathlib.Omega.{arith}
use borrow.Author.Tests.{eqb-true, leb-true, le-leb}
use lib.ListN.{length, take, drop, get_or, length-append}
use lib.Seq.{drop_at, take_at, take_all, get_or-drop, drop-drop}
use lib.Dec.{leb, eqb}
use Rattle.tally.specs.Tests.{pick, all}
use Rattle.tally.proofs.TestsLaws.{held}
use Rattle.octets.specs.Numbers.{pair_of}
use Rattle.strings.specs.Wants.{wanted_of}
use Rattle.text.specs.Part.{most_parts}
use Rattle.fields.specs.Field.{port_description, category, manufacturer, model_name, model_number, link, address_list, extension, system_name, system_description, capabilities, management}
use Rattle.std.specs.Prelude.{Some, Ok}
use Rattle.walk.specs.Walk.{header, head_of, Walked, walk}
use Rattle.ids.specs.Id.{Id, chassis_ok, port_ok}
use Rattle.ids.proofs.IdLaws.{chassis-short, port-short}
use Rattle.lldpdu.specs.Extent.{length_at, port_place, seconds_place, rest_place, id_in, rest_of}
use Rattle.lldpdu.specs.Outline.{seconds_in}
use Rattle.lldpdu.proofs.ExtentLaws.{length-at, Good, reads}
use Rattle.found.specs.Contents.{contents, well_formed, htip_of, first, tlvs_in}
use Rattle.found.proofs.ContentsLaws.{contents-append}
use Rattle.system.specs.System.{up_to255, system_in}
use Rattle.system.proofs.TypeLaws.{by-topics}
use Rattle.reading.specs.Meaning.{Said, said_in, ReaderAnswer, refused_answer, answer_of}
use Rattle.reader.specs.Frame.{frame_ok, on_frame}
use Rattle.reader.proofs.Agree.{frame-agrees}
use Rattle.tlvs.specs.Tlvs.{written, octets_of, id_tlv, chassis_tlv, port_tlv, seconds_tlv, end_tlv, words_tlv, name_tlv, system_description_tlv, management_tlv, device_tlv, unless_empty, if_flagged, if_linked, if_extended, if_listed}
use Rattle.announcement.specs.Encode.{system_tlvs, device_tlvs, field_tlvs, tlvs_of, encode}
use Rattle.description.specs.Rules.{goodbye_rules, live_rules, sound_of}
use Rattle.description.proofs.RulesLaws.{Kept, kept}
use Rattle.tlvs.proofs.TlvLaws.{octets-append}
use Rattle.writer.proofs.ReadBack.{head-written, AllPassed, passed-append, laid, laid-are, walk-octets}
use Rattle.writer.proofs.Topics.{formed-both, Speaks, unless_none, speaks-string, words-about, system-name-about, system-description-about, speaks-management, device-about, flags_contents, speaks-flags, first-flags, link_contents, speaks-link, speaks-extension, first-link, optional_contents, speaks-list, first-optional, first-string}

-- What is said of a description that keeps the rules

module _ (d : Said) (sound : sound_of d ≡ true) where
  rules-kept : Kept d
  rules-kept = kept d sound

  words-speak : Speaks (unless_empty words_tlv d.words) port_description (unless_none d.words)
  words-speak = speaks-string words_tlv port_description d.words (λ p. words-about d.words rules-kept.words rules-kept.text)

  system-name-speaks : Speaks (unless_empty name_tlv d.system.name) system_name (unless_none d.system.name)
  system-name-speaks = speaks-string name_tlv system_name d.system.name (λ p. system-name-about d.system.name rules-kept.name)

  system-description-speaks : Speaks (unless_empty system_description_tlv d.system.description) system_description (unless_none d.system.description)
  system-description-speaks =
      speaks-string system_description_tlv system_description d.system.description (λ p. system-description-about d.system.description rules-kept.description)

  flags-speak : Speaks (if_flagged d.system.capabilities) capabilities (flags_contents d.system.capabilities)
  flags-speak = speaks-flags d.system.capabilities

  management-speaks : Speaks (map management_tlv d.system.management) management d.system.management
  management-speaks = speaks-management d.system.management rules-kept.management

  category-speaks : Speaks (unless_empty (device_tlv 1) d.category) category (unless_none d.category)
  unfolding wanted_of
  category-speaks = speaks-string (device_tlv 1) category d.category (device-about 1 255 d.category refl (omega arith) rules-kept.category)

  manufacturer-speaks : Speaks (unless_empty (device_tlv 2) d.manufacturer) manufacturer (unless_none d.manufacturer)
  unfolding wanted_of
  manufacturer-speaks = speaks-string (device_tlv 2) manufacturer d.manufacturer (device-about 2 6 d.manufacturer refl (omega arith) rules-kept.manufacturer)

  model-speaks : Speaks (unless_empty (device_tlv 3) d.model) model_name (unless_none d.model)
  unfolding wanted_of
  model-speaks = speaks-string (device_tlv 3) model_name d.model (device-about 3 31 d.model refl (omega arith) rules-kept.model)

  number-speaks : Speaks (unless_empty (device_tlv 4) d.number) model_number (unless_none d.number)
  unfolding wanted_of
  number-speaks = speaks-string (device_tlv 4) model_number d.number (device-about 4 31 d.number refl (omega arith) rules-kept.number)

  link-speaks : Speaks (if_linked d.link) link (link_contents d.link)
  link-speaks = speaks-link d.link rules-kept.link

  extension-speaks : Speaks (if_extended d.extension) extension (optional_contents d.extension)
  extension-speaks = speaks-extension d.extension rules-kept.extension

  list-speaks : Speaks (if_listed d.list) address_list (optional_contents d.list)
  list-speaks = speaks-list d.list rules-kept.list

  fields-passed : AllPassed (field_tlvs d)
  unfolding field_tlvs system_tlvs device_tlvs
  fields-passed =
      passed-append words-speak.passed
      (passed-append
      (passed-append system-name-speaks.passed (passed-append system-description-speaks.passed (passed-append flags-speak.passed management-speaks.passed)))
      (passed-append
      (passed-append category-speaks.passed (passed-append manufacturer-speaks.passed (passed-append model-speaks.passed number-speaks.passed)))
      (passed-append link-speaks.passed (passed-append extension-speaks.passed list-speaks.passed))))

  fields-formed : well_formed (field_tlvs d) ≡ true
  unfolding field_tlvs system_tlvs device_tlvs
  fields-formed =
      formed-both _ _ words-speak.well-formed
      (formed-both _ _
      (formed-both _ _ system-name-speaks.well-formed (formed-both _ _ system-description-speaks.well-formed (formed-both _ _ flags-speak.well-formed management-speaks.well-formed)))
      (formed-both _ _
      (formed-both _ _ category-speaks.well-formed (formed-both _ _ manufacturer-speaks.well-formed (formed-both _ _ model-speaks.well-formed number-speaks.well-formed)))
      (formed-both _ _ link-speaks.well-formed (formed-both _ _ extension-speaks.well-formed list-speaks.well-formed))))

  -- the contents of any topic, one behind the other; at a topic all but one of them are empty
  fields-contents : (topic : ℕ)
      → contents topic (field_tlvs d)
      ≡ pick (eqb topic port_description) (unless_none d.words) []
      ++ (pick (eqb topic system_name) (unless_none d.system.name) []
      ++ (pick (eqb topic system_description) (unless_none d.system.description) []
      ++ (pick (eqb topic capabilities) (flags_contents d.system.capabilities) []
      ++ (pick (eqb topic management) d.system.management []
      ++ (pick (eqb topic category) (unless_none d.category) []
      ++ (pick (eqb topic manufacturer) (unless_none d.manufacturer) []
      ++ (pick (eqb topic model_name) (unless_none d.model) []
      ++ (pick (eqb topic model_number) (unless_none d.number) []
      ++ (pick (eqb topic link) (link_contents d.link) []
      ++ (pick (eqb topic extension) (optional_contents d.extension) [] ++ pick (eqb topic address_list) (optional_contents d.list) []))))))))))
  unfolding field_tlvs system_tlvs device_tlvs
  fields-contents topic =
      simp (contents-append, append_assoc)
      (rw (
        words-speak.contents-are topic,
        system-name-speaks.contents-are topic,
        system-description-speaks.contents-are topic,
        flags-speak.contents-are topic,
        management-speaks.contents-are topic,
        category-speaks.contents-are topic,
        manufacturer-speaks.contents-are topic,
        model-speaks.contents-are topic,
        number-speaks.contents-are topic,
        link-speaks.contents-are topic,
        extension-speaks.contents-are topic,
        list-speaks.contents-are topic,
      ))

  -- each topic by itself
  words_back : contents port_description (field_tlvs d) ≡ unless_none d.words
  words_back = fields-contents port_description ∙ append-nil (unless_none d.words)

  category-back : contents category (field_tlvs d) ≡ unless_none d.category
  category-back = fields-contents category ∙ append-nil (unless_none d.category)

  manufacturer-back : contents manufacturer (field_tlvs d) ≡ unless_none d.manufacturer
  manufacturer-back = fields-contents manufacturer ∙ append-nil (unless_none d.manufacturer)

  model-back : contents model_name (field_tlvs d) ≡ unless_none d.model
  model-back = fields-contents model_name ∙ append-nil (unless_none d.model)

  number-back : contents model_number (field_tlvs d) ≡ unless_none d.number
  number-back = fields-contents model_number ∙ append-nil (unless_none d.number)

  link-contents : contents link (field_tlvs d) ≡ link_contents d.link
  link-contents = fields-contents link ∙ append-nil (link_contents d.link)

  extension-contents : contents extension (field_tlvs d) ≡ optional_contents d.extension
  extension-contents = fields-contents extension ∙ append-nil (optional_contents d.extension)

  list-contents : contents address_list (field_tlvs d) ≡ optional_contents d.list
  list-contents = fields-contents address_list

  -- of the system fields what is read: a string that is no longer than 255 octets is itself, and four or fewer are all
  short-string : (l : List ℕ) → length l ≤ 255 → up_to255 (first (unless_none l)) ≡ l
  short-string l h = rw (first-string l, le-leb (length l) 255 h)

  system-back : system_in (field_tlvs d) ≡ d.system
  system-back =
      let x = d.system in
      by-topics (field_tlvs d)
      ∙ rw (
        fields-contents system_name ∙ append-nil (unless_none x.name),
        fields-contents system_description ∙ append-nil (unless_none x.description),
        fields-contents capabilities ∙ append-nil (flags_contents x.capabilities),
        fields-contents management ∙ append-nil x.management,
        short-string x.name rules-kept.name,
        short-string x.description rules-kept.description,
        first-flags x.capabilities,
        take_all most_parts x.management rules-kept.few,
      )

  -- The verdict: yes exactly with seconds above 0

  present : (l : List ℕ) → 1 ≤ length l → eqb (length (unless_none l)) 1 ≡ true
  present [] h = absurd (omega arith)
  present (x ∷ l) h = refl

  missing : (l : List ℕ) → length l ≡ 0 → eqb (length (unless_none l)) 1 ≡ false
  missing [] h = refl
  missing (x ∷ l) h = absurd (omega arith)

  at_most_one : (l : List ℕ) → leb (length (unless_none l)) 1 ≡ true
  at_most_one [] = refl
  at_most_one (x ∷ l) = refl

  verdict-back : htip_of (field_tlvs d) ≡ not (eqb d.seconds 0)
  unfolding htip_of
  verdict-back = rw (fields-formed, category-back, manufacturer-back, model-back, number-back) (go (eqb d.seconds 0) rules-kept.timely)
    where
      go : (z : Bool) → pick z (all (goodbye_rules d)) (all (live_rules d)) ≡ true
          → all (true
          ∷ eqb (length (unless_none d.category)) 1
          ∷ eqb (length (unless_none d.number)) 1
          ∷ leb (length (unless_none d.manufacturer)) 1
          ∷ leb (length (unless_none d.model)) 1
          ∷ [])
          ≡ not z
      go true r = rw (missing d.category (eqb-true _ _ (held (goodbye_rules d) r).1.0))
      go false r =
          let h = held (live_rules d) r in
          rw (
            present d.category (leb-true _ _ h.0),
            present d.number (leb-true _ _ h.1.0),
            at_most_one d.manufacturer,
            at_most_one d.model,
          )

-- Where the octets lie

-- an ID x that was written at a place of s, with `rest` behind it: it is found there again, and what is behind it is the rest
module _ (s : List ℕ) (at kind : ℕ) (x : Id) (rest : List ℕ) (e : drop at s ≡ written (id_tlv kind x) ++ rest) (small : kind < 128) (short : length x.octets ≤ 255) where
  abbrev n : ℕ
  n = length x.octets

  id-head : head_of (drop at s) ≡ Some (header kind (suc n))
  id-head = ap head_of e ∙ head-written (id_tlv kind x) rest (record { kind = small; body = omega arith })

  id-length : length_at s at ≡ suc n
  id-length = sym (length-at s at id-head)

  id-whole : head_of (drop at s) ≡ Some (header kind (length_at s at))
  id-whole = id-head ∙ ap (λ (l : ℕ). Some (header kind l)) (sym id-length)

  id-behind : drop (at + 2 + length_at s at) s ≡ rest
  id-behind =
      let m : at + 2 + length_at s at ≡ at + (3 + n) = omega (arith, id-length) in
      ap (λ (k : ℕ). drop k s) m ∙ sym (drop-drop (3 + n) at s) ∙ ap (drop (3 + n)) e ∙ drop_at (written (id_tlv kind x)) rest (3 + n) (omega arith)

  id-back : id_in s at ≡ x
  id-back =
      let m : length_at s at - 1 ≡ n = omega (arith, id-length) in
      let u : get_or s (at + 2) 0 ≡ x.subtype = sym (get_or-drop at s 2 0) ∙ ap (λ (l : List ℕ). get_or l 2 0) e in
      let o : take (length_at s at - 1) (drop (at + 3) s) ≡ x.octets =
      ap₂ take m (sym (drop-drop 3 at s) ∙ ap (drop 3) e) ∙ take_at x.octets rest n refl in
      λ i. record { subtype = u i; octets = o i }

module _ (d : Said) (t : List ℕ) where
  -- behind TLV 3, behind TLV 2, behind TLV 1
  abbrev rest₃ : List ℕ
  rest₃ = octets_of (field_tlvs d) ++ (written end_tlv ++ t)

  abbrev rest₂ : List ℕ
  rest₂ = written (seconds_tlv d.seconds) ++ rest₃

  abbrev rest₁ : List ℕ
  rest₁ = written (port_tlv d.port) ++ rest₂

  laid_out : encode d ++ t ≡ written (chassis_tlv d.chassis) ++ rest₁
  unfolding encode tlvs_of octets_of
  laid_out =
      let c = written (chassis_tlv d.chassis) in
      let p = written (port_tlv d.port) in
      let q = written (seconds_tlv d.seconds) in
      let f = octets_of (field_tlvs d) in
      let x = octets_of (field_tlvs d ++ (end_tlv ∷ [])) in
      let last : x ++ t ≡ rest₃ = ap (λ (l : List ℕ). l ++ t) (octets-append (field_tlvs d) (end_tlv ∷ [])) ∙ append_assoc f (written end_tlv) t in
      append_assoc c (p ++ (q ++ x)) t
      ∙ ap (λ (l : List ℕ). c ++ l) (append_assoc p (q ++ x) t ∙ ap (λ (l : List ℕ). p ++ l) (append_assoc q x t ∙ ap (λ (l : List ℕ). q ++ l) last))

  module _ (sound : sound_of d ≡ true) where
    abbrev s : List ℕ
    s = encode d ++ t

    chassis-few : length d.chassis.octets ≤ 255
    chassis-few = omega (arith, chassis-short d.chassis (kept d sound).chassis)

    port-few : length d.port.octets ≤ 255
    port-few = (port-short d.port (kept d sound).port).1

    from-chassis : drop (port_place s) s ≡ rest₁
    unfolding port_place
    from-chassis = id-behind s 0 1 d.chassis rest₁ laid_out (omega arith) chassis-few

    from-port : drop (seconds_place s) s ≡ rest₂
    unfolding seconds_place
    from-port = id-behind s (port_place s) 2 d.port rest₂ from-chassis (omega arith) port-few

    from-seconds : drop (rest_place s) s ≡ rest₃
    from-seconds = sym (drop-drop 4 (seconds_place s) s) ∙ ap (drop 4) from-port

    -- where TLV 3 begins
    third-place : seconds_place s ≡ 6 + length d.chassis.octets + length d.port.octets
    unfolding port_place seconds_place
    third-place =
        omega (
          arith,
          id-length s 0 1 d.chassis rest₁ laid_out (omega arith) chassis-few,
          id-length s (port_place s) 2 d.port rest₂ from-chassis (omega arith) port-few,
        )

    rest-is : rest_of s ≡ record { extent = Ok (rest_place s + length (octets_of (field_tlvs d)) + 2); tlvs = laid (rest_place s) (field_tlvs d) }
    rest-is = ap (λ (l : List ℕ). walk l 0 (rest_place s)) from-seconds ∙ walk-octets (rest_place s) t (fields-passed d sound)

    whole_length : rest_place s + length (octets_of (field_tlvs d)) + 2 ≡ length (encode d)
    whole_length =
        omega (
          arith,
          third-place,
          ap length laid_out,
          length-append (encode d) t,
          length-append d.chassis.octets rest₁,
          length-append d.port.octets rest₂,
          length-append (octets_of (field_tlvs d)) (written end_tlv ++ t),
        )

    chassis-back : id_in s 0 ≡ d.chassis
    chassis-back = id-back s 0 1 d.chassis rest₁ laid_out (omega arith) chassis-few

    port-back : id_in s (port_place s) ≡ d.port
    port-back = id-back s (port_place s) 2 d.port rest₂ from-chassis (omega arith) port-few

    pub good-written : Good s (length (encode d))
    good-written =
        record {
          first = id-whole s 0 1 d.chassis rest₁ laid_out (omega arith) chassis-few;
          chassis = ap chassis_ok chassis-back ∙ (kept d sound).chassis;
          second = id-whole s (port_place s) 2 d.port rest₂ from-chassis (omega arith) port-few;
          port = ap port_ok port-back ∙ (kept d sound).port;
          third = ap head_of from-port ∙ head-written (seconds_tlv d.seconds) rest₃ (record { kind = omega arith; body = omega arith });
          rest = ap (λ (w : Walked). w.extent) rest-is ∙ ap Ok whole_length;
        }

    tlvs-back : tlvs_in s ≡ field_tlvs d
    tlvs-back = ap (λ (w : Walked). map (λ p. p.tlv) w.tlvs) rest-is ∙ laid-are (rest_place s) (field_tlvs d)

    seconds-back : seconds_in s ≡ d.seconds
    seconds-back =
        let octet : (i : ℕ) → get_or s (seconds_place s + i) 0 ≡ get_or rest₂ i 0 =
        λ i. sym (get_or-drop (seconds_place s) s i 0) ∙ ap (λ (l : List ℕ). get_or l i 0) from-port in
        ap₂ pair_of (octet 2) (octet 3) ∙ omega arith

    said-back : said_in s (field_tlvs d) ≡ d
    said-back =
        rw (
          chassis-back,
          port-back,
          seconds-back,
          words_back d sound,
          category-back d sound,
          manufacturer-back d sound,
          model-back d sound,
          number-back d sound,
          link-contents d sound,
          extension-contents d sound,
          list-contents d sound,
          first-string d.words,
          first-string d.category,
          first-string d.manufacturer,
          first-string d.model,
          first-string d.number,
          first-link d.link (kept d sound).link,
          first-optional d.extension,
          first-optional d.list,
          system-back d sound,
        )

-- The theorem

-- what is answered of a description that was written: it is valid, has its own length, and HTIP exactly with seconds above 0
abbrev pub answered : Said → ReaderAnswer
answered d = record { refusal = 0; octets = length (encode d); htip = not (eqb d.seconds 0); said = d }

pub read_back : (d : Said) (t : List ℕ) → sound_of d ≡ true → answer_of (encode d ++ t) ≡ answered d
unfolding answer_of
read_back d t sound =
    rw (
      reads (encode d ++ t) (length (encode d)) (good-written d t sound),
      tlvs-back d t sound,
      verdict-back d sound,
      said-back d t sound,
    )

-- behind every header that fits, with any padding, as long as the frame has at most 1,514 octets
pub read-frame-back : (d : Said) (h t : List ℕ) → sound_of d ≡ true → length h ≡ 14 → frame_ok h ≡ true → length (encode d ++ t) ≤ 1500
    → on_frame (refused_answer 3) answer_of (h ++ (encode d ++ t)) ≡ answered d
read-frame-back d h t sound l o m = frame-agrees h (encode d ++ t) l o m (refused_answer 3) answer_of ∙ read_back d t sound

-- and what was read, written again, gives the same octets
pub write_again : (d : Said) (t : List ℕ) → sound_of d ≡ true → encode (answer_of (encode d ++ t)).said ≡ encode d
write_again d t sound = ap (λ (a : ReaderAnswer). encode a.said) (read_back d t sound)
