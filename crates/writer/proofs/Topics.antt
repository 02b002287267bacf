-- What the written fields say: each TLV that the writer makes of a topic is read as that topic with the same content.
-- `Speaks ts n cs`: the TLVs ts are passed by the walk, are well formed, and have the contents cs of topic n and none of another.
use Prim.Native.Nat.{ℕ, ◌+◌, ◌*◌, ◌/◌, ◌%◌, ◌<◌, ◌≤◌}
use mathlib.Core.Path.{◌≡◌, refl, sym, ap, ap₂, ◌∙◌}
use mathlib.Core.List.{List, [], ◌∷◌, ◌++◌, map, append_assoc}
use mathlib.Core.Bool.{Bool, true, false}
use mathlib.Core.Option.{Option, none, some}
use native.Mathlib.Omega.{arith}
use borrow.Author.Tests.{eq-eqb, le-leb, le-ltb, leb-true, eqb-true}
use lib.ListN.{length, drop, get_or, length-append}
use lib.Seq.{drop_at, take_at, get_or_at}
use lib.Dec.{leb, eqb}
use Rattle.tally.specs.Tests.{pick}
use Rattle.tally.proofs.TestsLaws.{both_true, Held, held}
use Rattle.strings.specs.Text.{text_ok}
use Rattle.strings.specs.Wants.{wanted_of}
use Rattle.fields.specs.Device.{device_of}
use Rattle.links.specs.Link.{link_ok, list_ok}
use Rattle.fields.specs.Field.{link, address_list, extension, port_description, system_name, system_description, capabilities, management, description_of, management_ok, management_of, link_of, list_of, extension_of, is_ttc, ttc_of, field_of}
use Rattle.strings.specs.declared.Wanted.TheVariants.{Text}
use Rattle.fields.specs.declared.Field.TheVariants.{Says}
use Rattle.links.proofs.LinkLaws.{link-counts}
use Rattle.walk.specs.Walk.{Tlv, step_of}
use Rattle.walk.proofs.WalkLaws.{other-passed}
use Rattle.found.specs.Contents.{contents, well_formed, LinkInfo, first}
use Rattle.found.proofs.ContentsLaws.{formed-append}
use Rattle.octets.specs.Numbers.{pair_of}
use Rattle.system.specs.System.{Flags, flags, flags_in, management_sound}
use Rattle.reading.specs.Meaning.{first_link, first_content}
use Rattle.tlvs.specs.Tlvs.{tlv, words_tlv, name_tlv, system_description_tlv, flags_tlv, management_tlv, ttc_tlv, device_tlv, link_content, link_tlv, extension_tlv, list_tlv, unless_empty, if_flagged, if_linked, if_extended, if_listed}
use Rattle.description.specs.Rules.{table_rules, table_sound, link_sound, content_sound, extension_sound, listed_sound, list_sound}
use Rattle.description.proofs.RulesLaws.{content}
use Rattle.tlvs.proofs.TlvLaws.{link-length}
use Rattle.writer.proofs.ReadBack.{Passed, AllPassed, none_passed, more-passed}

-- Lists of TLVs

pub formed-both : (a b : List Tlv) → well_formed a ≡ true → well_formed b ≡ true → well_formed (a ++ b) ≡ true
formed-both a b p q = formed-append a b ∙ rw (p, q)

pub record Speaks (ts : List Tlv) (n : ℕ) (cs : List (List ℕ)) : Type 0 where
  pub contents-are : (topic : ℕ) → contents topic ts ≡ pick (eqb topic n) cs []
  pub well-formed : well_formed ts ≡ true
  pub passed : AllPassed ts

-- no TLV at all
pub silent : (n : ℕ) → Speaks [] n []
unfolding contents well_formed
silent n = record { contents-are = λ topic. go (eqb topic n); well-formed = refl; passed = none_passed }
  where
    go : (b : Bool) → ◌≡◌ {A = List (List ℕ)} [] (pick b [] [])
    go true = refl
    go false = refl

-- one TLV that is read as topic n with content c
pub record About (t : Tlv) (n : ℕ) (c : List ℕ) : Type 0 where
  pub skip : ℕ
  pub says : field_of t.kind t.body ≡ Says n skip
  pub content : drop skip t.body ≡ c
  pub goes : Passed t

pub speaks_more : {t : Tlv} {n : ℕ} {c : List ℕ} {ts : List Tlv} {cs : List (List ℕ)} → About t n c → Speaks ts n cs → Speaks (t ∷ ts) n (c ∷ cs)
unfolding contents well_formed
speaks_more {t} {n} {c} {ts} {cs} a b =
    record {
      contents-are = λ topic. rw (a.says, a.content, b.contents-are topic) (go (eqb topic n));
      well-formed = rw a.says b.well-formed;
      passed = more-passed a.goes b.passed;
    }
  where
    go : (u : Bool) → pick u (c ∷ pick u cs []) (pick u cs []) ≡ pick u (c ∷ cs) []
    go true = refl
    go false = refl

pub speaks-one : {t : Tlv} {n : ℕ} {c : List ℕ} → About t n c → Speaks (t ∷ []) n (c ∷ [])
speaks-one {n = n} a = speaks_more a (silent n)

abbrev pub unless_none : List ℕ → List (List ℕ)
unless_none [] = []
unless_none (x ∷ l) = (x ∷ l) ∷ []

pub speaks-string : (f : List ℕ → Tlv) (n : ℕ) (l : List ℕ) → (1 ≤ length l → About (f l) n l) → Speaks (unless_empty f l) n (unless_none l)
speaks-string f n [] a = silent n
speaks-string f n (x ∷ l) a = speaks-one (a (omega arith))

-- A TLV whose whole information string is the content: port description (T10) and system fields (S1 to S3)

whole-about : (kind topic : ℕ) (b : List ℕ) → field_of kind b ≡ Says topic 0 → kind < 127 → 3 < kind → length b < 512 → About (tlv kind b) topic b
whole-about kind topic b e low high h =
    record {
      skip = 0;
      says = e;
      content = refl;
      goes =
          record {
            short = record { kind = omega arith; body = h };
            passed = λ at. other-passed kind (length b) at high low;
          };
    }

pub words-about : (b : List ℕ) → length b ≤ 255 → text_ok b ≡ true → About (words_tlv b) port_description b
unfolding field_of description_of
words-about b h t = whole-about 4 port_description b (rw (le-leb (length b) 255 h, t)) (omega arith) (omega arith) (omega arith)

pub system-name-about : (b : List ℕ) → length b ≤ 255 → About (name_tlv b) system_name b
unfolding field_of
system-name-about b h = whole-about 5 system_name b refl (omega arith) (omega arith) (omega arith)

pub system-description-about : (b : List ℕ) → length b ≤ 255 → About (system_description_tlv b) system_description b
unfolding field_of
system-description-about b h = whole-about 6 system_description b refl (omega arith) (omega arith) (omega arith)

flags-about : (f : Flags) → About (flags_tlv f) capabilities (flags_tlv f).body
unfolding field_of
flags-about f = whole-about 7 capabilities (flags_tlv f).body refl (omega arith) (omega arith) (omega arith)

address-about : (a : List ℕ) → management_ok (length a) ≡ true → About (management_tlv a) management a
unfolding field_of management_of
address-about a e =
    let h = leb-true (length a) 167 (both_true (leb 9 (length a)) (leb (length a) 167) e).1 in
    whole-about 8 management a (rw e) (omega arith) (omega arith) (omega arith)

pub speaks-management : (l : List (List ℕ)) → management_sound l ≡ true → Speaks (map management_tlv l) management l
speaks-management [] e = silent management
speaks-management (a ∷ l) e =
    let w = both_true (management_ok (length a)) (management_sound l) e in
    speaks_more (address-about a w.0) (speaks-management l w.1)

-- TTC fields (T1)

ttc-passed : (subtype : ℕ) (c : List ℕ) → length c ≤ 507 → Passed (ttc_tlv subtype c)
unfolding step_of
ttc-passed subtype c h =
    record {
      short = record { kind = omega arith; body = omega arith };
      passed = λ at. rw (le-ltb (length (ttc_tlv subtype c).body) 4 (omega arith));
    }

-- Device information (T2, T3)

pub device-about : (id most : ℕ) (x : List ℕ) → wanted_of id ≡ Text most → most ≤ 255 → length x ≤ most → 1 ≤ length x → About (device_tlv id x) id x
unfolding field_of is_ttc ttc_of device_of
device-about id most x w m h p =
    record {
      skip = 6;
      says =
          rw (
            le-ltb (length (device_tlv id x).body) 5 (omega arith),
            w,
            eq-eqb (length (device_tlv id x).body) (6 + length x) (omega arith),
            le-leb 1 (length x) p,
            le-leb (length x) most h,
          );
      content = refl;
      goes = ttc-passed 1 (id ∷ length x ∷ x) (omega arith);
    }

-- Address list (T8)

pub list-about : (a : List ℕ) → listed_sound (length a) ≡ true → About (list_tlv a) address_list a
unfolding field_of is_ttc ttc_of list_of list_ok
list-about a e =
    let w = both_true (eqb (length a % 6) 0) (leb (5 + length a) 511) e in
    let z : length a % 6 ≡ 0 = eqb-true (length a % 6) 0 w.0 in
    let h : 5 + length a ≤ 511 = leb-true (5 + length a) 511 w.1 in
    record {
      skip = 5;
      says = rw (eq-eqb (length (list_tlv a).body) (5 + 6 * (length a / 6)) (omega arith));
      content = refl;
      goes = ttc-passed 3 (length a / 6 ∷ a) (omega arith);
    }

-- Extension link information (T11)

pub extension-about : (c : List ℕ) → content_sound c ≡ true → About (extension_tlv c) extension c
unfolding field_of is_ttc ttc_of extension_of
extension-about c e =
    let h = content c e in
    record { skip = 4; says = rw h.formed; content = refl; goes = ttc-passed 4 c (omega (arith, h.short)) }

-- Link information (T7)

module _ (l : LinkInfo) (e : table_sound (length l.interface) (length l.port) (length l.addresses) ≡ true) where
  abbrev n : ℕ
  n = length l.interface

  abbrev m : ℕ
  m = length l.port

  abbrev k : ℕ
  k = length l.addresses

  abbrev tail : List ℕ
  tail = k / 6 ∷ l.addresses

  abbrev linked : List ℕ
  linked = link_content l

  rules-hold : Held (table_rules n m k)
  rules-hold = held (table_rules n m k) e

  sixes : k % 6 ≡ 0
  sixes = eqb-true (k % 6) 0 rules-hold.1.1.1.1.0

  -- the octets in front of a count, with f in front of the content
  numbered : (f : List ℕ) → get_or (f ++ linked) (length f + (1 + n)) 0 ≡ m
  numbered f =
      ap (λ (x : List ℕ). get_or x (length f + (1 + n)) 0) (sym (append_assoc f (n ∷ l.interface) (m ∷ (l.port ++ tail))))
      ∙ get_or_at (f ++ (n ∷ l.interface)) m (l.port ++ tail) 0 (length f + (1 + n)) (length-append f (n ∷ l.interface) ∙ omega arith)

  split : linked ≡ (n ∷ (l.interface ++ (m ∷ l.port))) ++ tail
  split = ap (λ (x : List ℕ). n ∷ x) (sym (append_assoc l.interface (m ∷ l.port) tail))

  front_long : length (n ∷ (l.interface ++ (m ∷ l.port))) ≡ 2 + n + m
  front_long = omega (arith, length-append l.interface (m ∷ l.port))

  counted : (f : List ℕ) → get_or (f ++ linked) (length f + (2 + n + m)) 0 ≡ k / 6
  counted f =
      let front = n ∷ (l.interface ++ (m ∷ l.port)) in
      ap (λ (x : List ℕ). get_or (f ++ x) (length f + (2 + n + m)) 0) split
      ∙ ap (λ (x : List ℕ). get_or x (length f + (2 + n + m)) 0) (sym (append_assoc f front tail))
      ∙ get_or_at (f ++ front) (k / 6) l.addresses 0 (length f + (2 + n + m)) (omega (arith, length-append f front, front_long))

  table-formed : link_ok (link_tlv l).body ≡ true
  table-formed =
      let b = (link_tlv l).body in
      let h = rules-hold in
      let z = sixes in
      let five : 4 + (1 + n) ≡ 5 + n = omega arith in
      let six : 4 + (2 + n + m) ≡ 6 + n + m = omega arith in
      let q : m ≡ get_or b (5 + n) 0 = sym (numbered (0xE0 ∷ 0x27 ∷ 0x1A ∷ 2 ∷ [])) ∙ ap (λ (i : ℕ). get_or b i 0) five in
      let r : k / 6 ≡ get_or b (6 + n + m) 0 = sym (counted (0xE0 ∷ 0x27 ∷ 0x1A ∷ 2 ∷ [])) ∙ ap (λ (i : ℕ). get_or b i 0) six in
      link-counts b refl q r
      ∙ rw (h.0, h.1.0, h.1.1.0, h.1.1.1.0, eq-eqb (length b) (7 + n + m + 6 * (k / 6)) (omega (arith, link-length l)))

  pub link-about : About (link_tlv l) link linked
  unfolding field_of is_ttc ttc_of link_of
  link-about =
      let h : 7 + n + m + k ≤ 511 = leb-true (7 + n + m + k) 511 rules-hold.1.1.1.1.1.0 in
      record { skip = 4; says = rw table-formed; content = refl; goes = ttc-passed 2 linked (omega (arith, link-length l)) }

  port-from : drop (2 + n) linked ≡ l.port ++ tail
  port-from =
      ap (λ (x : List ℕ). drop (2 + n) (n ∷ x)) (sym (append_assoc l.interface (m ∷ []) (l.port ++ tail)))
      ∙ drop_at (n ∷ (l.interface ++ (m ∷ []))) (l.port ++ tail) (2 + n) (omega (arith, length-append l.interface (m ∷ [])))

  rest_from : drop (3 + n + m) linked ≡ l.addresses
  rest_from =
      ap (drop (3 + n + m)) (split ∙ sym (append_assoc (n ∷ (l.interface ++ (m ∷ l.port))) (k / 6 ∷ []) l.addresses))
      ∙ drop_at ((n ∷ (l.interface ++ (m ∷ l.port))) ++ (k / 6 ∷ [])) l.addresses (3 + n + m)
      (omega (arith, length-append (n ∷ (l.interface ++ (m ∷ l.port))) (k / 6 ∷ []), front_long))

  pub link-back : first_link (linked ∷ []) ≡ some l
  link-back =
      let e : 1 + n ≡ 0 + (1 + n) = omega arith in
      let second : get_or linked (1 + n) 0 ≡ m = ap (λ (i : ℕ). get_or linked i 0) e ∙ numbered [] in
      rw (second, port-from, rest_from, take_at l.interface (m ∷ (l.port ++ tail)) n refl, take_at l.port tail m refl)

-- What the optional ones speak of

abbrev pub link_contents : Option LinkInfo → List (List ℕ)
link_contents none = []
link_contents (some l) = link_content l ∷ []

pub speaks-link : (o : Option LinkInfo) → link_sound o ≡ true → Speaks (if_linked o) link (link_contents o)
speaks-link none e = silent link
speaks-link (some l) e = speaks-one (link-about l e)

pub first-link : (o : Option LinkInfo) → link_sound o ≡ true → first_link (link_contents o) ≡ o
first-link none e = refl
first-link (some l) e = link-back l e

abbrev pub flags_contents : Option Flags → List (List ℕ)
flags_contents none = []
flags_contents (some f) = (flags_tlv f).body ∷ []

pub speaks-flags : (o : Option Flags) → Speaks (if_flagged o) capabilities (flags_contents o)
speaks-flags none = silent capabilities
speaks-flags (some f) = speaks-one (flags-about f)

pub first-flags : (o : Option Flags) → flags_in (first (flags_contents o)) ≡ o
first-flags none = refl
first-flags (some f) =
    let joined : (n : ℕ) → pair_of (n / 256) (n % 256) ≡ n = λ n. omega arith in
    ap₂ (λ (x y : ℕ). some (flags x y)) (joined f.able) (joined f.enabled)

abbrev pub optional_contents : Option (List ℕ) → List (List ℕ)
optional_contents none = []
optional_contents (some a) = a ∷ []

pub speaks-extension : (o : Option (List ℕ)) → extension_sound o ≡ true → Speaks (if_extended o) extension (optional_contents o)
speaks-extension none e = silent extension
speaks-extension (some c) e = speaks-one (extension-about c e)

pub speaks-list : (o : Option (List ℕ)) → list_sound o ≡ true → Speaks (if_listed o) address_list (optional_contents o)
speaks-list none e = silent address_list
speaks-list (some a) e = speaks-one (list-about a e)

pub first-optional : (o : Option (List ℕ)) → first_content (optional_contents o) ≡ o
first-optional none = refl
first-optional (some a) = refl

pub first-string : (l : List ℕ) → first (unless_none l) ≡ l
first-string [] = refl
first-string (x ∷ l) = refl
