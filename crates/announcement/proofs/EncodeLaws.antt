-- Laws of the whole LLDPDU: its octets in the order of the calls.
-- The laws of one TLV are in tlvs/proofs.
use Prim.Native.Nat.{ℕ, suc, ◌+◌, ◌/◌, ◌%◌}
use mathlib.Core.Path.{◌≡◌, refl, sym, ap, ◌∙◌}
use mathlib.Core.List.{List, [], ◌∷◌, ◌++◌, map, append_assoc}
use mathlib.Core.Option.{Option, none}
use native.Mathlib.Omega.{arith}
use lib.ListN.{length}
use Rattle.octets.specs.Header.{high, low}
use Rattle.output.specs.Output.{Put}
use Rattle.output.specs.declared.Output.{Output as Lent}
use Rattle.output.proofs.OutputLaws.{put_then, put_same}
use Rattle.ids.specs.Id.{Id, id}
use Rattle.system.specs.System.{SystemInfo, unsaid}
use Rattle.reading.specs.Meaning.{Said}
use Rattle.tlvs.specs.Tlvs.{written, octets_of, chassis_tlv, port_tlv, seconds_tlv, end_tlv, words_tlv, name_tlv, system_description_tlv, management_tlv, device_tlv, unless_empty, if_flagged, if_linked, if_extended, if_listed}
use Rattle.tlvs.proofs.TlvLaws.{octets-append}
use Rattle.announcement.specs.Encode.{system_tlvs, device_tlvs, field_tlvs, tlvs_of, encode}

-- the system fields put one behind the other, from the output o on
module _ (x : SystemInfo) where
  system-split :
      octets_of (unless_empty name_tlv x.name)
      ++ (octets_of (unless_empty system_description_tlv x.description)
      ++ (octets_of (if_flagged x.capabilities) ++ octets_of (map management_tlv x.management)))
      ≡ octets_of (system_tlvs x)
  unfolding system_tlvs
  system-split = simp octets-append

  pub system-put : {o p q r s : Lent}
      → Put (octets_of (unless_empty name_tlv x.name)) o p
      → Put (octets_of (unless_empty system_description_tlv x.description)) p q
      → Put (octets_of (if_flagged x.capabilities)) q r
      → Put (octets_of (map management_tlv x.management)) r s
      → Put (octets_of (system_tlvs x)) o s
  system-put e f g h = put_same (put_then _ _ e (put_then _ _ f (put_then _ _ g h))) system-split

module _ (d : Said) where
  abbrev words_put : List ℕ
  words_put = octets_of (unless_empty words_tlv d.words)

  abbrev device_put : ℕ → List ℕ → List ℕ
  device_put id x = octets_of (unless_empty (device_tlv id) x)

  devices-split :
      device_put 1 d.category ++ (device_put 2 d.manufacturer ++ (device_put 3 d.model ++ device_put 4 d.number)) ≡ octets_of (device_tlvs d)
  unfolding device_tlvs
  devices-split = simp octets-append

  -- the device information put one behind the other, from the output o on
  pub devices-put : {o p q r s : Lent}
      → Put (device_put 1 d.category) o p
      → Put (device_put 2 d.manufacturer) p q
      → Put (device_put 3 d.model) q r
      → Put (device_put 4 d.number) r s
      → Put (octets_of (device_tlvs d)) o s
  devices-put e f g h = put_same (put_then _ _ e (put_then _ _ f (put_then _ _ g h))) devices-split

  fields_split :
      words_put ++ (octets_of (system_tlvs d.system) ++ (octets_of (device_tlvs d) ++ (octets_of (if_linked d.link) ++ (octets_of (if_extended d.extension) ++ octets_of (if_listed d.list)))))
      ≡ octets_of (field_tlvs d)
  unfolding field_tlvs
  fields_split = simp octets-append

  -- the fields, likewise
  pub fields-put : {o p q r s t u : Lent}
      → Put words_put o p
      → Put (octets_of (system_tlvs d.system)) p q
      → Put (octets_of (device_tlvs d)) q r
      → Put (octets_of (if_linked d.link)) r s
      → Put (octets_of (if_extended d.extension)) s t
      → Put (octets_of (if_listed d.list)) t u
      → Put (octets_of (field_tlvs d)) o u
  fields-put e f g h i j =
      put_same (put_then _ _ e (put_then _ _ f (put_then _ _ g (put_then _ _ h (put_then _ _ i j))))) fields_split

  encode-split :
      written (chassis_tlv d.chassis)
      ++ (written (port_tlv d.port) ++ (written (seconds_tlv d.seconds) ++ (octets_of (field_tlvs d) ++ written end_tlv)))
      ≡ encode d
  unfolding encode tlvs_of octets_of
  encode-split =
      ap (λ (l : List ℕ). written (chassis_tlv d.chassis) ++ (written (port_tlv d.port) ++ (written (seconds_tlv d.seconds) ++ l)))
      (sym (octets-append (field_tlvs d) (end_tlv ∷ [])))

  -- the whole, likewise
  pub encode-put : {o p q r s t : Lent}
      → Put (written (chassis_tlv d.chassis)) o p
      → Put (written (port_tlv d.port)) p q
      → Put (written (seconds_tlv d.seconds)) q r
      → Put (octets_of (field_tlvs d)) r s
      → Put (written end_tlv) s t
      → Put (encode d) o t
  encode-put e f g h i =
      put_same (put_then _ _ e (put_then _ _ f (put_then _ _ g (put_then _ _ h i)))) encode-split

  -- a chassis that is an address of six octets: these octets stand first, as when no other chassis could be written
  pub six-as-before : (a : List ℕ) → d.chassis ≡ id 4 a → length a ≡ 6
      → encode d
      ≡ 0x02 ∷ 0x07 ∷ 0x04 ∷ (a
      ++ (high 2 (1 + length d.port.octets) ∷ low (1 + length d.port.octets) ∷ d.port.subtype ∷ (d.port.octets
      ++ (0x06 ∷ 0x02 ∷ d.seconds / 256 ∷ d.seconds % 256 ∷ (octets_of (field_tlvs d) ++ (0x00 ∷ 0x00 ∷ []))))))
  six-as-before a e six =
      let n = length d.port.octets in
      let p : 1 + n ≡ suc n = omega arith in
      sym encode-split
      ∙ ap (λ (c : Id). written (chassis_tlv c) ++ (written (port_tlv d.port) ++ (written (seconds_tlv d.seconds) ++ (octets_of (field_tlvs d) ++ written end_tlv)))) e
      ∙ rw (six, p) refl

  -- the octets of the order that W1 had before there was extension link information, each TLV by its definition
  abbrev pub octets_without : List ℕ
  octets_without =
      written (chassis_tlv d.chassis)
      ++ (written (port_tlv d.port)
      ++ (written (seconds_tlv d.seconds)
      ++ (words_put
      ++ (octets_of (system_tlvs d.system)
      ++ (octets_of (device_tlvs d) ++ (octets_of (if_linked d.link) ++ (octets_of (if_listed d.list) ++ written end_tlv)))))))

  -- they are written where there is none
  pub without_extension : d.extension ≡ none → encode d ≡ octets_without
  unfolding octets_of
  without_extension e =
      let absent : octets_of (if_extended d.extension) ≡ [] = ap (λ (x : Option (List ℕ)). octets_of (if_extended x)) e in
      sym encode-split
      ∙ ap (λ (l : List ℕ). written (chassis_tlv d.chassis) ++ (written (port_tlv d.port) ++ (written (seconds_tlv d.seconds) ++ (l ++ written end_tlv)))) (sym fields_split)
      ∙ rw absent (simp append_assoc)

  -- and those of before there were system fields
  abbrev pub octets_before : List ℕ
  octets_before =
      written (chassis_tlv d.chassis)
      ++ (written (port_tlv d.port)
      ++ (written (seconds_tlv d.seconds)
      ++ (octets_of (unless_empty words_tlv d.words)
      ++ (octets_of (unless_empty (device_tlv 1) d.category)
      ++ (octets_of (unless_empty (device_tlv 2) d.manufacturer)
      ++ (octets_of (unless_empty (device_tlv 3) d.model)
      ++ (octets_of (unless_empty (device_tlv 4) d.number)
      ++ (octets_of (if_linked d.link) ++ (octets_of (if_listed d.list) ++ written end_tlv)))))))))

  pub without-both : d.system ≡ unsaid → d.extension ≡ none → encode d ≡ octets_before
  unfolding system_tlvs octets_of
  without-both e x =
      let absent : octets_of (system_tlvs d.system) ≡ [] = ap (λ (y : SystemInfo). octets_of (system_tlvs y)) e in
      without_extension x ∙ rw (absent, ← devices-split) (simp append_assoc)
