-- Laws of extension link information and of management addresses: their octets.
-- They are said over the parts that the code has in hand.
use Prim.Native.Nat.{ℕ, ◌+◌, ◌<◌, ◌≤◌}
use mathlib.Core.Path.{◌≡◌, refl, sym, ap, ◌∙◌}
use mathlib.Core.List.{List, [], ◌∷◌, ◌++◌, map, map-append}
use native.Mathlib.Omega.{arith}
use native.Mathlib.Numerals.{add-one}
use lib.ListN.{length, take, get_or, get_or-map, length-map}
use lib.Seq.{take-suc, take_all}
use Rattle.std.specs.Prelude.{Option as CodeOption, Some}
use Rattle.text.specs.Part.{nowhere, text_of, optional_text}
use Rattle.text.specs.declared.Part.{Part}
use Rattle.tlvs.specs.Tlvs.{written, octets_of, management_tlv, extension_tlv, if_extended}
use Rattle.tlvs.proofs.TlvLaws.{one-octets, octets-append}

-- extension link information that is there
pub extension-octets : (s : List ℕ) {o : CodeOption Part} {p : Part} {x : List ℕ} → o ≡ Some p → x ≡ text_of s p → written (extension_tlv x) ≡ octets_of (if_extended (optional_text s o))
extension-octets s {o} {p} e q = rw (e, q) (sym (one-octets (extension_tlv (text_of s p))))

-- The first i management addresses, of the parts ps of a description
module _ (s : List ℕ) (ps : List Part) where
  abbrev pub put_up_to : ℕ → List ℕ
  put_up_to i = octets_of (map management_tlv (take i (map (text_of s) ps)))

  pub management-none : [] ≡ put_up_to 0
  unfolding octets_of
  management-none = refl

  pub management-more : (i : ℕ) → i < length ps → {x : List ℕ} → x ≡ text_of s (get_or ps i nowhere) → put_up_to i ++ written (management_tlv x) ≡ put_up_to (i + 1)
  management-more i h e =
      let all = map (text_of s) ps in
      let here = e ∙ sym (get_or-map (text_of s) ps i nowhere) in
      let next = ap (λ (n : ℕ). take n all) (add-one i) ∙ take-suc all i [] (omega (arith, length-map ps (text_of s))) in
      ap (λ (y : List ℕ). put_up_to i ++ written (management_tlv y)) here
      ∙ ap (λ (y : List ℕ). put_up_to i ++ y) (sym (one-octets (management_tlv (get_or all i []))))
      ∙ sym (octets-append (map management_tlv (take i all)) (management_tlv (get_or all i []) ∷ []))
      ∙ ap octets_of (sym (map-append management_tlv (take i all) (get_or all i [] ∷ [])))
      ∙ ap (λ (y : List (List ℕ)). octets_of (map management_tlv y)) (sym next)

  pub management-all : (i : ℕ) → length ps ≤ i → put_up_to i ≡ octets_of (map management_tlv (map (text_of s) ps))
  management-all i h = ap (λ (y : List (List ℕ)). octets_of (map management_tlv y)) (take_all i (map (text_of s) ps) (omega (arith, length-map ps (text_of s))))
