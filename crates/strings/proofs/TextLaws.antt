-- Laws of the octets of a port description: the tests of the code are the list of the rule, and the loop over a text.
-- The code tests for what is left out, the rule lists what is not.
use Prim.Native.Nat.{ℕ, ◌+◌, ◌<◌, ◌≤◌}
use mathlib.Core.Path.{◌≡◌, refl, sym, ap, ◌∙◌}
use mathlib.Core.List.{List}
use mathlib.Core.Bool.{Bool, true, false, not, ◌||◌, ◌&&◌}
use native.Mathlib.Numerals.{add-one}
use native.Mathlib.Omega.{arith}
use lib.ListN.{length, drop, get_or, drop_of_length-le}
use lib.Seq.{drop-cons}
use lib.Dec.{eqb, ltb}
use Rattle.tally.specs.Tests.{both}
use Rattle.tally.specs.Ranges.{all_below}
use Rattle.tally.proofs.TestsLaws.{both_end}
use Rattle.tally.proofs.RangesLaws.{in-range}
use Rattle.strings.specs.Text.{char_ok, text_ok}

-- One turn of the loop: bad says whether an octet before i was left out, and with what stands from i on it tells of the whole text w

module _ (s : List ℕ) (w : Bool) (i : ℕ) (bad : Bool) where
  pub text-goes : {u : Bool} → both (not bad) (text_ok (drop i s)) ≡ w → i < length s → u ≡ not (char_ok (get_or s i 0)) → both (not (bad || u)) (text_ok (drop (i + 1) s)) ≡ w
  unfolding text_ok
  text-goes {u} inv h p =
      let rest = text_ok (drop (i + 1) s) in
      let e : text_ok (drop i s) ≡ both (char_ok (get_or s i 0)) rest = rw (add-one i, drop-cons s i 0 h) in
      ap (λ (v : Bool). both (not (bad || v)) rest) p ∙ moved bad (char_ok (get_or s i 0)) rest ∙ sym (ap (both (not bad)) e) ∙ inv
    where
      moved : (a b x : Bool) → both (not (a || not b)) x ≡ both (not a) (both b x)
      moved true b x = refl
      moved false true x = refl
      moved false false x = refl

  pub text-ends : both (not bad) (text_ok (drop i s)) ≡ w → length s ≤ i → not bad ≡ w
  unfolding text_ok
  text-ends inv h = sym (both_end (not bad)) ∙ sym (ap (both (not bad)) (rw (drop_of_length-le s h) refl)) ∙ inv

-- One octet: one computed test of all octets gives the rule at each

abbrev left_out : ℕ → Bool
left_out b =
    (((ltb b 32 || (eqb b 34 || eqb b 38)) || (eqb b 60 || eqb b 62)) || ((ltb 90 b && ltb b 97) && not (eqb b 95))) || ltb 122 b

abbrev agree : Bool → Bool → Bool
agree true x = x
agree false x = not x

agrees : (v x : Bool) → agree v x ≡ true → v ≡ x
agrees true x e = sym e
agrees false true e = e
agrees false false e = refl

pub left_out_lem : (b : ℕ) → b < 256 → left_out b ≡ not (char_ok b)
unfolding all_below char_ok
left_out_lem b h = agrees (left_out b) (not (char_ok b)) (in-range (λ d. agree (left_out d) (not (char_ok d))) 0 256 b refl (omega arith) (omega arith))
