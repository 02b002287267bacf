-- Laws of the place that is found: what the answer says of the place, and that a search which meets the places in turn gives it.
-- A place past the last stands for none.
use Prim.Native.Nat.{ℕ, ◌+◌, ◌≤◌, ◌<◌}
use mathlib.Core.Path.{◌≡◌, refl, sym, ◌∙◌}
use mathlib.Core.Bool.{Bool, true, false}
use native.Mathlib.Decide.{dec_lt}
use native.Mathlib.Omega.{arith}
use borrow.Author.Tests.{le-ltb, lt-ltb, ltb-true, ltb-false}
use lib.Dec.{ltb}
use Rattle.std.specs.Prelude.{Option, Some, None, MatchOption}
use Rattle.tally.specs.Tests.{pick}
use Rattle.tally.specs.Counts.{first_from}
use Rattle.tally.proofs.CountsLaws.{first-le, first_passes}
use Rattle.numbers.specs.Sizes.{places}
use Rattle.place.specs.State.{place_found}

pub found-some : (k : ℕ) {i : ℕ} → place_found k ≡ Some i → (k ≡ i) × (i < places)
found-some k {i} e = go (ltb k places) refl e
  where
    go : (b : Bool) → ltb k places ≡ b → pick b (Some k) None ≡ Some i → (k ≡ i) × (i < places)
    go true q w =
        let d : k ≡ i = cc in
        (d, omega (arith, d, ltb-true k places q))
    go false q w = absurd (cc)

pub found-none : (k : ℕ) → place_found k ≡ None → places ≤ k
found-none k e = go (ltb k places) refl e
  where
    go : (b : Bool) → ltb k places ≡ b → pick b (Some k) None ≡ None → places ≤ k
    go true q w = absurd (cc)
    go false q w = ltb-false k places q

-- the first of the numbers below n that passes
module _ (f : ℕ → Bool) (n : ℕ) where
  first-none : ((k : ℕ) → k < n → f k ≡ false) → n ≤ first_from f 0 n
  first-none h =
      elim (dec_lt (first_from f 0 n) n) [
        | yes l ↦ let m : first_from f 0 n < 0 + n = omega arith in absurd (cc (first_passes f n 0 m, h (first_from f 0 n) l))
        | no l ↦ omega arith
      ]

  first-is : {i : ℕ} → i < n → f i ≡ true → ((k : ℕ) → k < i → f k ≡ false) → first_from f 0 n ≡ i
  first-is {i} l e h =
      let b : i < 0 + n = omega arith in
      let m = first-le f n 0 i (omega arith) b e in
      elim (dec_lt (first_from f 0 n) i) [
        | yes b ↦ absurd (cc (first_passes f n 0 (omega arith), h (first_from f 0 n) b))
        | no b ↦ omega arith
      ]

-- a search over all places by g, which is f where there is a place
pub found : (f g : ℕ → Bool) → ((k : ℕ) → k < places → g k ≡ f k) → (r : Option ℕ)
    → MatchOption r ((k : ℕ) → 0 ≤ k → k < places → g k ≡ false) (λ i. (0 ≤ i) × (i < places) × (g i ≡ true) × ((k : ℕ) → 0 ≤ k → k < i → g k ≡ false))
    → r ≡ place_found (first_from f 0 places)
found f g same None h = sym (rw (le-ltb _ places (first-none f places (λ k l. sym (same k l) ∙ h k (omega arith) l))))
found f g same (Some i) h =
    let e = first-is f places h.1 (sym (same i h.1) ∙ h.2) (λ k l. sym (same k (omega arith)) ∙ h.3 k (omega arith) l) in
    sym (rw (e, lt-ltb i places h.1))
