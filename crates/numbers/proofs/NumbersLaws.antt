-- Laws of the numbers: no port holds more than there are places, so that no sum overflows.
-- They hold for any table, fit or not.
use Prim.Native.Nat.{ℕ, zero, suc, ◌+◌, ◌-◌, ◌≤◌, ◌<◌}
use mathlib.Core.Path.{◌≡◌, refl, sym, ap, ap₂, ◌∙◌}
use mathlib.Core.Bool.{Bool, true, false}
use native.Mathlib.Decide.{dec_lt}
use native.Mathlib.Omega.{arith}
use Rattle.std.specs.Prelude.{Option, Some, None, MatchOption, unwrap_or}
use Rattle.tally.specs.Tests.{pick}
use Rattle.tally.specs.Counts.{sum, first_from}
use Rattle.tally.proofs.CountsLaws.{count_none, count-step, count-le, sum_more, first-le, first_passes}
use Rattle.rules.specs.Shares.{sure, beyond}
use Rattle.numbers.specs.Sizes.{places}
use Rattle.numbers.specs.Numbers.{used_by, holds}
use Rattle.numbers.specs.declared.Table.{Table}

pub holds-le : (t : Table) (p : ℕ) → holds t p ≤ places
unfolding holds
holds-le t p = count-le (used_by t p) places

-- one port more, with s for what those in front hold beyond two
pub beyond-more : (held : ℕ → ℕ) (p : ℕ) {n s : ℕ} → n ≡ held p → s ≡ sum (λ q. held q - sure) p → s + (n - sure) ≡ sum (λ q. held q - sure) (p + 1)
beyond-more held p e w = ap₂ ◌+◌ w (ap (λ (x : ℕ). x - sure) e) ∙ sym (sum_more (λ q. held q - sure) p)

pub beyond-sum : (held : ℕ → ℕ) (n : ℕ) → sum (λ q. held q - sure) n ≡ beyond n held
unfolding beyond
beyond-sum held n = refl

-- what a loop that counts places cites
pub ruleset counting = (count_none, count-step, count-le)

-- the first of the numbers below n that passes f

first-most : (f : ℕ → Bool) (m i : ℕ) → first_from f i m ≤ i + m
unfolding first_from
first-most f zero i = omega arith
first-most f (suc m) i = go (f i) (first-most f m (suc i))
  where
    go : (b : Bool) → first_from f (suc i) m ≤ suc i + m → pick b i (first_from f (suc i) m) ≤ i + suc m
    go true h = omega arith
    go false h = omega arith

module _ (f : ℕ → Bool) (n : ℕ) where
  pub first-none : ((k : ℕ) → k < n → f k ≡ false) → n ≡ first_from f 0 n
  first-none h =
      elim (dec_lt (first_from f 0 n) n) [
        | yes l ↦ let m : first_from f 0 n < 0 + n = omega arith in absurd (cc (first_passes f n 0 m, h (first_from f 0 n) l))
        | no l ↦ omega (arith, first-most f n 0)
      ]

  pub first-is : {i : ℕ} → i < n → f i ≡ true → ((k : ℕ) → k < i → f k ≡ false) → first_from f 0 n ≡ i
  first-is {i} l e h =
      let b : i < 0 + n = omega arith in
      let m = first-le f n 0 i (omega arith) b e in
      elim (dec_lt (first_from f 0 n) i) [
        | yes b ↦ let m : first_from f 0 n < 0 + n = omega arith in absurd (cc (first_passes f n 0 m, h (first_from f 0 n) b))
        | no b ↦ omega arith
      ]

-- what a search over the places by f gives, where n stands for none
pub first-found : (f : ℕ → Bool) (n : ℕ) (r : Option ℕ)
    → MatchOption r ((k : ℕ) → 0 ≤ k → k < n → f k ≡ false) (λ i. (0 ≤ i) × (i < n) × (f i ≡ true) × ((k : ℕ) → 0 ≤ k → k < i → f k ≡ false))
    → unwrap_or r n ≡ first_from f 0 n
first-found f n None h = first-none f n (λ k l. h k (omega arith) l)
first-found f n (Some i) h = sym (first-is f n h.1 h.2 (λ k l. h.3 k (omega arith) l))
