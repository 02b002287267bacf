-- Laws of tests over ranges: from one computed test to the rule at each number, and what a search loop cites.
-- They hold for any test.
use Prim.Native.Nat.{ℕ, zero, suc, ◌+◌, ◌-◌, ◌<◌, ◌≤◌}
use mathlib.Core.Path.{◌≡◌, refl, sym, ap, ◌∙◌}
use mathlib.Core.List.{List, [], ◌∷◌, map}
use mathlib.Core.Bool.{Bool, true, false}
use mathlib.Core.Logic.{⊎_elim}
use native.Mathlib.Nat.{eq-or-lt_of_le, le_of_suc-le-suc, not-suc-le-zero}
use native.Mathlib.Omega.{arith}
use native.Mathlib.Numerals.{add-one}
use borrow.Author.Tests.{eqb-true, eqb-false}
use lib.Dec.{eqb}
use lib.ListN.{length, get_or}
use Rattle.tally.specs.Tests.{both, either, all}
use Rattle.tally.specs.Ranges.{all_below, some_below}
use Rattle.tally.proofs.TestsLaws.{both_end, both_false, either-right}

-- Every one

module _ (f : ℕ → Bool) where
  pub all_none : all_below f 0 ≡ true
  unfolding all_below
  all_none = refl

  pub all_more : (i : ℕ) → all_below f i ≡ true → f i ≡ true → all_below f (i + 1) ≡ true
  unfolding all_below
  all_more i a e = rw (add-one, a, e)

  pub all-stop : (i n : ℕ) → i < n → f i ≡ false → all_below f n ≡ false
  unfolding all_below
  all-stop i zero l e = absurd (not-suc-le-zero l)
  all-stop i (suc n) l e =
      ⊎_elim (λ (h : i ≡ n). rw (← h, e, both_false)) (λ h. rw (all-stop i n h e)) (eq-or-lt_of_le (le_of_suc-le-suc l))

  pub all_true : (n : ℕ) → all_below f n ≡ true → (k : ℕ) → k < n → f k ≡ true
  all_true n a k l = go (f k) refl
    where
      go : (b : Bool) → f k ≡ b → f k ≡ true
      go true e = e
      go false e = let x = all-stop k n l e in cc

  pub all-each : (n : ℕ) → ((k : ℕ) → k < n → f k ≡ true) → all_below f n ≡ true
  unfolding all_below
  all-each zero h = refl
  all-each (suc n) h = rw (all-each n (λ k l. h k (omega arith)), h n (omega arith))

-- from one computed test of the n numbers from lo on to the rule at each of them
pub in-range : (p : ℕ → Bool) (lo n b : ℕ) → all_below (λ d. p (lo + d)) n ≡ true → lo ≤ b → b < lo + n → p b ≡ true
in-range p lo n b e h k = ap p (omega arith) ∙ all_true (λ d. p (lo + d)) n e (b - lo) (omega arith)

-- a test asked of each of a list, by the numbers of its elements: what a loop over the list cites at its end

all_first : (f : ℕ → Bool) (n : ℕ) → all_below f (suc n) ≡ both (f 0) (all_below (λ k. f (suc k)) n)
unfolding all_below
all_first f zero = sym (both_end (f 0))
all_first f (suc n) = rw (all_first f n) (moved (f 0))
  where
    moved : (a : Bool) → both (both a (all_below (λ k. f (suc k)) n)) (f (suc n)) ≡ both a (both (all_below (λ k. f (suc k)) n) (f (suc n)))
    moved true = refl
    moved false = refl

pub all_listed : {A : Type 0} (f : A → Bool) (l : List A) (d : A) → all_below (λ k. f (get_or l k d)) (length l) ≡ all (map f l)
unfolding all_below
all_listed f [] d = refl
all_listed f (x ∷ l) d = all_first (λ k. f (get_or (x ∷ l) k d)) (length l) ∙ ap (both (f x)) (all_listed f l d)

-- Some one

-- the loop that looks for a number below n: nothing is found below 0, a miss goes on, a hit decides
module _ (p : ℕ → Bool) where
  pub some-none : some_below p 0 ≡ false
  unfolding some_below
  some-none = refl

  pub some-miss : (i : ℕ) → some_below p i ≡ false → p i ≡ false → some_below p (i + 1) ≡ false
  unfolding some_below
  some-miss i e f = rw (add-one i, e, f)

  pub some-hit : (i n : ℕ) → i < n → p i ≡ true → some_below p n ≡ true
  unfolding some_below
  some-hit i zero h t = absurd (omega arith)
  some-hit i (suc n) h t = go (eqb i n) refl (some-hit i n)
    where
      go : (b : Bool) → eqb i n ≡ b → (i < n → p i ≡ true → some_below p n ≡ true) → either (some_below p n) (p n) ≡ true
      go true e ih = either-right (some_below p n) (p n) (ap p (sym (eqb-true i n e)) ∙ t)
      go false e ih = rw (ih (omega (arith, eqb-false i n e)) t)

pub some_same : (p r : ℕ → Bool) (n : ℕ) → ((k : ℕ) → k < n → p k ≡ r k) → some_below p n ≡ some_below r n
unfolding some_below
some_same p r zero h = refl
some_same p r (suc n) h = rw (some_same p r n (λ k b. h k (omega arith)), h n (omega arith))
