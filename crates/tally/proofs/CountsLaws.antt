-- Laws of counting, summing and searching: one turn of a loop, its end, and what the answer says of each number.
-- They hold for any test and any number.
use Prim.Native.Nat.{ℕ, zero, suc, ◌+◌, ◌-◌, ◌≤◌, ◌<◌}
use mathlib.Core.Path.{◌≡◌, refl, sym, ap, ◌∙◌}
use mathlib.Core.Bool.{Bool, true, false}
use mathlib.Core.Logic.{◌≢◌, ◌⊎◌, inl, inr, ⊎_elim}
use native.Mathlib.Nat.{eq-or-lt_of_le}
use native.Mathlib.Numerals.{add-one}
use native.Mathlib.Omega.{arith}
use borrow.Author.Tests.{eqb-true, eqb-false, ne_eqb}
use lib.Dec.{eqb}
use Rattle.tally.specs.Tests.{pick}
use Rattle.tally.specs.Counts.{one, count, sum, first_from}

-- How many pass

pub count_none : (f : ℕ → Bool) → count f 0 ≡ 0
unfolding count
count_none f = refl

pub count-step : (f : ℕ → Bool) (i : ℕ) (b : Bool) → f i ≡ b → count f (i + 1) ≡ count f i + one b
unfolding count
count-step f i b e = rw (add-one, e)

one-le : (b : Bool) → one b ≤ 1
one-le true = omega arith
one-le false = omega arith

pub count-le : (f : ℕ → Bool) (n : ℕ) → count f n ≤ n
unfolding count
count-le f zero = omega arith
count-le f (suc n) = omega (arith, count-le f n, one-le (f n))

-- where each that passes f passes g too, no more pass f
pub count-fewer : (f g : ℕ → Bool) (n : ℕ) → ((k : ℕ) → k < n → f k ≡ true → g k ≡ true) → count f n ≤ count g n
unfolding count
count-fewer f g zero h = omega arith
count-fewer f g (suc n) h = go (f n) refl (count-fewer f g n (λ k l. h k (omega arith)))
  where
    go : (b : Bool) → f n ≡ b → count f n ≤ count g n → count f n + one b ≤ count g n + one (g n)
    go true e ih = rw (h n (omega arith) e) (omega (arith, ih))
    go false e ih = omega (arith, ih)

-- none passes, or there is one that does
pub count-some : (f : ℕ → Bool) (n : ℕ) → (count f n ≡ 0) ⊎ ((k : ℕ) × ((k < n) × (f k ≡ true)))
unfolding count
count-some f zero = inl refl
count-some f (suc n) = go (f n) refl (count-some f n)
  where
    go : (b : Bool) → f n ≡ b → (count f n ≡ 0) ⊎ ((k : ℕ) × ((k < n) × (f k ≡ true))) → (count f n + one b ≡ 0) ⊎ ((k : ℕ) × ((k < suc n) × (f k ≡ true)))
    go true e ih = inr (n, (omega arith, e))
    go false e (inl z) = inl (omega (arith, z))
    go false e (inr x) = inr (x.0, (omega (arith, x.1.0), x.1.1))

pub count_same : (f g : ℕ → Bool) (n : ℕ) → ((k : ℕ) → k < n → f k ≡ g k) → count f n ≡ count g n
unfolding count
count_same f g zero h = refl
count_same f g (suc n) h = rw (count_same f g n (λ k l. h k (omega arith)), h n (omega arith))

-- Sums

pub sum-none : (h : ℕ → ℕ) → sum h 0 ≡ 0
unfolding sum
sum-none h = refl

pub sum_more : (h : ℕ → ℕ) (i : ℕ) → sum h (i + 1) ≡ sum h i + h i
unfolding sum
sum_more h i = rw add-one

pub sum_same : (f g : ℕ → ℕ) (n : ℕ) → ((k : ℕ) → k < n → f k ≡ g k) → sum f n ≡ sum g n
unfolding sum
sum_same f g zero h = refl
sum_same f g (suc n) h = rw (sum_same f g n (λ k l. h k (omega arith)), h n (omega arith))

pub sum-le : (f g : ℕ → ℕ) (n : ℕ) → ((k : ℕ) → k < n → f k ≤ g k) → sum f n ≤ sum g n
unfolding sum
sum-le f g zero h = omega arith
sum-le f g (suc n) h = omega (arith, sum-le f g n (λ k l. h k (omega arith)), h n (omega arith))

pub sum-add : (f g : ℕ → ℕ) (n : ℕ) → sum (λ k. f k + g k) n ≡ sum f n + sum g n
unfolding sum
sum-add f g zero = refl
sum-add f g (suc n) = omega (arith, sum-add f g n)

pub sum-zero : (n : ℕ) → sum (λ k. 0) n ≡ 0
unfolding sum
sum-zero zero = refl
sum-zero (suc n) = omega (arith, sum-zero n)

-- two numbers that differ at p alone
pub sum-but : (f g : ℕ → ℕ) (p n : ℕ) → p < n → ((k : ℕ) → k ≢ p → f k ≡ g k) → sum f n + g p ≡ sum g n + f p
unfolding sum
sum-but f g p zero l h = absurd (omega arith)
sum-but f g p (suc n) l h = go (eqb p n) refl (sum-but f g p n)
  where
    go : (b : Bool) → eqb p n ≡ b → (p < n → ((k : ℕ) → k ≢ p → f k ≡ g k) → sum f n + g p ≡ sum g n + f p)
        → sum f n + f n + g p ≡ sum g n + g n + f p
    go true e ih =
        let d = eqb-true p n e in
        omega (arith, sum_same f g n (λ k m. h k (omega (arith, d))), ap f d, ap g d)
    go false e ih =
        let d = eqb-false p n e in
        omega (arith, ih (omega (arith, d)) h, h n (λ z. d (sym z)))

-- one for p alone
pub sum_one : (p n : ℕ) → p < n → sum (λ k. one (eqb p k)) n ≡ 1
unfolding sum
sum_one p zero l = absurd (omega arith)
sum_one p (suc n) l = go (eqb p n) refl (sum_one p n)
  where
    before : n ≤ p → sum (λ k. one (eqb p k)) n ≡ 0
    before h = sum_same (λ k. one (eqb p k)) (λ k. 0) n (λ k d. rw (ne_eqb p k (omega arith))) ∙ sum-zero n

    go : (b : Bool) → eqb p n ≡ b → (p < n → sum (λ k. one (eqb p k)) n ≡ 1) → sum (λ k. one (eqb p k)) n + one b ≡ 1
    go true e ih = omega (arith, before (omega (arith, eqb-true p n e)))
    go false e ih = omega (arith, ih (omega (arith, eqb-false p n e)))

-- Which is the first that passes

module _ (f : ℕ → Bool) where
  pub first-hit : (i n : ℕ) → i < n → f i ≡ true → first_from f i (n - i) ≡ i
  unfolding first_from
  first-hit i n l e = let h : n - i ≡ suc (n - (i + 1)) = omega arith in rw (h, e)

  pub first-miss : (i n : ℕ) → i < n → f i ≡ false → first_from f i (n - i) ≡ first_from f (i + 1) (n - (i + 1))
  unfolding first_from
  first-miss i n l e = let h : n - i ≡ suc (n - (i + 1)) = omega arith in rw (h, e, add-one)

  pub first-end : (i n : ℕ) → i ≡ n → first_from f i (n - i) ≡ n
  unfolding first_from
  first-end i n e = let h : n - i ≡ 0 = omega arith in rw h e

  -- it is no later than any that passes
  pub first-le : (m i k : ℕ) → i ≤ k → k < i + m → f k ≡ true → first_from f i m ≤ k
  unfolding first_from
  first-le zero i k a b e = omega arith
  first-le (suc m) i k a b e = go (f i) refl (λ l. first-le m (suc i) k l (omega arith) e)
    where
      go : (x : Bool) → f i ≡ x → (suc i ≤ k → first_from f (suc i) m ≤ k) → pick (f i) i (first_from f (suc i) m) ≤ k
      go true h r = rw h a
      go false h r =
          rw h
          (⊎_elim (λ (q : i ≡ k). let y : f k ≡ false = ap f (sym q) ∙ h in let z : ◌≡◌ {A = ℕ} 0 1 = cc in absurd (omega arith)) r (eq-or-lt_of_le a))

  -- where there is one, it passes
  pub first_passes : (m i : ℕ) → first_from f i m < i + m → f (first_from f i m) ≡ true
  unfolding first_from
  first_passes zero i l = absurd (omega arith)
  first_passes (suc m) i l = go (f i) refl (λ h. first_passes m (suc i) h)
    where
      go : (b : Bool) → f i ≡ b → (first_from f (suc i) m < suc i + m → f (first_from f (suc i) m) ≡ true) → f (pick (f i) i (first_from f (suc i) m)) ≡ true
      go true e r = rw (e, e)
      go false e r = rw e (r (omega (arith, rw e at l)))

  -- none before it does
  pub first-before : (m i k : ℕ) → i ≤ k → k < first_from f i m → f k ≡ false
  unfolding first_from
  first-before zero i k a l = absurd (omega arith)
  first-before (suc m) i k a l = go (f i) refl (λ h b. first-before m (suc i) k h b)
    where
      go : (b : Bool) → f i ≡ b → (suc i ≤ k → k < first_from f (suc i) m → f k ≡ false) → f k ≡ false
      go true e r = absurd (let q : k < i = rw e at l in omega arith)
      go false e r =
          let q : k < first_from f (suc i) m = rw e at l in
          ⊎_elim (λ (h : i ≡ k). ap f (sym h) ∙ e) (λ h. r h q) (eq-or-lt_of_le a)
