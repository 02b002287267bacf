-- Laws of counting that the shorter ways of the fitness test rest on, for any test and any number.
-- A longer count counts no fewer; and where more than c pass, one that passes has c below it.
use Prim.Native.Nat.{ℕ, zero, suc, ◌+◌, ◌≤◌, ◌<◌}
use mathlib.Core.Path.{◌≡◌, refl}
use mathlib.Core.Bool.{Bool, true, false}
use mathlib.Core.Logic.{⊎_elim}
use native.Mathlib.Nat.{eq-or-lt_of_le}
use native.Mathlib.Omega.{arith}
use Rattle.tally.specs.Counts.{one, count}
use Rattle.tally.proofs.CountsLaws.{count-step}

module _ (f : ℕ → Bool) where
  count-longer : (i n : ℕ) → i ≤ n → count f i ≤ count f n
  unfolding count
  count-longer i zero l = let e : i ≡ 0 = omega arith in rw e (omega arith)
  count-longer i (suc n) l =
      ⊎_elim (λ (q : i ≡ suc n). rw q (omega arith)) (λ (q : i < suc n). omega (arith, count-longer i n (omega arith))) (eq-or-lt_of_le l)

  -- one that passes is counted beside those below it
  pub count-passed : (j n : ℕ) → j < n → f j ≡ true → count f j < count f n
  count-passed j n l e = omega (arith, count-step f j true e, count-longer (j + 1) n (omega arith))

  pub count-reaches : (c n : ℕ) → c < count f n → (m : ℕ) × ((m < n) × ((f m ≡ true) × (c ≤ count f m)))
  unfolding count
  count-reaches c zero l = absurd (omega arith)
  count-reaches c (suc n) l = go (f n) refl l (λ h. count-reaches c n h)
    where
      go : (b : Bool) → f n ≡ b → c < count f n + one b → (c < count f n → (m : ℕ) × ((m < n) × ((f m ≡ true) × (c ≤ count f m))))
          → (m : ℕ) × ((m < suc n) × ((f m ≡ true) × (c ≤ count f m)))
      go true e h r = (n, (omega arith, (e, omega (arith, h))))
      go false e h r = let x = r (omega (arith, h)) in (x.0, (omega (arith, x.1.0), x.1.1))
