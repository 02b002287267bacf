-- Laws of the decimal digits of a number: one digit, or the last behind those of the tenth part.
-- How many digits are allowed does not matter, as long as there are more than the number has units.
use Prim.Native.Nat.{ℕ, zero, suc, ◌+◌, ◌/◌, ◌%◌, ◌<◌, ◌≤◌}
use mathlib.Core.Path.{◌≡◌, refl, sym, ap, ◌∙◌}
use mathlib.Core.List.{List, [], ◌∷◌, ◌++◌}
use mathlib.Core.Bool.{Bool, true, false}
use native.Mathlib.Omega.{arith}
use borrow.Author.Tests.{ltb-false, lt-ltb, le-ltb}
use lib.Dec.{ltb}
use Rattle.tally.specs.Tests.{pick}
use Rattle.line.specs.Decimal.{digits_in, decimal}

digits_same : (j k n : ℕ) → n < j → n < k → digits_in j n ≡ digits_in k n
unfolding digits_in
digits_same zero k n h l = absurd (omega arith)
digits_same (suc j) zero n h l = absurd (omega arith)
digits_same (suc j) (suc k) n h l = go (ltb n 10) refl (digits_same j k (n / 10))
  where
    go : (b : Bool) → ltb n 10 ≡ b → (n / 10 < j → n / 10 < k → digits_in j (n / 10) ≡ digits_in k (n / 10))
        → pick b ((48 + n) ∷ []) (digits_in j (n / 10) ++ ((48 + n % 10) ∷ [])) ≡ pick b ((48 + n) ∷ []) (digits_in k (n / 10) ++ ((48 + n % 10) ∷ []))
    go true e ih = refl
    go false e ih =
        let m = ltb-false n 10 e in
        ap (λ (x : List ℕ). x ++ ((48 + n % 10) ∷ [])) (ih (omega arith) (omega arith))

pub decimal-few : (n : ℕ) → n < 10 → ((48 + n) ∷ []) ≡ decimal n
unfolding decimal digits_in
decimal-few n h = sym (rw (lt-ltb n 10 h))

pub decimal-more : (n : ℕ) → 10 ≤ n → decimal (n / 10) ++ ((48 + n % 10) ∷ []) ≡ decimal n
unfolding decimal digits_in
decimal-more n h =
    ap (λ (x : List ℕ). x ++ ((48 + n % 10) ∷ [])) (digits_same (suc (n / 10)) n (n / 10) (omega arith) (omega arith))
    ∙ sym (rw (le-ltb n 10 h))
