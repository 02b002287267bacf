-- A number as it is printed (J2): its decimal digits in ASCII, the last behind those of the tenth part.
-- 0 is one digit.
use Rattle.std.specs.Prelude.{ℕ, zero, suc, ◌+◌, ◌/◌, ◌%◌, List, [], ◌∷◌, ◌++◌, ltb}
use Rattle.tally.specs.Tests.{pick}

-- the last k digits, or all of them where there are no more
unfoldable pub digits_in : ℕ → ℕ → List ℕ
digits_in zero n = []
digits_in (suc k) n = pick (ltb n 10) ((48 + n) ∷ []) (digits_in k (n / 10) ++ ((48 + n % 10) ∷ []))

-- a number has no more digits than it has units, and one where it is 0
unfoldable pub decimal : ℕ → List ℕ
decimal n = digits_in (suc n) n
