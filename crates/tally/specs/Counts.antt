-- Counting, summing and searching over the numbers below a number.
-- The recursion is on the count, as a loop that counts goes.
use Rattle.std.specs.Prelude.{ℕ, zero, suc, ◌+◌, Bool}
use Rattle.tally.specs.Tests.{pick}

abbrev pub one : Bool → ℕ
one b = pick b 1 0

-- how many numbers below n pass
unfoldable pub count : (ℕ → Bool) → ℕ → ℕ
count f zero = 0
count f (suc n) = count f n + one (f n)

-- the sum of h over the numbers below n
unfoldable pub sum : (ℕ → ℕ) → ℕ → ℕ
sum h zero = 0
sum h (suc n) = sum h n + h n

-- the first of the m numbers from k on that passes, or else k + m
unfoldable pub first_from : (ℕ → Bool) → ℕ → ℕ → ℕ
first_from f k zero = k
first_from f k (suc m) = pick (f k) k (first_from f (suc k) m)
