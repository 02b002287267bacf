-- A test asked of each number below a number: of every one, or of some one.
-- The recursion is on the count, as a loop that counts goes.
use Rattle.std.specs.Prelude.{ℕ, zero, suc, Bool, true, false}
use Rattle.tally.specs.Tests.{both, either}

-- every number below n passes
unfoldable pub all_below : (ℕ → Bool) → ℕ → Bool
all_below f zero = true
all_below f (suc n) = both (all_below f n) (f n)

-- some number below n passes
unfoldable pub some_below : (ℕ → Bool) → ℕ → Bool
some_below p zero = false
some_below p (suc n) = either (some_below p n) (p n)
