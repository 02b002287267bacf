-- Refusals as rows, each with its test and its number: the first row that is due gives the number.
-- The order of the rows is the order in which one refusal goes before another (Q1).
use Rattle.std.specs.Prelude.{ℕ, List, [], ◌∷◌, Bool}
use Rattle.tally.specs.Tests.{pick}

-- 0 where none is due
abbrev pub first_due : List (Bool × ℕ) → ℕ
first_due [] = 0
first_due ((due, n) ∷ l) = pick due n (first_due l)
