-- `fitness::is_settled` meets its contract: after j turns the two numbers count the places below j that are alike, and those that are kin.
-- Each count is at most the number of places (count-le), so it fits.
use Prim.Native.Nat.{◌≤◌}
use mathlib.Core.Path.{◌≡◌}
use Rattle.tally.specs.Counts.{count}
use Rattle.numbers.specs.Sizes.{places}
use Rattle.marks.specs.Marks.{alike, kin}
use Rattle.fitness.proofs.beside.is_settled.Given as goal

abbrev pub invariant-loop-j : goal.invariant-loop-j
invariant-loop-j l = (l.j ≤ places) × ((l.alike ≡ count (alike l.marks l.i) l.j) × (l.kin ≡ count (kin l.marks l.i) l.j))
