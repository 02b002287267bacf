-- `fitness::is_few_below` meets its contract: after j turns n counts the kin of place i below j.
-- The count is at most the number of places (count-le), so it fits.
use Prim.Native.Nat.{◌≤◌}
use mathlib.Core.Path.{◌≡◌}
use Rattle.tally.specs.Counts.{count}
use Rattle.marks.specs.Marks.{kin}
use Rattle.fitness.proofs.chassis.is_few_below.Given as goal

abbrev pub invariant-loop-j : goal.invariant-loop-j
invariant-loop-j l = (l.j ≤ l.i) × (l.n ≡ count (kin l.marks l.i) l.j)
