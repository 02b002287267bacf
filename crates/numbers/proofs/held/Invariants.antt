-- `numbers::held` meets its contract: after i turns n counts the used places of the port below i.
-- The count is at most the number of places (count-le), so it fits.
use Prim.Native.Nat.{◌≤◌}
use mathlib.Core.Path.{◌≡◌}
use Rattle.tally.specs.Counts.{count}
use Rattle.numbers.specs.Sizes.{places}
use Rattle.numbers.specs.Numbers.{used_by}
use Rattle.numbers.proofs.held.Given as goal

abbrev pub invariant-loop-i : goal.invariant-loop-i
invariant-loop-i l = (l.i ≤ places) × (l.n ≡ count (used_by l.t l.p) l.i)
