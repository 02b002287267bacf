-- `whole::all_zero` meets its contract: what is left from i on decides, since all in front of it is zero.
-- One part is zeros-past or zeros-stop, the last part is zeros-overlap of WholeLaws.
use Prim.Native.Nat.{◌+◌, ◌-◌, ◌≤◌}
use mathlib.Core.Path.{◌≡◌}
use lib.ListN.{length, drop}
use Rattle.whole.specs.Whole.{zeros}
use Rattle.whole.proofs.all_zero.Given as goal

abbrev pub invariant-loop-i : goal.invariant-loop-i
invariant-loop-i l = (l.last + 256 ≡ length l.s) × (l.i ≤ length l.s) × (zeros (drop l.i l.s) ≡ zeros l.s)

abbrev pub decreases-loop-i : goal.decreases-loop-i
decreases-loop-i l = length l.s - l.i
