-- `whole::fill` meets its contract: after i turns i octets are copied; then the rest of the place comes back as zeros.
-- One turn is copy_more, the end is filled-end of WholeLaws.
use Prim.Native.Nat.{◌≤◌}
use mathlib.Core.Path.{◌≡◌}
use mathlib.Core.List.{◌++◌}
use lib.ListN.{length, take, drop}
use Rattle.whole.proofs.fill.Given as goal

abbrev pub invariant-loop-i : goal.invariant-loop-i
invariant-loop-i l = (l.i ≤ l.n) × (length l.d ≡ length l.initial.d) × (l.d ≡ take l.i l.s ++ drop l.i l.initial.d)
