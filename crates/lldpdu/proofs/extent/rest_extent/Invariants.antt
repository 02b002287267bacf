-- `lldpdu::extent::rest_extent` meets its contract: the walk from here has the extent of the walk from the start.
-- The laws are walk_refused, walk_end and walk-next of the walk.
use Prim.Native.Nat.{◌-◌}
use mathlib.Core.Path.{◌≡◌}
use lib.ListN.{length, drop}
use Rattle.walk.specs.Walk.{walk}
use Rattle.lldpdu.proofs.extent.rest_extent.Given as goal

abbrev pub invariant-loop-end : goal.invariant-loop-end
invariant-loop-end l = (walk (drop l.at l.s) 0 l.at).extent ≡ (walk (drop l.from l.s) 0 l.from).extent

abbrev pub decreases-loop-end : goal.decreases-loop-end
decreases-loop-end l = length l.s - l.at
