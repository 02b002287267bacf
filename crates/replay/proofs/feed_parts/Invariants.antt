-- `replay::feed_parts` meets its contract: what is left of the piece, fed to where the replay stands, leads where the whole piece leads.
-- One turn takes in a part that ends at the latest where what is due does (turn_more).
use Prim.Native.Nat.{◌-◌, ◌≤◌}
use mathlib.Core.Path.{◌≡◌}
use lib.ListN.{length, drop}
use Rattle.place.specs.State.{state}
use Rattle.replay.specs.Feeding.{moment, fed}
use Rattle.replay.proofs.feed_parts.Given as goal

abbrev pub invariant-loop-at : goal.invariant-loop-at
invariant-loop-at l = (l.at ≤ length l.piece)
    × (fed (moment l.q.replay l.room (state l.q.table l.buffer)) (drop l.at l.piece) ≡ fed (moment l.initial.q.replay l.initial.room (state l.initial.q.table l.initial.buffer)) l.piece)

abbrev pub decreases-loop-at : goal.decreases-loop-at
decreases-loop-at l = length l.piece - l.at
