-- `captures::play::play` meets its contract: a piece ends behind its first octet and inside the capture, so the loop ends.
-- Nothing else is claimed of a program that prints.
use Prim.Native.Nat.{◌≤◌, ◌-◌}
use mathlib.Core.Path.{◌≡◌}
use lib.ListN.{length}
use borrow.Author.Rules.{rules}
use Rattle.captures.proofs.play.play.Given as goal

abbrev pub invariant-loop-at : goal.invariant-loop-at
invariant-loop-at l = (l.at ≤ length l.capture) × ((length l.buffer ≡ length l.initial.buffer) × (length l.room ≡ length l.initial.room))

abbrev pub decreases-loop-at : goal.decreases-loop-at
decreases-loop-at l = length l.capture - l.at
