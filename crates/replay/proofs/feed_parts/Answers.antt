-- `replay::feed_parts` meets its contract: what is left of the piece, fed to where the replay stands, leads where the whole piece leads.
-- One turn takes in a part that ends at the latest where what is due does (turn_more).
use Prim.Native.Nat.{◌+◌, ◌-◌, ◌<◌, ◌≤◌}
use mathlib.Core.Path.{refl}
use native.Mathlib.Omega.{arith}
use borrow.Author.Rules.{rules}
use Rattle.place.specs.State.{state}
use Rattle.replay.specs.Feeding.{moment}
use Rattle.replay.proofs.FeedingLaws.{turn_more, turn-still, turn_end, settled-in, positive}
use Rattle.replay.proofs.feed_parts.Goals as goal

pub loop-at-init : goal.loop-at-init
loop-at-init c = (search rules, refl)

pub returns-then-due-eq0 : goal.returns-then-due-eq0
returns-then-due-eq0 c =
    turn-still c.args.piece.now _ c.loop-at.at _ c.if-due-eq0.true c.loop-at.invariant.1

pub loop-at-smaller : goal.loop-at-smaller
loop-at-smaller c =
    let p : 0 < c.min.result = omega (arith, c.min.ensures, positive c.loop-at.q.replay.want c.if-due-eq0.false) in
    omega (arith, p, c.loop-at.invariant.0)

pub loop-at-preserved : goal.loop-at-preserved
loop-at-preserved c =
    let l = c.loop-at in
    let s = state l.q.table l.buffer in
    let n : c.min.result ≤ l.q.replay.want = omega (arith, c.min.ensures) in
    let d : l.at + c.min.result - l.at ≤ l.q.replay.want = omega arith in (
      search rules,
      turn_more c.args.piece.now _ l.at (l.at + c.min.result) (moment l.q.replay l.room s) (positive l.q.replay.want c.if-due-eq0.false)
          (search rules) (search rules) d (c.take_in-held.ensures s)
          (settled-in c.take_in-held.result c.take_in-held.new.room s c.settle-q.ensures)
          l.invariant.1,
    )

pub returns : goal.returns
returns c =
    turn_end c.args.piece.now _ c.loop-at.at _ (search rules) c.loop-at.invariant.1
