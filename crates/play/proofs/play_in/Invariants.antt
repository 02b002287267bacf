-- `play::play_in` meets its contract: both replays stand behind the octets that were read, from the first read to the last.
-- The turns are counted, so the loop ends.
use Rattle.play.specs.Reading.{standing, ReadsOn}
use Rattle.play.proofs.play_in.Given as goal

abbrev pub invariant-loop-turns : goal.invariant-loop-turns
invariant-loop-turns o l =
    ReadsOn (standing l.initial.s.first l.initial.room l.initial.before) (standing l.initial.s.second l.initial.space l.initial.after)
    (standing l.s.first l.room l.before) (standing l.s.second l.space l.after)

abbrev pub decreases-loop-turns : goal.decreases-loop-turns
decreases-loop-turns o l = l.turns
