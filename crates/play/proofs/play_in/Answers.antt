-- `play::play_in` meets its contract: both replays stand behind the octets that were read, from the first read to the last.
-- The laws are reads_none, reads_more and look-ends of ReadingLaws.
use Rattle.play.proofs.ReadingLaws.{reads_none, reads_more, look-ends}
use Rattle.play.proofs.play_in.Goals as goal

pub loop-turns-init : goal.loop-turns-init
loop-turns-init o c = reads_none _ _

pub loop-turns-preserved : goal.loop-turns-preserved
loop-turns-preserved o c = reads_more c.loop-turns.invariant c.read_some-s.ensures

pub returns : goal.returns
returns o c =
    let read = c.loop-turns.invariant in (
      read.0,
      (
        look-ends c.requires.room_len c.begun.ensures read.1.0 c.ended.ensures,
        look-ends c.requires.space_len c.begun-2.ensures read.1.1 c.ended-2.ensures,
      ),
    )
