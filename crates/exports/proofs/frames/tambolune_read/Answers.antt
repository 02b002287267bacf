-- `exports::frames::tambolune_read` meets its contract: what the reader says of the frame, as octets.
-- The law is read-gives.
use Rattle.exports.proofs.GivesLaws.{frame-due, read-gives, numbered}
use Rattle.exports.proofs.frames.tambolune_read.Goals as goal

pub returns : goal.returns
returns c =
    let a = c.args in
    read-gives _ _ c.read_frame.ensures.exact c.in_numbers.ensures _ (frame-due a.frame.now c.read_frame.ensures) a.answer.now a.description.now (numbered c.number_in.ensures c.answer_reading.ensures.exact)
