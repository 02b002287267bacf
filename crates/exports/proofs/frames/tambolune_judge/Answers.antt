-- `exports::frames::tambolune_judge` meets its contract: what the reader says of the frame, as octets.
-- The law is judged-gives.
use Rattle.exports.proofs.GivesLaws.{frame-due, judged-gives, numbered}
use Rattle.exports.proofs.frames.tambolune_judge.Goals as goal

pub returns : goal.returns
returns c =
    let a = c.args in
    judged-gives _ _ c.read_frame.ensures.exact c.in_numbers.ensures _ (frame-due a.frame.now c.read_frame.ensures) a.answer.now (numbered c.number_in.ensures c.answer_judged.ensures.exact)
