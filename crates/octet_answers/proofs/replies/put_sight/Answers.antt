-- `octet_answers::replies::put_sight` meets its contract: 1, the place and two numbers fill the slice.
-- Each is put behind the one before it (put_then).
use Rattle.std.proofs.Common.{rules}
use Rattle.output.proofs.OutputLaws.{put_then}
use Rattle.octet_answers.specs.Answers.{number_octets, place_octets}
use Rattle.octet_answers.proofs.AnswersLaws.{filled}
use Rattle.octet_answers.proofs.replies.put_sight.Goals as goal

pub returns : goal.returns
returns c =
    let s = c.args.s in
    let rest = put_then _ _ c.put_two.ensures (put_then (number_octets s.interface) (number_octets s.port) c.put_number.ensures c.put_number-2.ensures) in
    filled (place_octets s.place s.interface s.port) c.args.answer.now c.requires c.new-out.ensures.empty (put_then _ _ c.put_octet.ensures rest) (search rules)
