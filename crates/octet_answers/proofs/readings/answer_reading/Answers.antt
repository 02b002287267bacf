-- `octet_answers::readings::answer_reading` meets its contract: the verdict fills one slice and the description the other, and a refusal is returned.
-- Each return cites what was read.
use mathlib.Core.Path.{sym, ap, ◌∙◌}
use lib.ListN.{length}
use borrow.Author.Rules.{rules}
use borrow.Author.Tests.{eq-eqb}
use Rattle.octet_description.specs.Octets.{size, description_octets}
use Rattle.octet_description.proofs.OctetsLaws.{octets-long}
use Rattle.octet_answers.specs.Answers.{verdict_long, back, verdict_octets, read_answer}
use Rattle.octet_answers.proofs.AnswersLaws.{filled, two-slices}
use Rattle.octet_answers.proofs.readings.answer_reading.Goals as goal

pub returns-clause-exact : goal.returns-clause-exact
unfolding read_answer
returns-clause-exact c =
    let a = c.args in
    let r = c.in_ok-r.r in
    let v = c.if-answer-ne-VERDICT.false in
    let d = c.if-description-ne-SIZE.false in
    rw (eq-eqb (length a.answer.now) verdict_long v, eq-eqb (length a.description.now) size d, c.in_ok-r.was)
    (ap (back 0)
    (two-slices
    (filled (verdict_octets r) a.answer.now v c.new.ensures.empty c.put_verdict.ensures (search rules))
    (filled (description_octets r.description) a.description.now (d ∙ sym (octets-long r.description)) c.new-2.ensures.empty c.put_description.ensures (search rules))))
