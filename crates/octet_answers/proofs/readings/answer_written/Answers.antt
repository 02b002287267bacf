-- `octet_answers::readings::answer_written` meets its contract: the number of octets that were written, and a refusal is returned.
-- Each return cites what was answered.
use mathlib.Core.Path.{ap}
use Rattle.octets.specs.Numbers.{two_octets}
use Rattle.octet_answers.proofs.AnswersLaws.{filled, one-slice}
use lib.ListN.{length}
use borrow.Author.Rules.{rules}
use borrow.Author.Tests.{eq-eqb}
use Rattle.octet_answers.specs.Answers.{written_long, back, written}
use Rattle.octet_answers.proofs.readings.answer_written.Goals as goal

pub returns-clause-exact : goal.returns-clause-exact
unfolding written
returns-clause-exact c =
    let a = c.args.answer.now in
    let e = c.if-answer-ne-WRITTEN.false in
    rw (eq-eqb (length a) written_long e, c.in_ok-n.was) (ap (back 0) (one-slice (filled (two_octets c.in_ok-n.n) a e c.new.ensures.empty c.put_two.ensures (search rules))))
