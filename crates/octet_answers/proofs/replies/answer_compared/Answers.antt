-- `octet_answers::replies::answer_compared` meets its contract: the number of entries, and a refusal is returned.
-- Each return cites what was answered.
use mathlib.Core.Path.{ap}
use Rattle.octets.specs.Numbers.{two_octets}
use Rattle.octet_answers.proofs.AnswersLaws.{filled, one-slice}
use lib.ListN.{length}
use borrow.Author.Rules.{rules}
use borrow.Author.Tests.{eq-eqb}
use Rattle.octet_answers.specs.Answers.{compared_long, back, compared_answer}
use Rattle.octet_answers.proofs.replies.answer_compared.Goals as goal

pub returns-clause-exact : goal.returns-clause-exact
unfolding compared_answer
returns-clause-exact c =
    let a = c.args.answer.now in
    let e = c.if-answer-ne-COMPARED.false in
    rw (eq-eqb (length a) compared_long e, c.in_ok-n.was) (ap (back 0) (one-slice (filled (two_octets c.in_ok-n.n) a e c.new.ensures.empty c.put_two.ensures (search rules))))
