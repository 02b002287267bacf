-- `octet_answers::replies::answer_count` meets its contract: the number held, and a refusal is returned.
-- Each return cites what was answered.
use mathlib.Core.Path.{ap}
use Rattle.octet_answers.proofs.AnswersLaws.{set-one, one-slice}
use lib.ListN.{length}
use borrow.Author.Tests.{eq-eqb}
use Rattle.octet_answers.specs.Answers.{count_long, back, counted}
use Rattle.octet_answers.proofs.replies.answer_count.Goals as goal

pub returns-clause-exact : goal.returns-clause-exact
unfolding counted
returns-clause-exact c =
    let a = c.args.answer.now in
    let e = c.if-answer-ne-COUNT.false in
    rw (eq-eqb (length a) count_long e, c.in_ok-answer.was) (ap (back 0) (one-slice (set-one a c.in_ok-answer.field-0 e)))
