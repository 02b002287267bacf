-- `octet_answers::replies::answer_reply` meets its contract: the code of the answer, and a refusal is returned.
-- Each return cites what was answered.
use mathlib.Core.Path.{ap, ◌∙◌}
use mathlib.Core.List.{[], ◌∷◌}
use Rattle.octet_answers.proofs.AnswersLaws.{set-one, one-slice}
use lib.ListN.{length}
use borrow.Author.Tests.{eq-eqb}
use Rattle.octet_answers.specs.Answers.{reply_long, back, replied}
use Rattle.octet_answers.proofs.replies.answer_reply.Goals as goal

pub returns-clause-exact : goal.returns-clause-exact
unfolding replied
returns-clause-exact c =
    let a = c.args.answer.now in
    let e = c.if-answer-ne-REPLY.false in
    rw (eq-eqb (length a) reply_long e, c.in_ok-reply.was) (ap (back 0) (one-slice (set-one a c.code_of.result e ∙ ap (λ n. n ∷ []) c.code_of.ensures)))
