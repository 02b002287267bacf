-- `octet_answers::replies::answer_sight` meets its contract: a place with its numbers, zeros for nobody, and a refusal is returned.
-- Each return cites what was answered.
use Prim.Native.Nat.{ℕ}
use mathlib.Core.Path.{ap, ◌∙◌}
use lib.ListN.{length, replicate}
use borrow.Author.Tests.{eq-eqb}
use Rattle.octet_answers.specs.Answers.{sight_long, back, seen}
use Rattle.octet_answers.proofs.AnswersLaws.{one-slice}
use Rattle.octet_answers.proofs.replies.answer_sight.Goals as goal

pub returns-in-Some-clause-exact : goal.returns-in-Some-clause-exact
unfolding seen
returns-in-Some-clause-exact c =
    rw (eq-eqb (length c.args.answer.now) sight_long c.if-answer-ne-SIGHT.false, c.in_ok-s.was, c.in-Some.is) (ap (back 0) (one-slice c.put_sight.ensures))

pub returns-in-None-clause-exact : goal.returns-in-None-clause-exact
unfolding seen
returns-in-None-clause-exact c =
    let e = c.if-answer-ne-SIGHT.false in
    rw (eq-eqb (length c.args.answer.now) sight_long e, c.in_ok-s.was, c.in-None.is) (ap (back 0) (one-slice (c.clear.ensures ∙ ap (λ (n : ℕ). replicate n 0) e)))
