-- `questions::who_sees` meets its contract: an unfit table is refused, in any other the places are searched.
-- Each return is one law (sight-unfit, sight-fit).
use mathlib.Core.Path.{sym, ◌∙◌}
use Rattle.place.specs.State.{state}
use Rattle.questions.proofs.QuestionLaws.{sees-exactly, sight-unfit, sight-fit}
use Rattle.questions.proofs.who_sees.Goals as goal

pub returns-then-not-is_fit : goal.returns-then-not-is_fit
returns-then-not-is_fit c =
    let a = c.args in
    let s = state a.t a.buffer.now in
    sees-exactly a.address a.from s (sight-unfit a.address a.from s (sym c.is_fit.ensures ∙ c.if-not-is_fit.true))

pub sight_from-requires : goal.sight_from-requires
sight_from-requires c = sym c.is_fit.ensures ∙ c.if-not-is_fit.false

pub returns : goal.returns
returns c =
    let a = c.args in
    let s = state a.t a.buffer.now in
    sees-exactly a.address a.from s (sight-fit a.address a.from s (sym c.is_fit.ensures ∙ c.if-not-is_fit.false) c.sight_from.ensures)
