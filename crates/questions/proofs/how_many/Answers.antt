-- `questions::how_many` meets its contract: an unfit table and a port above the last are refused, else the count of held is the answer.
-- Each return is one law (counted-unfit, counted-port, counted-holds).
use mathlib.Core.Path.{sym, ◌∙◌}
use Rattle.place.specs.State.{state}
use Rattle.questions.proofs.QuestionLaws.{counted-exactly, counted-unfit, counted-port, counted-holds}
use Rattle.questions.proofs.how_many.Goals as goal

pub returns-then-not-is_fit : goal.returns-then-not-is_fit
returns-then-not-is_fit c =
    let a = c.args in
    let s = state a.t a.buffer.now in
    counted-exactly a.port s (counted-unfit a.port s (sym c.is_fit.ensures ∙ c.if-not-is_fit.true))

pub returns-then-port-ge-PORTS : goal.returns-then-port-ge-PORTS
returns-then-port-ge-PORTS c =
    let a = c.args in
    let s = state a.t a.buffer.now in
    counted-exactly a.port s (counted-port a.port s (sym c.is_fit.ensures ∙ c.if-not-is_fit.false) c.if-port-ge-PORTS.true)

pub returns : goal.returns
returns c =
    let a = c.args in
    let s = state a.t a.buffer.now in
    counted-exactly a.port s (counted-holds a.port s (sym c.is_fit.ensures ∙ c.if-not-is_fit.false) c.if-port-ge-PORTS.false c.held.ensures)
