-- `freeing::seconds_passed` meets its contract: an unfit table is refused, in any other every place ages.
-- Both returns are one law of the calls (passed-done, passed-unfit).
use mathlib.Core.Path.{sym, ◌∙◌}
use Rattle.place.specs.State.{state}
use Rattle.freeing.proofs.CallLaws.{passed-done, passed-unfit}
use Rattle.freeing.proofs.change.seconds_passed.Goals as goal

pub returns-then-not-is_fit : goal.returns-then-not-is_fit
returns-then-not-is_fit c =
    let a = c.args in
    passed-unfit (state a.t a.buffer.now) a.seconds (sym c.is_fit.ensures ∙ c.if-not-is_fit.true) c.refuse.ensures

pub change_all-requires : goal.change_all-requires
change_all-requires c = sym c.is_fit.ensures ∙ c.if-not-is_fit.false

pub returns : goal.returns
returns c =
    let a = c.args in
    passed-done (state a.t a.buffer.now) a.seconds (sym c.is_fit.ensures ∙ c.if-not-is_fit.false) c.change_all.ensures
