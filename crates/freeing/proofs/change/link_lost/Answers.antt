-- `freeing::link_lost` meets its contract: an unfit table and a port above the last are refused, else every record of the port goes.
-- Each return is one law of the calls (lost-done, lost-port, lost-unfit).
use mathlib.Core.Path.{sym, ◌∙◌}
use Rattle.place.specs.State.{state}
use Rattle.freeing.proofs.CallLaws.{lost-done, lost-port, lost-unfit}
use Rattle.freeing.proofs.change.link_lost.Goals as goal

pub returns-then-not-is_fit : goal.returns-then-not-is_fit
returns-then-not-is_fit c =
    let a = c.args in
    lost-unfit (state a.t a.buffer.now) a.port (sym c.is_fit.ensures ∙ c.if-not-is_fit.true) c.refuse.ensures

pub returns-then-port-ge-PORTS : goal.returns-then-port-ge-PORTS
returns-then-port-ge-PORTS c =
    let a = c.args in
    lost-port (state a.t a.buffer.now) a.port (sym c.is_fit.ensures ∙ c.if-not-is_fit.false) c.if-port-ge-PORTS.true c.refuse-then-port-ge-PORTS.ensures

pub change_all-requires : goal.change_all-requires
change_all-requires c = sym c.is_fit.ensures ∙ c.if-not-is_fit.false

pub returns : goal.returns
returns c =
    let a = c.args in
    lost-done (state a.t a.buffer.now) a.port (sym c.is_fit.ensures ∙ c.if-not-is_fit.false) c.if-port-ge-PORTS.false c.change_all.ensures
