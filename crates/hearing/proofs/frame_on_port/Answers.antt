-- `hearing::frame_on_port` meets its contract: 1 for a table that is not fit, then 2 for a port that there is not, else the frame decides.
-- Each return is one law of the call (heard-unfit, heard-port, heard-by).
use mathlib.Core.Path.{◌≡◌, refl, sym, ◌∙◌}
use native.Mathlib.Omega.{arith}
use Rattle.std.specs.Prelude.{Err}
use Rattle.refusal.specs.declared.Refusal.TheVariants.{Unfit}
use Rattle.place.specs.State.{state}
use Rattle.hearing.specs.Frame.{reception}
use Rattle.hearing.proofs.ReplyLaws.{tells, heard-unfit, heard-port, heard-by, hears-exactly}
use Rattle.hearing.proofs.frame_on_port.Goals as goal

pub returns-then-not-is_fit : goal.returns-then-not-is_fit
returns-then-not-is_fit c =
    let a = c.args in
    let s = state a.t a.buffer.now in
    let answered : c.reply_with.result ≡ reception a.t (Err Unfit) = grind arith in
    hears-exactly a.port a.frame.now s (tells answered refl ∙ heard-unfit a.port a.frame.now s (sym c.is_fit.ensures ∙ c.if-not-is_fit.true))

-- 1 is judged before 2 (Q1): behind the first test the table is fit
pub returns-then-port-ge-PORTS : goal.returns-then-port-ge-PORTS
returns-then-port-ge-PORTS c =
    let a = c.args in
    let s = state a.t a.buffer.now in
    hears-exactly a.port a.frame.now s
    (tells c.reply_with-then-port-ge-PORTS.ensures refl ∙ heard-port a.port a.frame.now s (sym c.is_fit.ensures ∙ c.if-not-is_fit.false) c.if-port-ge-PORTS.true)

pub hear_frame-requires : goal.hear_frame-requires
hear_frame-requires c = (sym c.is_fit.ensures ∙ c.if-not-is_fit.false, c.if-port-ge-PORTS.false)

pub returns : goal.returns
returns c =
    let a = c.args in
    let s = state a.t a.buffer.now in
    hears-exactly a.port a.frame.now s (c.hear_frame.ensures ∙ heard-by a.port a.frame.now s (sym c.is_fit.ensures ∙ c.if-not-is_fit.false) c.if-port-ge-PORTS.false)
