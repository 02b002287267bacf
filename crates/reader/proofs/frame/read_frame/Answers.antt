-- `reader::frame::read_frame` meets its contract: refusal 3, or the reading of the octets from 14 on.
-- The laws are frame-refused and frame-read of FrameLaws.
use mathlib.Core.Path.{◌≡◌}
use mathlib.Core.Bool.{true, false}
use lib.ListN.{drop}
use borrow.Author.Rules.{rules}
use Rattle.std.specs.Prelude.{Err}
use Rattle.refusal.specs.declared.Refusal.TheVariants.{NoFrame}
use Rattle.reader.specs.Frame.{frame_ok}
use Rattle.reader.proofs.FrameLaws.{frame-refused, frame-read}
use Rattle.reader.proofs.frame.read_frame.Goals as goal

pub returns-in_err-l : goal.returns-in_err-l
returns-in_err-l c =
    let f = c.args.f.now in
    let bad : frame_ok f ≡ false = search rules in
    let three : c.from_residual.result ≡ Err NoFrame = search rules in
    frame-refused f bad three

pub returns : goal.returns
returns c =
    let f = c.args.f.now in
    let good : frame_ok f ≡ true = search rules in
    let rest : c.in_ok-l.l.now ≡ drop 14 f = search rules in
    frame-read f good rest c.read_lldpdu.ensures
