-- `strings::is_text` meets its contract: what was looked at and what is left tell of the whole.
-- One octet is text-goes, the end is text-ends of TextLaws.
use native.Mathlib.Omega.{arith}
use Rattle.strings.specs.Text.{text_ok}
use Rattle.strings.proofs.TextLaws.{text-goes, text-ends}
use Rattle.strings.proofs.is_text.Goals as goal

pub loop-b-preserved : goal.loop-b-preserved
loop-b-preserved c =
    let s = c.args.part.now in
    text-goes s (text_ok s) c.loop-b.b-index c.loop-b.bad c.loop-b.invariant (omega arith) c.unprintable-bad.ensures

pub returns : goal.returns
returns c =
    let s = c.args.part.now in
    text-ends s (text_ok s) c.loop-b.b-index c.loop-b.bad c.loop-b.invariant (omega arith)
