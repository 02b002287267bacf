-- `reader::frame::lldpdu_of` meets its contract: a frame that fits has its fourteen octets of header.
-- The law is frame-size of FrameLaws.
use mathlib.Core.Path.{sym, ◌∙◌}
use native.Mathlib.Omega.{arith}
use Rattle.reader.proofs.FrameLaws.{frame-size}
use Rattle.reader.proofs.frame.lldpdu_of.Goals as goal

pub slice_bounds-result-count : goal.slice_bounds-result-count
slice_bounds-result-count c = omega (arith, frame-size c.args.f.now (sym c.frame_fits.ensures ∙ c.if-not-frame_fits.false))

pub slice_bounds-result-start : goal.slice_bounds-result-start
slice_bounds-result-start c = omega (arith, frame-size c.args.f.now (sym c.frame_fits.ensures ∙ c.if-not-frame_fits.false))
