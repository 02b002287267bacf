-- For each public function of `capture`: two answers that its contract allows are one.
-- The contracts are the toolchain's own reading of the source.
use mathlib.Core.Path.{sym, ◌∙◌}
use Rattle.tally.proofs.Sole.{Sole}
use Rattle.capture.proofs.layout_of.Kinds as layout-of-kinds
use Rattle.capture.proofs.layout_of.Reads as layout_of
use Rattle.capture.proofs.stamp_of.Kinds as stamp-of-kinds
use Rattle.capture.proofs.stamp_of.Reads as stamp-of
use Rattle.capture.proofs.captured_of.Kinds as captured-of-kinds
use Rattle.capture.proofs.captured_of.Reads as captured-of
use Rattle.capture.proofs.original_of.Kinds as original-of-kinds
use Rattle.capture.proofs.original_of.Reads as original-of

pub layout-of-sole : Sole 1 layout-of-kinds.ps layout-of-kinds.r layout_of.Post
layout-of-sole κs a r q x y e f = e ∙ sym f

pub stamp-of-sole : Sole 1 stamp-of-kinds.ps stamp-of-kinds.r stamp-of.Post
stamp-of-sole κs a r q x y e f = e ∙ sym f

pub captured-of-sole : Sole 1 captured-of-kinds.ps captured-of-kinds.r captured-of.Post
captured-of-sole κs a r q x y e f = e ∙ sym f

pub original-of-sole : Sole 1 original-of-kinds.ps original-of-kinds.r original-of.Post
original-of-sole κs a r q x y e f = e ∙ sym f
