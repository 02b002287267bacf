-- For each public function of the reader: two answers that its contract allows are one.
-- The contracts are the toolchain's own reading of the source (`Post` of each function's `Reads`), so nothing is said twice.
use mathlib.Core.Path.{sym, ◌∙◌}
use Rattle.tally.proofs.Sole.{Sole}
use Rattle.reader.proofs.frame.outline_frame.Kinds as outline-frame-kinds
use Rattle.reader.proofs.frame.outline_frame.Reads as outline-frame
use Rattle.reader.proofs.frame.read_frame.Kinds as read-frame-kinds
use Rattle.reader.proofs.frame.read_frame.Reads as read-frame
use Rattle.reader.proofs.frame.source_of.Kinds as source-of-kinds
use Rattle.reader.proofs.frame.source_of.Reads as source_of

pub source-of-sole : Sole 1 source-of-kinds.ps source-of-kinds.r source_of.Post
source-of-sole κs a r q x y e f = e ∙ sym f

pub outline-frame-sole : Sole 1 outline-frame-kinds.ps outline-frame-kinds.r outline-frame.Post
outline-frame-sole κs a r q x y e f = e ∙ sym f

pub read-frame-sole : Sole 1 read-frame-kinds.ps read-frame-kinds.r read-frame.Post
read-frame-sole κs a r q x y e f = e.exact ∙ sym f.exact
