-- For each public function of this crate: two answers that its contract allows are one.
-- The contracts are the toolchain's own reading of the source (`Post` of each `Reads`).
use mathlib.Core.Path.{sym, ◌∙◌}
use Rattle.tally.proofs.Sole.{Sole}
use Rattle.reading.proofs.read_lldpdu.Kinds as read-lldpdu-kinds
use Rattle.reading.proofs.read_lldpdu.Reads as read-lldpdu

pub read-lldpdu-sole : Sole 1 read-lldpdu-kinds.ps read-lldpdu-kinds.r read-lldpdu.Post
read-lldpdu-sole κs a r q x y e f = e.exact ∙ sym f.exact
