-- For each public function of this crate: two answers that its contract allows are one.
-- The contracts are the toolchain's own reading of the source (`Post` of each `Reads`).
use mathlib.Core.Path.{sym, ◌∙◌}
use Rattle.tally.proofs.Sole.{Sole}
use Rattle.found.proofs.part_at.Kinds as part-at-kinds
use Rattle.found.proofs.part_at.Reads as part_at
use Rattle.found.proofs.gathered.Kinds as gathered-kinds
use Rattle.found.proofs.gathered.Reads as gathered
use Rattle.found.proofs.is_htip.Kinds as htip-kinds
use Rattle.found.proofs.is_htip.Reads as htip

pub part-at-sole : Sole 0 part-at-kinds.ps part-at-kinds.r part_at.Post
part-at-sole κs a r q x y e f = e ∙ sym f

pub gathered-sole : Sole 1 gathered-kinds.ps gathered-kinds.r gathered.Post
gathered-sole κs a r q x y e f = e ∙ sym f

pub is-htip-sole : Sole 0 htip-kinds.ps htip-kinds.r htip.Post
is-htip-sole κs a r q x y e f = e ∙ sym f
