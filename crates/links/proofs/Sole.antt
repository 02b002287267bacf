-- For each public function of this crate: two answers that its contract allows are one.
-- The contracts are the toolchain's own reading of the source (`Post` of each `Reads`).
use mathlib.Core.Path.{sym, ◌∙◌}
use Rattle.tally.proofs.Sole.{Sole}
use Rattle.links.proofs.link_fits.Kinds as link-fits-kinds
use Rattle.links.proofs.link_fits.Reads as link_fits
use Rattle.links.proofs.one_to_four.Kinds as one-to-four-kinds
use Rattle.links.proofs.one_to_four.Reads as one-to-four
use Rattle.links.proofs.among.Kinds as among-kinds
use Rattle.links.proofs.among.Reads as among
use Rattle.links.proofs.names.Kinds as names-kinds
use Rattle.links.proofs.names.Reads as names

pub link-fits-sole : Sole 1 link-fits-kinds.ps link-fits-kinds.r link_fits.Post
link-fits-sole κs a r q x y e f = e ∙ sym f

pub among-sole : Sole 1 among-kinds.ps among-kinds.r among.Post
among-sole κs a r q x y e f = e ∙ sym f

pub names-sole : Sole 1 names-kinds.ps names-kinds.r names.Post
names-sole κs a r q x y e f = e ∙ sym f

pub one-to-four-sole : Sole 0 one-to-four-kinds.ps one-to-four-kinds.r one-to-four.Post
one-to-four-sole κs a r q x y e f = e ∙ sym f
