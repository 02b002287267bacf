-- For each public function of the lldpdu: two answers that its contract allows are one.
-- The contracts are the toolchain's own reading of the source (`Post` of each function's `Reads`), so nothing is said twice.
use mathlib.Core.Path.{sym, ◌∙◌}
use Rattle.tally.proofs.Sole.{Sole}
use Rattle.lldpdu.proofs.leading.leading_of.Kinds as leading-of-kinds
use Rattle.lldpdu.proofs.leading.leading_of.Reads as leading-of
use Rattle.lldpdu.proofs.extent.rest_extent.Kinds as rest-extent-kinds
use Rattle.lldpdu.proofs.extent.rest_extent.Reads as rest-extent
use Rattle.lldpdu.proofs.places.chassis_of.Kinds as chassis-of-kinds
use Rattle.lldpdu.proofs.places.chassis_of.Reads as chassis-of
use Rattle.lldpdu.proofs.places.port_of.Kinds as port-of-kinds
use Rattle.lldpdu.proofs.places.port_of.Reads as port-of
use Rattle.lldpdu.proofs.places.rest_place.Kinds as rest-place-kinds
use Rattle.lldpdu.proofs.places.rest_place.Reads as rest-place
use Rattle.lldpdu.proofs.outline.extent_of.Kinds as extent-of-kinds
use Rattle.lldpdu.proofs.outline.extent_of.Reads as extent-of
use Rattle.lldpdu.proofs.outline.outline_front.Kinds as outline-front-kinds
use Rattle.lldpdu.proofs.outline.outline_front.Reads as outline-front
use Rattle.lldpdu.proofs.outline.outline_lldpdu.Kinds as outline-lldpdu-kinds
use Rattle.lldpdu.proofs.outline.outline_lldpdu.Reads as outline-lldpdu

pub rest-place-sole : Sole 1 rest-place-kinds.ps rest-place-kinds.r rest-place.Post
rest-place-sole κs a r q x y e f = e ∙ sym f

pub extent-of-sole : Sole 1 extent-of-kinds.ps extent-of-kinds.r extent-of.Post
extent-of-sole κs a r q x y e f = e ∙ sym f

pub outline-front-sole : Sole 1 outline-front-kinds.ps outline-front-kinds.r outline-front.Post
outline-front-sole κs a r q x y e f = e ∙ sym f

pub outline-lldpdu-sole : Sole 1 outline-lldpdu-kinds.ps outline-lldpdu-kinds.r outline-lldpdu.Post
outline-lldpdu-sole κs a r q x y e f = e ∙ sym f

pub leading-of-sole : Sole 1 leading-of-kinds.ps leading-of-kinds.r leading-of.Post
leading-of-sole κs a r q x y e f = e ∙ sym f

pub rest-extent-sole : Sole 1 rest-extent-kinds.ps rest-extent-kinds.r rest-extent.Post
rest-extent-sole κs a r q x y e f = e ∙ sym f

pub chassis-of-sole : Sole 1 chassis-of-kinds.ps chassis-of-kinds.r chassis-of.Post
chassis-of-sole κs a r q x y e f = e ∙ sym f

pub port-of-sole : Sole 1 port-of-kinds.ps port-of-kinds.r port-of.Post
port-of-sole κs a r q x y e f = e ∙ sym f
