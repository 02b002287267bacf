-- For each public function of this crate: two answers that its contract allows are one.
-- The contracts are the toolchain's own reading of the source (`Post` of each `Reads`).
use mathlib.Core.Path.{sym, ◌∙◌}
use Rattle.tally.proofs.Sole.{Sole}
use Rattle.ids.proofs.chassis_fits.Kinds as chassis-kinds
use Rattle.ids.proofs.chassis_fits.Reads as chassis
use Rattle.ids.proofs.port_fits.Kinds as port-kinds
use Rattle.ids.proofs.port_fits.Reads as port
use Rattle.ids.proofs.same_id.Kinds as same-kinds
use Rattle.ids.proofs.same_id.Reads as same

pub chassis-fits-sole : Sole 1 chassis-kinds.ps chassis-kinds.r chassis.Post
chassis-fits-sole κs a r q x y e f = e ∙ sym f

pub port-fits-sole : Sole 1 port-kinds.ps port-kinds.r port.Post
port-fits-sole κs a r q x y e f = e ∙ sym f

pub same-id-sole : Sole 2 same-kinds.ps same-kinds.r same.Post
same-id-sole κs a r q x y e f = e ∙ sym f
