-- For each public function of this crate: two answers that its contract allows are one.
-- The contracts are the toolchain's own reading of the source (`Post` of each `Reads`).
use mathlib.Core.Path.{sym, ◌∙◌}
use Rattle.tally.proofs.Sole.{Sole}
use Rattle.system.proofs.empty_system.Kinds as empty-system-kinds
use Rattle.system.proofs.empty_system.Reads as empty-system
use Rattle.system.proofs.system_at.Kinds as system-at-kinds
use Rattle.system.proofs.system_at.Reads as system-at
use Rattle.system.proofs.system_fits.Kinds as system-fits-kinds
use Rattle.system.proofs.system_fits.Reads as system-fits
use Rattle.system.proofs.system_absent.Kinds as system-absent-kinds
use Rattle.system.proofs.system_absent.Reads as system-absent

pub empty-system-sole : Sole 0 empty-system-kinds.ps empty-system-kinds.r empty-system.Post
empty-system-sole κs a r q x y e f = e ∙ sym f

pub system-at-sole : Sole 1 system-at-kinds.ps system-at-kinds.r system-at.Post
system-at-sole κs a r q x y e f = e ∙ sym f

pub system-fits-sole : Sole 1 system-fits-kinds.ps system-fits-kinds.r system-fits.Post
system-fits-sole κs a r q x y e f = e ∙ sym f

pub system-absent-sole : Sole 1 system-absent-kinds.ps system-absent-kinds.r system-absent.Post
system-absent-sole κs a r q x y e f = e ∙ sym f
