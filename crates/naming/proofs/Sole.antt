-- For each public function: two answers that its contract allows are one.
-- The contracts are the toolchain's own reading of the source (`Post` of each `Reads`).
use mathlib.Core.Path.{sym, ◌∙◌}
use Rattle.tally.proofs.Sole.{Sole}
use Rattle.naming.proofs.rest_naming.Kinds as rest-naming-kinds
use Rattle.naming.proofs.rest_naming.Reads as rest-naming
use Rattle.naming.proofs.link_naming.Kinds as link-naming-kinds
use Rattle.naming.proofs.link_naming.Reads as link-naming

pub rest-naming-sole : Sole 1 rest-naming-kinds.ps rest-naming-kinds.r rest-naming.Post
rest-naming-sole κs a r q x y e f = e ∙ sym f

pub link-naming-sole : Sole 1 link-naming-kinds.ps link-naming-kinds.r link-naming.Post
link-naming-sole κs a r q x y e f = e.exact ∙ sym f.exact
