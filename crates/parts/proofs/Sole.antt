-- Two answers that the contract of `all_inside` allows are one.
-- The contract is the toolchain's own reading of the source (`Post` of its `Reads`).
use mathlib.Core.Path.{sym, ◌∙◌}
use Rattle.tally.proofs.Sole.{Sole}
use Rattle.parts.proofs.all_inside.Kinds as inside-kinds
use Rattle.parts.proofs.all_inside.Reads as inside

pub all-inside-sole : Sole 0 inside-kinds.ps inside-kinds.r inside.Post
all-inside-sole κs a r q x y e f = e ∙ sym f
