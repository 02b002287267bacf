-- Two answers that the contract of `is_fit` allows are one.
-- The contract is the toolchain's own reading of the source.
use mathlib.Core.Path.{sym, ◌∙◌}
use Rattle.tally.proofs.Sole.{Sole}
use Rattle.fitness.proofs.is_fit.Kinds as fit-kinds
use Rattle.fitness.proofs.is_fit.Reads as fit

pub is-fit-sole : Sole 1 fit-kinds.ps fit-kinds.r fit.Post
is-fit-sole κs a r q x y e f = e ∙ sym f
