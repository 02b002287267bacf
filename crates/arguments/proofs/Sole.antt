-- Two numbers that the contract of `number_in` allows for a word are one.
-- The contract is the toolchain's own reading of the source (`Post` of its `Reads`).
use mathlib.Core.Path.{sym, ◌∙◌}
use Rattle.tally.proofs.Sole.{Sole}
use Rattle.arguments.proofs.number_in.Kinds as number-in-kinds
use Rattle.arguments.proofs.number_in.Reads as number_in

pub number-in-sole : Sole 1 number-in-kinds.ps number-in-kinds.r number_in.Post
number-in-sole κs a r q x y e f = e ∙ sym f
