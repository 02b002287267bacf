-- Two answers to two looks that the contract allows are one, and so are the two lists.
-- The contract is the toolchain's own reading of the source (`Post` of `Reads`).
use mathlib.Core.Path.{sym, ap, ◌∙◌}
use Rattle.tally.proofs.Sole.{Sole, SoleAt}
use Rattle.play.specs.Numbers.{Told}
use Rattle.play.proofs.looks.between.Kinds as between-kinds
use Rattle.play.proofs.looks.between.Reads as between

pub between-sole : Sole 3 between-kinds.ps between-kinds.r between.Post
between-sole κs a r q x y e f = ap (λ (w : Told). w.answer) (e ∙ sym f)

-- the list at exit is the fifth parameter
pub between-list-sole : SoleAt 3 between-kinds.ps between-kinds.r between.Post (λ κs x. x.1.1.1.1.0.now)
between-list-sole κs a r q x y e f = ap (λ (w : Told). w.list) (e ∙ sym f)
