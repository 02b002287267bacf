-- Two outcomes of compare that its contract allows are one, and so are the two lists.
-- The contract is the toolchain's own reading of the source (`Post` of `Reads`).
use mathlib.Core.Path.{sym, ap, ◌∙◌}
use Rattle.tally.proofs.Sole.{Sole, SoleAt}
use Rattle.compare.specs.Compare.{Looked}
use Rattle.compare.proofs.compare.Kinds as compare-kinds
use Rattle.compare.proofs.compare.Reads as compare

pub compare-sole : Sole 3 compare-kinds.ps compare-kinds.r compare.Post
compare-sole κs a r q x y e f = ap (λ (w : Looked). w.answer) (e.exact ∙ sym f.exact)

-- the list at exit is the fifth parameter
pub compare-list-sole : SoleAt 3 compare-kinds.ps compare-kinds.r compare.Post (λ κs x. x.1.1.1.1.0.now)
compare-list-sole κs a r q x y e f = ap (λ (w : Looked). w.list) (e.exact ∙ sym f.exact)
