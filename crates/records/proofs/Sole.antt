-- For each public function of `records`: two answers that its contract allows are one, and so are two states of the table's buffer.
-- The contracts are the toolchain's own reading of the source.
use mathlib.Core.Path.{sym, ap, ◌∙◌}
use Rattle.tally.proofs.Sole.{Sole, SoleAt}
use Rattle.records.specs.Turns.{Turn}
use Rattle.records.proofs.refused_with.Kinds as refused-with-kinds
use Rattle.records.proofs.refused_with.Reads as refused-with
use Rattle.records.proofs.settle.Kinds as settle-kinds
use Rattle.records.proofs.settle.Reads as settle

pub refused-with-sole : Sole 0 refused-with-kinds.ps refused-with-kinds.r refused-with.Post
refused-with-sole κs a r q x y e f = e ∙ sym f

pub settle-sole : Sole 2 settle-kinds.ps settle-kinds.r settle.Post
settle-sole κs a r q x y e f = let d = e ∙ sym f in λ i. record { replay = (d i).replay; table = (d i).state.table }

pub settle-buffer-sole : SoleAt 2 settle-kinds.ps settle-kinds.r settle.Post (λ κs x. x.1.1.0.now)
settle-buffer-sole κs a r q x y e f = ap (λ (t : Turn). t.state.buf) (e ∙ sym f)
