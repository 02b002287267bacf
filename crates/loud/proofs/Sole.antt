-- For each public function of `loud`: two answers that its contract allows are one.
-- The contracts are the toolchain's own reading of the source.
use mathlib.Core.Path.{sym, ◌∙◌}
use Rattle.tally.proofs.Sole.{Sole}
use Rattle.loud.proofs.is_by.Kinds as is-by-kinds
use Rattle.loud.proofs.is_by.Reads as is-by
use Rattle.loud.proofs.chassis_held.Kinds as chassis-held-kinds
use Rattle.loud.proofs.chassis_held.Reads as chassis-held

pub chassis-held-sole : Sole 2 chassis-held-kinds.ps chassis-held-kinds.r chassis-held.Post
chassis-held-sole κs a r q x y e f = e ∙ sym f

pub is-by-sole : Sole 2 is-by-kinds.ps is-by-kinds.r is-by.Post
is-by-sole κs a r q x y e f = e ∙ sym f
