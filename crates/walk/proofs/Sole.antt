-- For each public function of the walk: two answers that its contract allows are one.
-- The contracts are the toolchain's own reading of the source (`Post` of each `Reads`).
use mathlib.Core.Path.{sym, ◌∙◌}
use Rattle.tally.proofs.Sole.{Sole}
use Rattle.walk.proofs.head_at.Kinds as head-at-kinds
use Rattle.walk.proofs.head_at.Reads as head_at
use Rattle.walk.proofs.step_at.Kinds as step-at-kinds
use Rattle.walk.proofs.step_at.Reads as step-at

pub head-at-sole : Sole 1 head-at-kinds.ps head-at-kinds.r head_at.Post
head-at-sole κs a r q x y e f = e ∙ sym f

pub step-at-sole : Sole 1 step-at-kinds.ps step-at-kinds.r step-at.Post
step-at-sole κs a r q x y e f = e ∙ sym f
