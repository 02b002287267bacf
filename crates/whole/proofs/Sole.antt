-- For each public function on whole strings of octets: two answers that its contract allows are one, or two outputs where it writes and answers nothing.
-- The contracts are the toolchain's own reading of the source (`Post` of each `Reads`).
use mathlib.Core.Path.{sym, ◌∙◌}
use Rattle.tally.proofs.Sole.{Sole, SoleAt}
use Rattle.whole.proofs.all_zero.Kinds as all-zero-kinds
use Rattle.whole.proofs.all_zero.Reads as all-zero
use Rattle.whole.proofs.same.Kinds as same-kinds
use Rattle.whole.proofs.same.Reads as same
use Rattle.whole.proofs.clear.Kinds as clear-kinds
use Rattle.whole.proofs.clear.Reads as clear
use Rattle.whole.proofs.fill.Kinds as fill-kinds
use Rattle.whole.proofs.fill.Reads as fill

pub all-zero-sole : Sole 1 all-zero-kinds.ps all-zero-kinds.r all-zero.Post
all-zero-sole κs a r q x y e f = e ∙ sym f

pub same-sole : Sole 2 same-kinds.ps same-kinds.r same.Post
same-sole κs a r q x y e f = e ∙ sym f

-- the output at exit is the first parameter
pub clear-output-sole : SoleAt 1 clear-kinds.ps clear-kinds.r clear.Post (λ κs x. x.0.now)
clear-output-sole κs a r q x y e f = e ∙ sym f

pub fill-output-sole : SoleAt 2 fill-kinds.ps fill-kinds.r fill.Post (λ κs x. x.0.now)
fill-output-sole κs a r q x y e f = e ∙ sym f
