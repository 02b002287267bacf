-- For each public function of this crate: two answers that its contract allows are one.
-- The contracts are the toolchain's own reading of the source (`Post` of each `Reads`).
use mathlib.Core.Path.{sym, ◌∙◌}
use Rattle.tally.proofs.Sole.{Sole}
use Rattle.strings.proofs.is_text.Kinds as is-text-kinds
use Rattle.strings.proofs.is_text.Reads as is-text
use Rattle.strings.proofs.wanted_of.Kinds as wanted-of-kinds
use Rattle.strings.proofs.wanted_of.Reads as wanted-of

pub is-text-sole : Sole 1 is-text-kinds.ps is-text-kinds.r is-text.Post
is-text-sole κs a r q x y e f = e ∙ sym f

pub wanted-of-sole : Sole 0 wanted-of-kinds.ps wanted-of-kinds.r wanted-of.Post
wanted-of-sole κs a r q x y e f = e ∙ sym f
