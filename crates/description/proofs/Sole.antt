-- Two answers that the contract of `is_sound` allows are one.
-- The contract is the toolchain's own reading of the source (`Post` of its `Reads`).
use mathlib.Core.Path.{sym, ◌∙◌}
use Rattle.tally.proofs.Sole.{Sole}
use Rattle.description.proofs.is_sound.Kinds as sound-kinds
use Rattle.description.proofs.is_sound.Reads as sound

pub is-sound-sole : Sole 1 sound-kinds.ps sound-kinds.r sound.Post
is-sound-sole κs a r q x y e f = e ∙ sym f
