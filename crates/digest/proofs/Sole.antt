-- Two digests that the contract of `digest_of` allows are one.
-- The contract is the toolchain's own reading of the source (`Post` of its `Reads`).
use mathlib.Core.Path.{sym, ◌∙◌}
use Rattle.tally.proofs.Sole.{Sole}
use Rattle.digest.proofs.digest_of.Kinds as digest-of-kinds
use Rattle.digest.proofs.digest_of.Reads as digest-of

pub digest-of-sole : Sole 1 digest-of-kinds.ps digest-of-kinds.r digest-of.Post
digest-of-sole κs a r q x y e f = e ∙ sym f
