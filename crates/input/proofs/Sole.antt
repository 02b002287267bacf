-- Two answers that a contract of this crate allows are one; of octets that are handed back, the octets are.
-- The contracts are the toolchain's own reading of the source (`Post` of each `Reads`). What a read gives no contract can say.
use Prim.Native.Nat.{ℕ}
use mathlib.Core.Path.{◌≡◌, sym, ◌∙◌}
use mir.Val.{Fits}
use mir.Syntax.{w64}
use borrow.Fn.Kinds.{Dens, res_t, ended_of}
use contract.Lifetimes.{Lfts}
use denote.Triple.Clauses.{AtExit}
use Rattle.input.proofs.record.number_at.Kinds as number_kinds
use Rattle.input.proofs.record.number_at.Reads as number
use Rattle.input.proofs.record.split_behind.Kinds as split_kinds
use Rattle.input.proofs.record.split_behind.Reads as split
use Rattle.input.proofs.record.wide_at.Kinds as wide_kinds
use Rattle.input.proofs.zeros.Kinds as zeros_kinds
use Rattle.input.proofs.zeros.Reads as zeros
use Rattle.input.proofs.record.wide_at.Reads as wide

pub number-at-sole : (κs : Lfts 1) (a : Dens κs number_kinds.ps) (r q : (res_t number_kinds.r κs).Denot) (x y : AtExit (ended_of 1 number_kinds.ps number_kinds.r) κs)
    → number.Post κs a r x → number.Post κs a q y → r ≡ q
number-at-sole κs a r q x y e f = e ∙ sym f

pub wide-at-sole : (κs : Lfts 1) (a : Dens κs wide_kinds.ps) (r q : (res_t wide_kinds.r κs).Denot) (x y : AtExit (ended_of 1 wide_kinds.ps wide_kinds.r) κs)
    → wide.Post κs a r x → wide.Post κs a q y → r ≡ q
wide-at-sole κs a r q x y e f = e ∙ sym f

pub split-behind-sole : (κs : Lfts 1) (a : Dens κs split_kinds.ps) (r q : (res_t split_kinds.r κs).Denot) (x y : AtExit (ended_of 1 split_kinds.ps split_kinds.r) κs)
    → split.Post κs a r x → split.Post κs a q y → (r.0.now ≡ q.0.now) × (r.1.now ≡ q.1.now)
split-behind-sole κs a r q x y e f = (e.0 ∙ sym f.0, e.1 ∙ sym f.1)

pub zeros-sole : (n : ℕ) (h : Fits w64 n) (κs : Lfts 1) (a : Dens κs (zeros_kinds.ps n h)) (r q : (res_t (zeros_kinds.r n h) κs).Denot)
    (x y : AtExit (ended_of 1 (zeros_kinds.ps n h) (zeros_kinds.r n h)) κs) → zeros.Post n h κs a r x → zeros.Post n h κs a q y → r ≡ q
zeros-sole n h κs a r q x y e f = e ∙ sym f
