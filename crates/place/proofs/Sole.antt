-- For each public function on one place: two answers that its contract allows are one, and so are the two buffers where it writes.
-- The contracts are the toolchain's own reading of the source (`Post` of each `Reads`).
use borrow.Fn.Kinds.{Dens, res_t, ended_of}
use contract.Lifetimes.{Lfts}
use denote.Triple.Clauses.{AtExit}
use mathlib.Core.Path.{◌≡◌, sym, ap, ◌∙◌}
use Rattle.tally.proofs.Sole.{Sole, SoleAt}
use Rattle.place.specs.State.{State}
use Rattle.place.proofs.lldpdu_at.Kinds as lldpdu-at-kinds
use Rattle.place.proofs.lldpdu_at.Reads as lldpdu-at
use Rattle.place.proofs.release.Kinds as release-kinds
use Rattle.place.proofs.release.Reads as release
use Rattle.place.proofs.store.Kinds as store-kinds
use Rattle.place.proofs.store.Reads as store
use Rattle.place.proofs.is_of.Kinds as is-of-kinds
use Rattle.place.proofs.is_of.Reads as is-of
use Rattle.place.proofs.place_of.Kinds as place-of-kinds
use Rattle.place.proofs.place_of.Reads as place_of

-- of the part that is handed back, the octets; where they lie in the caller's buffer is the borrow checker's to say
pub lldpdu-at-sole : (κs : Lfts 1) (a : Dens κs lldpdu-at-kinds.ps) (r q : (res_t lldpdu-at-kinds.r κs).Denot) (x y : AtExit (ended_of 1 lldpdu-at-kinds.ps lldpdu-at-kinds.r) κs)
    → lldpdu-at.Post κs a r x → lldpdu-at.Post κs a q y → r.now ≡ q.now
lldpdu-at-sole κs a r q x y e f = e ∙ sym f

pub release-sole : Sole 1 release-kinds.ps release-kinds.r release.Post
release-sole κs a r q x y e f = ap (λ (s : State). s.table) (e ∙ sym f)

pub store-sole : Sole 2 store-kinds.ps store-kinds.r store.Post
store-sole κs a r q x y e f = ap (λ (s : State). s.table) (e ∙ sym f)

pub is-of-sole : Sole 2 is-of-kinds.ps is-of-kinds.r is-of.Post
is-of-sole κs a r q x y e f = e ∙ sym f

pub place-of-sole : Sole 2 place-of-kinds.ps place-of-kinds.r place_of.Post
place-of-sole κs a r q x y e f = e ∙ sym f

-- the buffer at exit is the second parameter of each call

pub release-buffer-sole : SoleAt 1 release-kinds.ps release-kinds.r release.Post (λ κs x. x.1.0.now)
release-buffer-sole κs a r q x y e f = ap (λ (s : State). s.buf) (e ∙ sym f)

pub store-buffer-sole : SoleAt 2 store-kinds.ps store-kinds.r store.Post (λ κs x. x.1.0.now)
store-buffer-sole κs a r q x y e f = ap (λ (s : State). s.buf) (e ∙ sym f)
