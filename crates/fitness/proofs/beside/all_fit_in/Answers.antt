-- `fitness::all_fit_in` meets its contract: every place below i has an identity of its own and is no fourth of its chassis.
-- Where the marks leave no question nothing else is asked (settled-beside); else fits_in decides. Where all are so, all fit in (beside-all).
use Prim.Native.Nat.{◌<◌}
use mathlib.Core.Path.{◌≡◌, sym, ◌∙◌}
use mathlib.Core.Logic.{⊎_elim}
use mathlib.Core.Bool.{true}
use native.Mathlib.Nat.{eq-or-lt_of_le}
use native.Mathlib.Omega.{arith}
use borrow.Author.Tests.{ne_eqb}
use Rattle.tally.proofs.RangesLaws.{all-stop}
use Rattle.numbers.specs.Sizes.{places}
use Rattle.place.specs.State.{state, at, used}
use Rattle.fitness.specs.Fit.{fits_in}
use Rattle.fitness.proofs.ChassisLaws.{settled-used, settled-beside, asked-beside, not-beside, Beside, beside-all}
use Rattle.fitness.proofs.beside.all_fit_in.Goals as goal
use Rattle.fitness.proofs.beside.all_fit_in.Goals.{else-not-is_settled-via-else-not-is_settled, else-not-is_settled-via-then-not-is_settled+else-not-fits_in}

pub loop-i-init : goal.loop-i-init
loop-i-init c = (omega arith, λ k l. absurd (omega arith))

pub fits_in-requires : goal.fits_in-requires
unfolding at
fits_in-requires c =
    record {
      below = omega arith;
      marked = c.requires.1;
      kept = settled-used c.args.marks.now _ _ (sym c.is_settled.ensures ∙ c.if-not-is_settled.true);
    }

pub returns-then-not-fits_in : goal.returns-then-not-fits_in
unfolding at
returns-then-not-fits_in c =
    let s = state c.args.t.now c.args.buffer.now in
    let i = c.loop-i.i in
    let near : i < places = omega arith in
    let u : used (at s i) ≡ true = rw (ne_eqb (at s i).len 0 (settled-used c.args.marks.now i (at s i).len (sym c.is_settled.ensures ∙ c.if-not-is_settled.true))) in
    sym (all-stop (fits_in s) i places near (not-beside s i near u (sym c.fits_in.ensures ∙ c.if-not-fits_in.true)))

pub loop-i-preserved : goal.loop-i-preserved
unfolding at
loop-i-preserved c =
    let s = state c.args.t.now c.args.buffer.now in
    let i = c.loop-i.i in
    let near : i < places = omega arith in
    let here : Beside s i =
    elim c.else-not-is_settled.branch [
      | else-not-is_settled-via-else-not-is_settled w ↦ settled-beside s i near c.args.marks.now c.requires.1 (sym c.is_settled.ensures ∙ w.if-not-is_settled.false)
      | else-not-is_settled-via-then-not-is_settled+else-not-fits_in w ↦ asked-beside s i near (sym w.fits_in.ensures ∙ w.if-not-fits_in.false)
    ] in (
      omega arith,
      λ k q. ⊎_elim (λ (e : k ≡ i). rw e here) (λ (h : k < i). c.loop-i.invariant.1 k h) (eq-or-lt_of_le (omega arith)),
    )

pub returns : goal.returns
returns c =
    let e : c.loop-i.i ≡ places = omega arith in
    sym (beside-all (state c.args.t.now c.args.buffer.now) (λ k q. c.loop-i.invariant.1 k (omega (arith, e, q))))
