-- `loud::chassis_held` meets its contract: after i turns n counts the records of the chassis on the port in the places below i.
-- The count is at most the number of places (count-le), so it fits.
use Prim.Native.Nat.{ℕ, ◌+◌}
use mathlib.Core.Path.{◌≡◌, sym, ap, ◌∙◌}
use mathlib.Core.Bool.{true, false}
use native.Mathlib.Omega.{arith}
use borrow.Author.Rules.{rules}
use Rattle.tally.specs.Counts.{count}
use Rattle.tally.proofs.CountsLaws.{count_none, count-step, count-le}
use Rattle.ids.specs.Id.{id_meant}
use Rattle.rules.specs.Shares.{chassis_is}
use Rattle.numbers.specs.Sizes.{places}
use Rattle.place.specs.State.{at, state, count_records}
use Rattle.place.proofs.ThereLaws.{there-passes}
use Rattle.loud.proofs.chassis_held.Invariants.{counts}
use Rattle.loud.proofs.chassis_held.Goals as goal
use Rattle.loud.proofs.chassis_held.Goals.{then-is_by, else-is_by}

pub loop-i-init : goal.loop-i-init
loop-i-init c = (search rules, sym (count_none _))

pub overflow_add-n : goal.overflow_add-n
overflow_add-n c =
    let a = c.args in
    record { fits = omega (arith, c.loop-i.invariant.1, count-le (counts a.t a.buffer.now a.p a.text.now a.chassis) c.loop-i.i) }

pub loop-i-preserved : goal.loop-i-preserved
unfolding at
loop-i-preserved c =
    let a = c.args in
    let counted = counts a.t a.buffer.now a.p a.text.now a.chassis in
    let told : c.is_by.result ≡ counted c.loop-i.i =
    c.is_by.ensures ∙ there-passes (state a.t a.buffer.now) c.loop-i.i (search rules) (chassis_is a.p (id_meant a.text.now a.chassis)) in
    let more = count-step counted c.loop-i.i in
    let was = c.loop-i.invariant.1 in (
      search rules,
      elim c.if-is_by.branch [
        | then-is_by w ↦ w.n-is ∙ ap (λ (x : ℕ). x + 1) was ∙ sym (more true (sym told ∙ w.if-is_by.true))
        | else-is_by w ↦ omega (arith, w.n-is, was, more false (sym told ∙ w.if-is_by.false))
      ],
    )

pub returns : goal.returns
unfolding count_records
returns c =
    let e : c.loop-i.i ≡ places = omega arith in
    c.loop-i.invariant.1 ∙ ap (count _) e
