-- `marks::marks_of` meets its contract: every place below i is fit and has its mark.
-- A place that is not fit decides.
use Prim.Native.Nat.{ℕ}
use mathlib.Core.Path.{◌≡◌, sym, ap, subst, ◌∙◌}
use mathlib.Core.List.{List}
use native.Mathlib.Omega.{arith}
use Rattle.std.specs.Prelude.{Option}
use Rattle.place.specs.State.{Place, State, state, at}
use Rattle.marks.specs.Marks.{check_place, Checks}
use Rattle.marks.proofs.MarkLaws.{below_none, below_more, below-stop, below_end}
use Rattle.marks.proofs.marks_of.Goals as goal

-- the place's own numbers, sender and octets are the place
abbrev with_body : Place → List ℕ → Place
with_body x b = record { port = x.port; seconds = x.seconds; len = x.len; sender = x.sender; body = b }

asked : (s : State) (i : ℕ) {r : Option ℕ} {b : List ℕ}
    → r ≡ check_place (with_body (at s i) b)
    → b ≡ (at s i).body
    → r ≡ check_place (at s i)
asked s i e f = e ∙ ap (λ (b : List ℕ). check_place (with_body (at s i) b)) f

pub loop-i-init : goal.loop-i-init
loop-i-init c = (omega arith, below_none (state c.args.t c.args.buffer.now))

pub returns-in_err-marks : goal.returns-in_err-marks
unfolding at
returns-in_err-marks c =
    let s = state c.args.t c.args.buffer.now in
    let P : Option (List ℕ) → Type 0 = Checks s in
    subst P (sym c.from_residual.ensures) (below-stop s c.loop-i.i (omega arith) (sym c.in_err-marks.was ∙ asked s c.loop-i.i c.check_place.ensures c.text_of-b.ensures))

pub loop-i-preserved : goal.loop-i-preserved
unfolding at
loop-i-preserved c =
    let s = state c.args.t c.args.buffer.now in
    (omega arith, below_more s c.loop-i.marks c.loop-i.i (omega arith) c.in_ok-marks.field-0 c.loop-i.invariant.1 (sym c.in_ok-marks.was ∙ asked s c.loop-i.i c.check_place.ensures c.text_of-b.ensures))

pub returns : goal.returns
returns c = below_end (state c.args.t c.args.buffer.now) c.loop-i.marks c.loop-i.i (omega arith) c.loop-i.invariant.1
