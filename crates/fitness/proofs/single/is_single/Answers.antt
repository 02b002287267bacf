-- `fitness::is_single` meets its contract: no place below j has the identity of place i, which the first two TLVs of what it keeps tell.
-- Where the marks differ the identities do (mark-differs); else is_of decides.
use Prim.Native.Nat.{ℕ, ◌<◌}
use mathlib.Core.Path.{◌≡◌, sym, ap, ap₂, ◌∙◌}
use mathlib.Core.Bool.{Bool}
use mathlib.Core.List.{List}
use native.Mathlib.Omega.{arith}
use borrow.Author.Rules.{rules}
use Rattle.tally.proofs.RangesLaws.{all_none}
use Rattle.ids.specs.Id.{id_meant}
use Rattle.ids.specs.declared.IdPart.{IdPart}
use Rattle.lldpdu.specs.Extent.{id_at, port_place}
use Rattle.numbers.specs.Sizes.{places}
use Rattle.place.specs.State.{State, state, at, lldpdu_in, ident, chassis_in, port_id_in, whose_in, who_at, record_is, is_of}
use Rattle.place.proofs.ThereLaws.{there-lldpdu, there-of}
use Rattle.fitness.specs.Fit.{single}
use Rattle.fitness.proofs.TwinLaws.{mark-differs, clear-hit, clear-end, clear-more}
use Rattle.fitness.proofs.single.is_single.Goals as goal
use Rattle.fitness.proofs.single.is_single.Goals.{else-marks-j-via-then-marks-j+else-is_of, else-marks-j-via-else-marks-j}

-- what is_of is asked in a turn is whether place j has the identity of place k, whose octets are l
asked : (s : State) (j k : ℕ)
    → j < places
    → k < places
    → {l : List ℕ}
    → l ≡ lldpdu_in s.buf k (at s k).len
    → {chassis port : IdPart}
    → chassis ≡ id_at l 0
    → port ≡ id_at l (port_place l)
    → {r : Bool}
    → r ≡ record_is (at s j).len (at s j).port (lldpdu_in s.buf j (at s j).len) (ident (at s k).port (id_meant l chassis) (id_meant l port))
    → r ≡ is_of s (who_at (at s k)) j
unfolding at chassis_in port_id_in
asked s j k h near {l} e c p q =
    let n = (at s k).port in
    q
    ∙ there-of s j h _
    ∙ ap₂ (λ (x y : IdPart). is_of s (ident n (id_meant l x) (id_meant l y)) j) c p
    ∙ ap (λ (x : List ℕ). is_of s (whose_in n x) j) (e ∙ there-lldpdu s k near)

pub bounds-marks-i : goal.bounds-marks-i
bounds-marks-i c = omega (arith, c.requires.below, c.requires.marked.long)

pub loop-j-init : goal.loop-j-init
loop-j-init c = (search rules, all_none _)

pub bounds-marks-j : goal.bounds-marks-j
bounds-marks-j c = omega (arith, c.requires.below, c.requires.marked.long)

pub returns-then-is_of : goal.returns-then-is_of
unfolding at single
returns-then-is_of c =
    let s = state c.args.t.now c.args.buffer.now in
    let i = c.args.i in
    let j = c.loop-j.j in
    let told = asked s j i (omega (arith, c.requires.below)) c.requires.below c.lldpdu_at-l.ensures c.chassis_of-chassis.ensures c.port_of-port.ensures c.is_of.ensures in
    clear-hit (is_of s (who_at (at s i))) i (at s i).len c.requires.kept j (search rules) (sym told ∙ c.if-is_of.true)

pub loop-j-preserved : goal.loop-j-preserved
unfolding at
loop-j-preserved c =
    let s = state c.args.t.now c.args.buffer.now in
    let i = c.args.i in
    let j = c.loop-j.j in
    let near : j < places = omega (arith, c.requires.below) in
    let more = clear-more (is_of s (who_at (at s i))) i (at s i).len j c.loop-j.invariant.1 in (
      omega arith,
      elim c.else-marks-j.branch [
        | else-marks-j-via-then-marks-j+else-is_of w ↦ more (sym (asked s j i near c.requires.below c.lldpdu_at-l.ensures c.chassis_of-chassis.ensures c.port_of-port.ensures w.is_of.ensures) ∙ w.if-is_of.false)
        | else-marks-j-via-else-marks-j w ↦ more (mark-differs s c.args.marks.now c.requires.marked i j c.requires.below near c.requires.kept w.if-marks-j.false)
      ],
    )

pub returns : goal.returns
unfolding at single
returns c =
    let s = state c.args.t.now c.args.buffer.now in
    clear-end (is_of s (who_at (at s c.args.i))) c.args.i (at s c.args.i).len c.requires.kept c.loop-j.j (omega arith) c.loop-j.invariant.1
