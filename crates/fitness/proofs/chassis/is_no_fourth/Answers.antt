-- `fitness::is_no_fourth` meets its contract: fewer kin than three stand below (few-below), or n counts those below j that are of the chassis of place i.
-- TLV 1 of what place i keeps tells its chassis; is_by asks place j for it.
use Prim.Native.Nat.{ℕ, ◌+◌, ◌<◌}
use mathlib.Core.Path.{◌≡◌, sym, ap, ◌∙◌}
use mathlib.Core.Bool.{Bool, true, false}
use mathlib.Core.List.{List}
use native.Mathlib.Omega.{arith}
use borrow.Author.Rules.{rules}
use borrow.Author.Tests.{ne_eqb}
use lib.Dec.{ltb}
use Rattle.tally.specs.Counts.{count}
use Rattle.tally.proofs.CountsLaws.{count_none, count-step, count-le}
use Rattle.ids.specs.Id.{id_meant}
use Rattle.ids.specs.declared.IdPart.{IdPart}
use Rattle.rules.specs.Shares.{per_chassis, chassis_is}
use Rattle.lldpdu.specs.Extent.{id_at}
use Rattle.numbers.specs.Sizes.{places}
use Rattle.place.specs.State.{State, state, at, used, lldpdu_in, chassis_in, record_passes, passes}
use Rattle.place.proofs.ThereLaws.{there-lldpdu, there-passes}
use Rattle.fitness.specs.Beside.{no_fourth}
use Rattle.fitness.proofs.ChassisLaws.{few-below}
use Rattle.fitness.proofs.chassis.is_no_fourth.Invariants.{own}
use Rattle.fitness.proofs.chassis.is_no_fourth.Goals as goal
use Rattle.fitness.proofs.chassis.is_no_fourth.Goals.{then-is_by, else-is_by}

-- what is_by is asked in a turn is whether place j has a record of the chassis of place k on its port, whose octets are l
asked : (s : State) (j k : ℕ)
    → j < places
    → k < places
    → {l : List ℕ}
    → l ≡ lldpdu_in s.buf k (at s k).len
    → {chassis : IdPart}
    → chassis ≡ id_at l 0
    → {r : Bool}
    → r ≡ record_passes (at s j).len (at s j).port (lldpdu_in s.buf j (at s j).len) (chassis_is (at s k).port (id_meant l chassis))
    → r ≡ passes s (own s k) j
unfolding at chassis_in
asked s j k h near {l} e {chassis} d q =
    let p = (at s k).port in
    q
    ∙ there-passes s j h (chassis_is p (id_meant l chassis))
    ∙ ap (λ (x : IdPart). passes s (chassis_is p (id_meant l x)) j) d
    ∙ ap (λ (x : List ℕ). passes s (chassis_is p (chassis_in x)) j) (e ∙ there-lldpdu s k near)

pub is_few_below-requires : goal.is_few_below-requires
is_few_below-requires c = (c.requires.below, c.requires.marked.long)

pub returns-then-is_few_below : goal.returns-then-is_few_below
returns-then-is_few_below c =
    let s = state c.args.t.now c.args.buffer.now in
    let u : used (at s c.args.i) ≡ true = rw (ne_eqb (at s c.args.i).len 0 c.requires.kept) in
    sym (few-below s c.args.marks.now c.requires.marked c.args.i c.requires.below u (sym c.is_few_below.ensures ∙ c.if-is_few_below.true))

pub loop-j-init : goal.loop-j-init
loop-j-init c = (search rules, sym (count_none _))

pub overflow_add-n : goal.overflow_add-n
overflow_add-n c =
    let s = state c.args.t.now c.args.buffer.now in
    record { fits = omega (arith, c.requires.below, c.loop-j.invariant.1, count-le (passes s (own s c.args.i)) c.loop-j.j) }

pub loop-j-preserved : goal.loop-j-preserved
unfolding at
loop-j-preserved c =
    let s = state c.args.t.now c.args.buffer.now in
    let i = c.args.i in
    let j = c.loop-j.j in
    let told = asked s j i (omega (arith, c.requires.below)) c.requires.below c.lldpdu_at-l.ensures c.chassis_of-chassis.ensures c.is_by.ensures in
    let more = count-step (passes s (own s i)) j in
    let was = c.loop-j.invariant.1 in (
      search rules,
      elim c.if-is_by.branch [
        | then-is_by w ↦ w.n-is ∙ ap (λ (x : ℕ). x + 1) was ∙ sym (more true (sym told ∙ w.if-is_by.true))
        | else-is_by w ↦ omega (arith, w.n-is, was, more false (sym told ∙ w.if-is_by.false))
      ],
    )

pub returns : goal.returns
unfolding no_fourth
returns c =
    let s = state c.args.t.now c.args.buffer.now in
    let e : c.loop-j.j ≡ c.args.i = omega arith in
    ap (λ (n : ℕ). ltb n per_chassis) (c.loop-j.invariant.1 ∙ ap (count (passes s (own s c.args.i))) e)
