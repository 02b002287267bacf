-- `freeing::change_all` meets its contract: after i turns the state is that of `each` below i.
-- One turn is one change (each_more): the place is freed (freed-put), or gets other seconds (changed-is); the buffer keeps its length.
use Prim.Native.Nat.{◌+◌}
use mathlib.Core.Path.{◌≡◌, sym, ap₂, ◌∙◌}
use native.Mathlib.Omega.{arith}
use borrow.Author.Rules.{rules}
use Rattle.text.proofs.PartsLaws.{length-mapped}
use Rattle.numbers.specs.Sizes.{places}
use Rattle.place.specs.State.{Sized, state, at, change_at, each}
use Rattle.place.proofs.PlaceLaws.{put-seconds, change-puts, each_none, each_more}
use Rattle.fitness.proofs.FitLaws.{fit_length}
use Rattle.freeing.specs.Changes.{changed}
use Rattle.freeing.proofs.ChangeLaws.{changed-is}
use Rattle.freeing.proofs.FreedLaws.{behind, freed-put, unreached}
use Rattle.freeing.proofs.change.change_all.Goals as goal
use Rattle.freeing.proofs.change.change_all.Goals.{in-None, in-Some}

pub loop-i-init : goal.loop-i-init
loop-i-init c = (search rules, (fit_length _ c.requires, sym (each_none _ _)))

pub clear_record-requires : goal.clear_record-requires
unfolding at
clear_record-requires c =
    let s = state c.args.t c.args.buffer.now in
    let sized : Sized places s = record { ports_long = search rules; seconds_long = search rules; lengths_long = search rules; senders_long = search (rules, length-mapped); buf_long = fit_length _ c.requires } in
    let ok = unreached c.args.change s sized c.requires c.loop-i.i c.loop-i-test.true c.loop-i.invariant.1.1 in
    (c.loop-i-test.true, (c.loop-i.invariant.1.0, (behind _ ok).room))

pub loop-i-preserved : goal.loop-i-preserved
unfolding at
loop-i-preserved c =
    let a = c.args in
    let l = c.loop-i in
    let start = state a.t a.buffer.now in
    let s = state l.u l.buffer in
    let x = at s l.i in
    let sized : Sized places start = record { ports_long = search rules; seconds_long = search rules; lengths_long = search rules; senders_long = search (rules, length-mapped); buf_long = fit_length _ c.requires } in
    let ok = unreached a.change start sized c.requires l.i c.loop-i-test.true l.invariant.1.1 in
    let next = state c.match-fate_of.u c.match-fate_of.buffer in
    let more : next ≡ change_at (changed a.change) l.i s → next ≡ each (changed a.change) (l.i + 1) start = λ e. each_more (changed a.change) l.i start e l.invariant.1.1 in (
      search rules,
      (
        c.match-fate_of.auto.buffer ∙ l.invariant.1.0,
        elim c.match-fate_of.branch [
          | in-None w ↦
              more
              (change-puts (changed a.change) l.i s
              (ap₂ state w.u-is w.buffer-is ∙ freed-put s l.i c.loop-i-test.true l.invariant.1.0 ok w.clear_record.ensures)
              (changed-is a.change x c.fate_of.ensures w.in-None.is))
          | in-Some w ↦
              more
              (change-puts (changed a.change) l.i s
              (ap₂ state w.u-is w.buffer-is ∙ put-seconds s l.i w.in-Some.left)
              (changed-is a.change x c.fate_of.ensures w.in-Some.is))
        ],
      ),
    )

pub shape_of-buffer : goal.shape_of-buffer
shape_of-buffer c = c.loop-i.invariant.1.0 ∙ sym (fit_length _ c.requires)

pub returns : goal.returns
returns c =
    let e : c.loop-i.i ≡ places = omega arith in
    rw e at c.loop-i.invariant.1.1
