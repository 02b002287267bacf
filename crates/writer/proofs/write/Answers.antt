-- `writer::write` meets its contract: R9, then R10, then the octets.
-- The laws are in WriteLaws, one for each return; a test that fails decides alone.
use mathlib.Core.Path.{sym, ◌∙◌}
use native.Mathlib.Omega.{arith}
use Rattle.output.proofs.OutputLaws.{puts-same}
use Rattle.writer.proofs.WriteLaws.{put_whole, outside, unsound, too_long, wanted, drafted, refuses, too_short, writes}
use Rattle.writer.proofs.write.Goals as goal
use Rattle.writer.proofs.write.Goals.{then-not-all_inside-via-then-not-all_inside, then-not-all_inside-via-else-not-all_inside+then-not-is_sound}

pub returns-then-not-all_inside : goal.returns-then-not-all_inside
returns-then-not-all_inside c =
    let a = c.args in
    elim c.then-not-all_inside.branch [
      | then-not-all_inside-via-then-not-all_inside w ↦ refuses a.text.now a.d a.out.now (sym (outside a.text.now a.d (sym c.all_inside.ensures ∙ w.if-not-all_inside.true)))
      | then-not-all_inside-via-else-not-all_inside+then-not-is_sound w ↦ refuses a.text.now a.d a.out.now (sym (unsound a.text.now a.d (sym w.is_sound.ensures ∙ w.if-not-is_sound.true)))
    ]

pub returns-then-size-gt-LONGEST : goal.returns-then-size-gt-LONGEST
returns-then-size-gt-LONGEST c =
    let a = c.args in
    let s = a.text.now in
    let sound = sym c.is_sound.ensures ∙ c.if-not-is_sound.false in
    refuses s a.d a.out.now (sym (too_long s a.d _ (omega arith) (put_whole s a.d sound _ c.draft-size.ensures) c.if-size-gt-LONGEST.true))

pub returns-then-size-out : goal.returns-then-size-out
returns-then-size-out c =
    let a = c.args in
    let s = a.text.now in
    let inside = sym c.all_inside.ensures ∙ c.if-not-all_inside.false in
    let sound = sym c.is_sound.ensures ∙ c.if-not-is_sound.false in
    too_short s a.d (sym (wanted s a.d _ (omega arith) (put_whole s a.d sound _ c.draft-size.ensures) inside sound c.if-size-gt-LONGEST.false)) a.out.now c.if-size-out.true

pub returns : goal.returns
returns c =
    let a = c.args in
    let s = a.text.now in
    let inside = sym c.all_inside.ensures ∙ c.if-not-all_inside.false in
    let sound = sym c.is_sound.ensures ∙ c.if-not-is_sound.false in
    let put = put_whole s a.d sound _ c.draft-size.ensures in
    writes s a.d (sym (wanted s a.d _ (omega arith) put inside sound c.if-size-gt-LONGEST.false)) a.out.now c.if-size-out.false
    (puts-same _ c.put_all.ensures (drafted s a.d _ (omega arith) put c.if-size-gt-LONGEST.false))
