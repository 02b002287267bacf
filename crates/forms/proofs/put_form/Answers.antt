-- `forms::put_form` meets its contract: the rest of the forms, put behind what was put, gives the line of the whole.
-- One octet is form-next, the end is form-done of FormLaws.
use Rattle.std.proofs.Common.{◌∙◌}
use Rattle.output.specs.Output.{seen}
use Rattle.forms.proofs.FormLaws.{form-next, form-done}
use Rattle.forms.proofs.put_form.Goals as goal

pub loop-mark-preserved : goal.loop-mark-preserved
loop-mark-preserved c =
    let l = c.loop-mark in
    let a = c.args in (
      c.put_mark.ensures.lent ∙ l.invariant.0,
      form-next a.forms.now a.text.now _ l.mark-index l.left l.rest.now (seen l.line) c.loop-mark-test.true l.invariant.1
          c.value_at.ensures c.value_at-in-loop-mark.ensures c.value_at-in-loop-mark-2.ensures c.put_mark.ensures.put c.values_taken.ensures c.values_behind-rest.ensures c.forms_left-left.ensures,
    )

pub returns : goal.returns
returns c =
    let a = c.args in
    let l = c.loop-mark in
    record { lent = l.invariant.0; put = form-done a.forms.now a.text.now _ l.mark-index l.left l.rest.now (seen l.line) c.loop-mark-test.false l.invariant.1 }
