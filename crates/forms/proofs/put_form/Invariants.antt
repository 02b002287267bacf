-- `forms::put_form` meets its contract: the rest of the forms, put behind what was put, gives the line of the whole.
-- One octet is form-next, the end is form-done of FormLaws.
use Rattle.std.specs.Prelude.{◌≡◌, drop}
use Rattle.output.specs.Output.{puts, seen}
use Rattle.forms.specs.Form.{formed}
use Rattle.forms.proofs.put_form.Given as goal

abbrev pub invariant-loop-mark : goal.invariant-loop-mark
invariant-loop-mark l =
    (l.line.octets.ghost_name ≡ l.initial.line.octets.ghost_name)
    × (puts (formed (drop l.mark-index l.forms) l.left l.rest l.text) (seen l.line) ≡ puts (formed l.forms l.which l.values l.text) (seen l.initial.line))
