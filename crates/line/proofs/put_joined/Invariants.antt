-- `line::put_joined` meets its contract: what is left, put behind what was put, makes the whole.
-- One octet is put-next, the end is put-done of the output's laws.
use Rattle.output.proofs.OutputLaws.{Putting}
use Rattle.line.specs.Hex.{dashed}
use Rattle.line.proofs.put_joined.Given as goal

abbrev pub invariant-loop-b : goal.invariant-loop-b
invariant-loop-b l = Putting dashed l.rest l.b-index l.initial.line l.line
