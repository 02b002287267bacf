-- `output::put_all` meets its contract: as many octets as have room, copied as a whole.
-- Those left out change nothing (puts-past and puts-copied of OutputLaws).
use native.Mathlib.Omega.{arith}
use Rattle.output.proofs.OutputLaws.{puts-past, puts-copied}
use Rattle.output.proofs.put_all.Goals as goal

pub returns-then-out-at : goal.returns-then-out-at
returns-then-out-at c =
    let a = c.args in
    puts-past a.octets.now a.out.now a.at (omega arith)

pub returns : goal.returns
returns c =
    let a = c.args in
    puts-copied a.octets.now a.out.now a.at c.min-n.result (omega arith) c.min-n.ensures c.copy_from_slice.new.self c.copy_from_slice.ensures.after
