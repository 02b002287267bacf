-- `freeing::clear_record` meets its contract: the octets that were lent come back as zeros (part-becomes).
-- All else stays as it was.
use Prim.Native.Nat.{ℕ, ◌*◌}
use native.Mathlib.Omega.{arith}
use lib.ListN.{replicate}
use Rattle.octets.proofs.PartLaws.{part-becomes}
use Rattle.place.specs.State.{size}
use Rattle.freeing.proofs.change.clear_record.Goals as goal

pub returns : goal.returns
returns c =
    let a = c.args in
    let d = c.clear in
    part-becomes a.buffer.now (a.i * size) a.kept (λ (n : ℕ). replicate n 0) d.new.s (omega arith) d.ensures
