-- `place::release` meets its contract: the numbers of the place and its sender are 0, and its octets come back as zeros (part-becomes).
-- All else stays as it was, and all of it where there is no such place or the buffer has another length (`refusing` of ThereLaws).
use Prim.Native.Nat.{ℕ, ◌*◌}
use mathlib.Core.Path.{sym, ap, ◌∙◌}
use native.Mathlib.Omega.{arith}
use lib.ListN.{replicate}
use Rattle.octets.proofs.PartLaws.{part-becomes}
use Rattle.place.specs.State.{size, state, put, free}
use Rattle.place.proofs.ThereLaws.{there-put}
use Rattle.place.proofs.release.Goals as goal

pub returns : goal.returns
unfolding put
returns c =
    let a = c.args in
    let d = c.clear in
    ap (state _) (part-becomes a.buffer.now (a.i * size) size (λ (n : ℕ). replicate n 0) d.new.s (omega arith) d.ensures)
    ∙ sym (there-put (state a.t a.buffer.now) a.i free (omega arith) (omega arith) (omega arith))
