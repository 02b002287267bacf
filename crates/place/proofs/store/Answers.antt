-- `place::store` meets its contract: the numbers and the sender of the place are those of the record, and its octets come back filled (part-becomes).
-- All else stays as it was, and all of it where there is no such place, the buffer has another length or the place has no room (`refusing` of ThereLaws).
use Prim.Native.Nat.{◌*◌}
use mathlib.Core.Path.{sym, ap, ◌∙◌}
use native.Mathlib.Omega.{arith}
use Rattle.whole.specs.Whole.{filled}
use Rattle.octets.proofs.PartLaws.{part-becomes}
use Rattle.place.specs.State.{size, state, put, keep}
use Rattle.place.proofs.ThereLaws.{there-put}
use Rattle.place.proofs.store.Goals as goal

pub returns : goal.returns
unfolding put keep
returns c =
    let a = c.args in
    let d = c.fill in
    ap (state _) (part-becomes a.buffer.now (a.i * size) size (filled a.l.now) d.new.d (omega arith) d.ensures)
    ∙ sym (there-put (state a.t a.buffer.now) a.i (keep a.p a.left a.sender a.l.now) (omega arith) (omega arith) (omega arith))
