-- `records::close` meets its contract: the table is told the seconds, and its answer decides.
-- Both arms are laws of a record that is all there (closed-done, closed-refused).
use mathlib.Core.Path.{ap, ◌∙◌}
use Prim.Native.Nat.{ℕ}
use Rattle.place.specs.State.{state}
use Rattle.records.specs.Place.{refused_with}
use Rattle.records.proofs.PlaceLaws.{closed-done, closed-refused}
use Rattle.records.proofs.close.Goals as goal

pub returns-in-Ok : goal.returns-in-Ok
returns-in-Ok c =
    let a = c.args in
    closed-done a.fate a.stamp a.r a.room.now (state a.t a.buffer.now) c.gap_of.ensures c.seconds_passed-passed.ensures.exact c.in-Ok.is c.meet.ensures

pub returns-in-Err : goal.returns-in-Err
returns-in-Err c =
    let a = c.args in
    closed-refused a.fate a.stamp a.r a.room.now (state a.t a.buffer.now) c.gap_of.ensures c.seconds_passed-passed.ensures.exact c.in-Err.is
    (c.refused_with.ensures ∙ ap (λ (n : ℕ). refused_with n) c.from.ensures)
