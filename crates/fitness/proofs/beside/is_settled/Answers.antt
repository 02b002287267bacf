-- `fitness::is_settled` meets its contract: at the end the two numbers count all places that are alike, and all that are kin.
-- What they leave of a used place is settled-counted.
use mathlib.Core.Path.{◌≡◌, ap, ◌∙◌}
use native.Mathlib.Omega.{arith}
use lib.Dec.{leb}
use Rattle.tally.specs.Counts.{count}
use Rattle.numbers.specs.Sizes.{places}
use Rattle.marks.specs.Marks.{alike, kin}
use Rattle.fitness.proofs.ChassisLaws.{settled-counted}
use Rattle.fitness.proofs.beside.is_settled.Goals as goal

pub returns : goal.returns
returns c =
    let a = c.args in
    let m = a.marks.now in
    let e : c.loop-j.j ≡ places = omega arith in
    ap (leb c.loop-j.kin) c.from.ensures
    ∙ settled-counted m a.i a.kept (λ z. omega arith) (c.loop-j.invariant.1.0 ∙ ap (count (alike m a.i)) e) (omega arith) (c.loop-j.invariant.1.1 ∙ ap (count (kin m a.i)) e)
