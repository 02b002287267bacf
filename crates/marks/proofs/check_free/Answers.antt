-- `marks::check_free` meets its contract: port, seconds, sender and octets pass.
-- Where one of them fails, `free_tested` of CheckLaws decides.
use mathlib.Core.Path.{◌≡◌, refl, sym, ◌∙◌}
use mathlib.Core.Bool.{Bool, true, false, not}
use native.Mathlib.Omega.{arith}
use Rattle.octets.proofs.AddressLaws.{pointwise-same, same-equal}
use Rattle.place.specs.State.{six_zeros}
use Rattle.marks.proofs.CheckLaws.{free-fit}
use Rattle.marks.proofs.check_free.Goals as goal

is_true : (b : Bool) → not b ≡ false → b ≡ true
is_true true e = refl
is_true false e = sym e

pub returns : goal.returns
returns c =
    let a = c.args in
    free-fit a.p a.left a.sender a.b.now
    (omega arith)
    (omega arith)
    (same-equal a.sender six_zeros.octets (sym (pointwise-same a.sender six_zeros.octets) ∙ is_true _ (sym c.ne.ensures ∙ c.if-ne.false)))
    (sym c.all_zero.ensures ∙ c.if-not-all_zero.false)
