-- `whole::fill` meets its contract: after i turns i octets are copied; then the rest of the place comes back as zeros.
-- One turn is copy_more, the end is filled-end of WholeLaws.
use mathlib.Core.Path.{◌≡◌, refl, ap, ◌∙◌}
use native.Mathlib.Omega.{arith}
use borrow.Author.Rules.{rules}
use lib.ListN.{get_or, set, length-set}
use Rattle.whole.proofs.WholeLaws.{copy_more, filled-end}
use Rattle.whole.proofs.fill.Goals as goal

pub loop-i-init : goal.loop-i-init
loop-i-init c = (search rules, refl, refl)

pub loop-i-preserved : goal.loop-i-preserved
loop-i-preserved c = (
  search rules,
  simp length-set (search rules),
  ap (λ x. set x c.loop-i.i (get_or c.args.s.now c.loop-i.i 0)) c.loop-i.invariant.2
      ∙ copy_more c.loop-i.i c.args.s.now c.args.d.now (omega arith) (omega arith),
)

pub returns : goal.returns
returns c =
    let e : c.loop-i.i ≡ c.min-n.result = omega arith in
    filled-end c.args.d.now c.args.s.now c.loop-i.d c.clear.new.s c.min-n.result c.min-n.ensures (rw e at c.loop-i.invariant.2) c.clear.ensures
