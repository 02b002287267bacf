-- `numbers::beyond_sure` meets its contract: after p turns the sum is that over the ports below p.
-- No port holds more than there are places (holds-le), so the sum fits.
use Prim.Native.Nat.{ℕ, ◌+◌}
use mathlib.Core.Path.{◌≡◌, sym, ap, ◌∙◌}
use native.Mathlib.Omega.{arith}
use Rattle.tally.proofs.CountsLaws.{sum-none}
use Rattle.numbers.specs.Sizes.{ports}
use Rattle.numbers.specs.Numbers.{holds}
use Rattle.numbers.proofs.NumbersLaws.{holds-le, beyond-more, beyond-sum}
use Rattle.numbers.proofs.beyond_sure.Goals as goal

pub loop-p-init : goal.loop-p-init
loop-p-init c = (omega arith, (omega arith, sym (sum-none _)))

pub loop-p-preserved : goal.loop-p-preserved
loop-p-preserved c =
    let h = holds c.args.t in
    let m = holds-le c.args.t c.loop-p.p in
    let more = beyond-more h c.loop-p.p c.held.ensures c.loop-p.invariant.1.1 in
    (omega arith, (omega (arith, m), ap (λ (x : ℕ). c.loop-p.sum + x) (c.from-sum.ensures ∙ c.saturating_sub.ensures) ∙ more))

pub returns : goal.returns
returns c =
    let e : c.loop-p.p ≡ ports = omega arith in
    (rw e at c.loop-p.invariant.1.1) ∙ beyond-sum (holds c.args.t) ports
