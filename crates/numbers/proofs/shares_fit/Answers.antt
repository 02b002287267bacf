-- `numbers::shares_fit` meets its contract: every port below p holds no more than it may, and the sum is what they hold beyond two.
-- A port that holds more decides (all-stop); at the end the sum decides.
use Prim.Native.Nat.{ℕ, ◌+◌}
use mathlib.Core.Path.{◌≡◌, refl, sym, ap, ◌∙◌}
use native.Mathlib.Omega.{arith}
use borrow.Author.Tests.{le-leb, lt-leb}
use lib.Dec.{leb}
use Rattle.tally.proofs.CountsLaws.{sum-none}
use Rattle.tally.proofs.RangesLaws.{all_none, all_more, all-stop}
use Rattle.rules.specs.Shares.{most}
use Rattle.numbers.specs.Sizes.{ports}
use Rattle.numbers.specs.Numbers.{holds, shares_ok}
use Rattle.numbers.proofs.NumbersLaws.{beyond-more, beyond-sum}
use Rattle.numbers.proofs.shares_fit.Goals as goal

pub loop-p-init : goal.loop-p-init
loop-p-init c = (omega arith, omega arith, sym (sum-none _), all_none _)

pub returns-then-count-gt-MOST : goal.returns-then-count-gt-MOST
unfolding shares_ok
returns-then-count-gt-MOST c =
    let h = holds c.args.t in
    let n : c.held-count.result ≡ h c.loop-p.p = c.held-count.ensures in
    sym (rw (all-stop (λ k. leb (h k) most) c.loop-p.p ports (omega arith) (lt-leb (h c.loop-p.p) most (omega arith))))

pub loop-p-preserved : goal.loop-p-preserved
loop-p-preserved c =
    let h = holds c.args.t in
    let n : c.held-count.result ≡ h c.loop-p.p = c.held-count.ensures in
    let more = beyond-more h c.loop-p.p n c.loop-p.invariant.2 in (
      omega arith,
      omega arith,
      ap (λ (x : ℕ). c.loop-p.sum + x) (c.from-sum.ensures ∙ c.saturating_sub.ensures) ∙ more,
      all_more _ _ c.loop-p.invariant.3 (le-leb (h c.loop-p.p) most (omega arith)),
    )

pub returns : goal.returns
unfolding shares_ok
returns c =
    let e : c.loop-p.p ≡ ports = omega arith in
    rw (rw e at c.loop-p.invariant.3, (rw e at c.loop-p.invariant.2) ∙ beyond-sum (holds c.args.t) ports) refl
