-- `numbers::shares_fit` meets its contract: every port below p holds no more than it may, and the sum is what they hold beyond two.
-- A port that holds more decides (all-stop); at the end the sum decides.
use Prim.Native.Nat.{◌*◌, ◌-◌, ◌≤◌}
use mathlib.Core.Path.{◌≡◌}
use mathlib.Core.Bool.{true}
use lib.Dec.{leb}
use Rattle.tally.specs.Counts as counts
use Rattle.tally.specs.Ranges.{all_below}
use Rattle.rules.specs.Shares.{sure, most}
use Rattle.numbers.specs.Sizes.{ports}
use Rattle.numbers.specs.Numbers.{holds}
use Rattle.numbers.proofs.shares_fit.Given as goal

abbrev pub invariant-loop-p : goal.invariant-loop-p
invariant-loop-p l = (l.p ≤ ports) × (l.sum ≤ most * l.p) × (l.sum ≡ counts.sum (λ k. holds l.t k - sure) l.p) × (all_below (λ k. leb (holds l.t k) most) l.p ≡ true)
