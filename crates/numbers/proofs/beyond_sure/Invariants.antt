-- `numbers::beyond_sure` meets its contract: after p turns the sum is that over the ports below p.
-- No port holds more than there are places (holds-le), so the sum fits.
use Prim.Native.Nat.{◌*◌, ◌-◌, ◌≤◌}
use mathlib.Core.Path.{◌≡◌}
use Rattle.tally.specs.Counts as counts
use Rattle.rules.specs.Shares.{sure}
use Rattle.numbers.specs.Sizes.{ports, places}
use Rattle.numbers.specs.Numbers.{holds}
use Rattle.numbers.proofs.beyond_sure.Given as goal

abbrev pub invariant-loop-p : goal.invariant-loop-p
invariant-loop-p l = (l.p ≤ ports) × ((l.sum ≤ places * l.p) × (l.sum ≡ counts.sum (λ k. holds l.t k - sure) l.p))
