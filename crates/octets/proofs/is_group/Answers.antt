-- `octets::is_group` meets its contract: the mask of one bit is the arithmetic of the rule.
-- `and_mask` of the library of bits says so.
use Prim.Native.Nat.{ℕ}
use mathlib.Core.Path.{ap}
use lib.ListN.{get_or}
use lib.Bits.{and_mask}
use lib.Dec.{eqb}
use Rattle.octets.specs.Address.{is_group}
use Rattle.octets.proofs.is_group.Goals as goal

pub returns : goal.returns
unfolding is_group
returns c = ap (λ (bit : ℕ). eqb bit 1) (and_mask (get_or c.args.a 0 0) 1)
