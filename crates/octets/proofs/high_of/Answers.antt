-- `octets::high_of` meets its contract: the shifts and masks are the arithmetic of the rule.
-- The law is high_bits of HeaderLaws; the answer goes before the cast, which another mask would pass too.
use Prim.Native.Nat.{◌/◌}
use native.Mathlib.Omega.{arith}
use lib.Bits.{mask_lt}
use Rattle.octets.proofs.HeaderLaws.{high_bits}
use Rattle.octets.proofs.high_of.Goals as goal

pub returns : goal.returns
returns c = high_bits c.args.kind c.args.len

pub overflow_cast-result : goal.overflow_cast-result
overflow_cast-result c = omega (arith, mask_lt (c.args.len / 256) 1)
