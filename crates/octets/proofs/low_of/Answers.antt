-- `octets::low_of` meets its contract: a mask of eight bits is a remainder.
-- Nothing more than lib.Bits is needed; the answer goes before the cast, which another mask would pass too.
use lib.Bits.{and_mask, mask_lt}
use Rattle.octets.proofs.low_of.Goals as goal

pub returns : goal.returns
returns c = and_mask c.args.len 8

pub overflow_cast-result : goal.overflow_cast-result
overflow_cast-result c = record { fits = mask_lt c.args.len 8 }
