-- `extension::ends_there` meets its contract: one comparison with where the last item ends.
-- The law is end_read of LayoutLaws; two counts that are octets have a small product.
use native.Mathlib.Omega.{arith}
use Rattle.extension.proofs.LayoutLaws.{product_small, end_read}
use Rattle.extension.proofs.ends_there.Goals as goal

pub overflow_mul-pairings : goal.overflow_mul-pairings
overflow_mul-pairings c = omega (arith, product_small c.args.e.pairings c.args.h.width (omega arith) (omega arith))

pub overflow_add-e : goal.overflow_add-e
overflow_add-e c = omega (arith, product_small c.args.e.pairings c.args.h.width (omega arith) (omega arith))

pub items_end-requires : goal.items_end-requires
items_end-requires c = record { from_bound = omega (arith, product_small c.args.e.pairings c.args.h.width (omega arith) (omega arith)); count_bound = omega arith }

pub returns : goal.returns
returns c = end_read c.args.t.now c.requires.h_value c.requires.e_value c.items_end.ensures.0
