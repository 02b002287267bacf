-- `walk::step_at` meets its contract: a whole TLV ends within the slice, so that its start does not wrap.
-- The returns are found by the header and the tests that led to each (`read` of WalkLaws).
use native.Mathlib.Omega.{arith}
use Rattle.walk.proofs.WalkLaws.{whole-fits, head-some}
use Rattle.walk.proofs.step_at.Goals as goal

pub overflow_add-start : goal.overflow_add-start
overflow_add-start c = omega (arith, whole-fits c.args.s.now c.args.at (head-some c.head_at.ensures c.ok_or.ensures.value c.in_ok-kind.was))
