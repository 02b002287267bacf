-- `whole::part_zero` meets its contract: what was seen, joined with what is left, is the test of the whole.
-- One octet is zeros-more, the end is zeros-end of WholeLaws.
use mathlib.Core.Path.{sym, ◌∙◌}
use native.Mathlib.Omega.{arith}
use Rattle.whole.proofs.WholeLaws.{zeros-more, zeros-end}
use Rattle.whole.proofs.part_zero.Goals as goal

pub loop-x-preserved : goal.loop-x-preserved
loop-x-preserved c = zeros-more c.loop-x.seen c.args.s.now c.loop-x.x-index (omega arith) ∙ c.loop-x.invariant

pub returns : goal.returns
returns c =
    sym (zeros-end c.loop-x.seen c.args.s.now c.loop-x.x-index (omega arith)) ∙ c.loop-x.invariant
