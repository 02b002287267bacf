-- `whole::part_zero` meets its contract: what was seen, joined with what is left, is the test of the whole.
-- One octet is zeros-more, the end is zeros-end of WholeLaws.
use mathlib.Core.Path.{◌≡◌}
use lib.Dec.{eqb}
use lib.ListN.{drop}
use Rattle.tally.specs.Tests.{both}
use Rattle.whole.specs.Whole.{zeros}
use Rattle.whole.proofs.part_zero.Given as goal

abbrev pub invariant-loop-x : goal.invariant-loop-x
invariant-loop-x l = both (eqb l.seen 0) (zeros (drop l.x-index l.s)) ≡ zeros l.s
