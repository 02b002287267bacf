-- `links::passed` meets its contract: none of the addresses passed is the one asked for.
-- Each comparison that fails is row-miss of RowLaws.
use Prim.Native.Nat.{◌-◌, ◌≤◌}
use mathlib.Core.Path.{◌≡◌}
use mathlib.Core.Bool.{false}
use Rattle.links.specs.Row.{among_of}
use Rattle.links.proofs.passed.Given as goal

abbrev pub invariant-loop-i : goal.invariant-loop-i
invariant-loop-i l = (l.i ≤ l.count) × (among_of l.s l.first l.i l.address ≡ false)

abbrev pub decreases-loop-i : goal.decreases-loop-i
decreases-loop-i l = l.count - l.i
