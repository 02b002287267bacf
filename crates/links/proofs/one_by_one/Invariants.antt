-- `links::one_by_one` meets its contract: none of the addresses passed is the one asked for.
-- The laws are row-miss and row-hit of RowLaws.
use Prim.Native.Nat.{◌≤◌}
use mathlib.Core.Path.{◌≡◌}
use mathlib.Core.Bool.{false}
use Rattle.links.specs.Row.{among_of}
use Rattle.links.proofs.one_by_one.Given as goal

abbrev pub invariant-loop-i : goal.invariant-loop-i
invariant-loop-i l = (l.i ≤ l.count) × (among_of l.s l.first l.i l.address ≡ false)
