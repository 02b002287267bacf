-- `links::in_row` meets its contract: none of the addresses passed is the one asked for, and the others are looked at one by one.
-- The laws are row-miss and row-hit of RowLaws.
use Prim.Native.Nat.{◌+◌}
use mathlib.Core.Path.{◌≡◌, refl, sym}
use native.Mathlib.Omega.{arith}
use Rattle.links.proofs.RowLaws.{row-miss, row-hit}
use Rattle.links.proofs.in_row.Goals as goal

pub passed-i-requires : goal.passed-i-requires
passed-i-requires c = record { le_first = omega arith; count_in_bounds = omega arith }

pub loop-i-init : goal.loop-i-init
loop-i-init c = c.passed-i.ensures

pub same_at-requires : goal.same_at-requires
same_at-requires c = record { le_at = omega arith; at_in_bounds = omega arith }

pub returns-then-same_at : goal.returns-then-same_at
returns-then-same_at c =
    let a = c.args in
    sym (row-hit a.s.now a.address a.first c.loop-i.i refl c.same_at.ensures (omega arith) c.if-same_at.true)

pub loop-i-preserved : goal.loop-i-preserved
loop-i-preserved c =
    let a = c.args in
    let i = c.loop-i.i in
    (omega arith, row-miss a.s.now a.address a.first i refl c.same_at.ensures {k = i + 1} refl c.loop-i.invariant.1 c.if-same_at.false)

pub returns : goal.returns
returns c =
    let e : c.loop-i.i ≡ c.args.count = omega arith in
    sym (rw e at c.loop-i.invariant.1)
