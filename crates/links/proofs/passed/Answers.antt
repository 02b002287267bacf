-- `links::passed` meets its contract: none of the addresses passed is the one asked for.
-- Each comparison that fails is row-miss of RowLaws.
use Prim.Native.Nat.{ℕ, ◌+◌, ◌*◌}
use mathlib.Core.Path.{◌≡◌, refl}
use mathlib.Core.List.{List}
use mathlib.Core.Bool.{Bool, false}
use native.Mathlib.Omega.{arith}
use Rattle.tally.proofs.RangesLaws.{some-none}
use Rattle.octets.specs.Address.{six_at, same_octets}
use Rattle.links.specs.Row.{among_of}
use Rattle.links.proofs.RowLaws.{row-miss}
use Rattle.links.proofs.passed.Goals as goal

module _ (s a : List ℕ) (first i : ℕ) where
  -- one comparison as the code makes it, at a place
  abbrev Is : Bool → ℕ → Type 0
  Is r at = r ≡ same_octets (six_at s at) a

  -- none of the first n
  abbrev None : ℕ → Type 0
  None n = among_of s first n a ≡ false

  -- none of those up to the n-th of a turn, where so many comparisons of the turn have failed
  module _ (none : None i) {r1 : Bool} (q1 : Is r1 (first + 6 * i)) (f1 : r1 ≡ false) where
    none_1 : None (i + 1)
    none_1 = row-miss s a first i refl q1 {k = i + 1} refl none f1

    module _ {r2 : Bool} (q2 : Is r2 (first + 6 * i + 6)) (f2 : r2 ≡ false) where
      none_2 : None (i + 2)
      none_2 = row-miss s a first (i + 1) (omega arith) q2 {k = i + 2} (omega arith) none_1 f2

      module _ {r3 : Bool} (q3 : Is r3 (first + 6 * i + 12)) (f3 : r3 ≡ false) where
        none_3 : None (i + 3)
        none_3 = row-miss s a first (i + 2) (omega arith) q3 {k = i + 3} (omega arith) none_2 f3

        none_4 : {r4 : Bool} → Is r4 (first + 6 * i + 18) → r4 ≡ false → None (i + 4)
        none_4 q4 f4 = row-miss s a first (i + 3) (omega arith) q4 {k = i + 4} (omega arith) none_3 f4

pub loop-i-init : goal.loop-i-init
loop-i-init c = (omega arith, some-none _)

pub returns-then-same_at-2 : goal.returns-then-same_at-2
returns-then-same_at-2 c =
    let a = c.args in
    let l = c.loop-i in
    (omega arith, none_1 a.s.now a.address a.first l.i l.invariant.1 c.same_at.ensures c.if-same_at.false)

pub returns-then-same_at-3 : goal.returns-then-same_at-3
returns-then-same_at-3 c =
    let a = c.args in
    let l = c.loop-i in
    (omega arith, none_2 a.s.now a.address a.first l.i l.invariant.1 c.same_at.ensures c.if-same_at.false c.same_at-in-loop-i.ensures c.if-same_at-2.false)

pub returns-then-same_at-4 : goal.returns-then-same_at-4
returns-then-same_at-4 c =
    let a = c.args in
    let l = c.loop-i in (
      omega arith,
      none_3 a.s.now a.address a.first l.i l.invariant.1 c.same_at.ensures c.if-same_at.false c.same_at-in-loop-i.ensures c.if-same_at-2.false
          c.same_at-in-loop-i-2.ensures c.if-same_at-3.false,
    )

pub loop-i-preserved : goal.loop-i-preserved
loop-i-preserved c =
    let a = c.args in
    let l = c.loop-i in (
      omega arith,
      none_4 a.s.now a.address a.first l.i l.invariant.1 c.same_at.ensures c.if-same_at.false c.same_at-in-loop-i.ensures c.if-same_at-2.false
          c.same_at-in-loop-i-2.ensures c.if-same_at-3.false c.same_at-in-loop-i-3.ensures c.if-same_at-4.false,
    )
