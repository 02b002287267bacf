-- `marks::marks_of` meets its contract: every place below i is fit and has its mark.
-- A place that is not fit decides.
use Prim.Native.Nat.{◌≤◌}
use Rattle.numbers.specs.Sizes.{places}
use Rattle.place.specs.State.{state}
use Rattle.marks.proofs.MarkLaws.{Below}
use Rattle.marks.proofs.marks_of.Given as goal

abbrev pub invariant-loop-i : goal.invariant-loop-i
invariant-loop-i l = (l.i ≤ places) × Below (state l.t l.buffer) l.marks l.i
