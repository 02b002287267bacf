-- `fitness::is_single` meets its contract: no place below j has the identity of place i, which the first two TLVs of what it keeps tell.
-- Where the marks differ the identities do (mark-differs); else is_of decides.
use Prim.Native.Nat.{◌≤◌}
use Rattle.place.specs.State.{state, at, who_at, is_of}
use Rattle.fitness.proofs.TwinLaws.{Clear}
use Rattle.fitness.proofs.single.is_single.Given as goal

abbrev pub invariant-loop-j : goal.invariant-loop-j
invariant-loop-j l = (l.j ≤ l.i) × Clear (is_of (state l.t l.buffer) (who_at (at (state l.t l.buffer) l.i))) l.i (at (state l.t l.buffer) l.i).len l.j
