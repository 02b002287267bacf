-- `freeing::change_all` meets its contract: after i turns the state is that of `each` below i.
-- One turn is one change (each_more): the place is freed (freed-put), or gets other seconds (changed-is); the buffer keeps its length.
use Prim.Native.Nat.{◌≤◌}
use mathlib.Core.Path.{◌≡◌}
use lib.ListN.{length}
use Rattle.numbers.specs.Sizes.{places}
use Rattle.place.specs.State.{octets, state, each}
use Rattle.freeing.specs.Changes.{changed}
use Rattle.freeing.proofs.change.change_all.Given as goal

abbrev pub invariant-loop-i : goal.invariant-loop-i
invariant-loop-i l = (l.i ≤ places) × ((length l.buffer ≡ octets) × (state l.u l.buffer ≡ each (changed l.change) l.i (state l.initial.u l.initial.buffer)))
