-- `fitness::all_fit_in` meets its contract: every place below i has an identity of its own and is no fourth of its chassis.
-- Where the marks leave no question nothing else is asked (settled-beside); else fits_in decides. Where all are so, all fit in (beside-all).
use Prim.Native.Nat.{ℕ, ◌≤◌, ◌<◌}
use Rattle.numbers.specs.Sizes.{places}
use Rattle.place.specs.State.{state}
use Rattle.fitness.proofs.ChassisLaws.{Beside}
use Rattle.fitness.proofs.beside.all_fit_in.Given as goal

abbrev pub invariant-loop-i : goal.invariant-loop-i
invariant-loop-i l = (l.i ≤ places) × ((k : ℕ) → k < l.i → Beside (state l.t l.buffer) k)
