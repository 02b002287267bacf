-- `loud::chassis_held` meets its contract: after i turns n counts the records of the chassis on the port in the places below i.
-- The count is at most the number of places (count-le), so it fits.
use Prim.Native.Nat.{ℕ, ◌≤◌}
use mathlib.Core.Path.{◌≡◌}
use mathlib.Core.Bool.{Bool}
use mathlib.Core.List.{List}
use Rattle.tally.specs.Counts.{count}
use Rattle.ids.specs.Id.{id_meant}
use Rattle.ids.specs.declared.IdPart.{IdPart}
use Rattle.rules.specs.Shares.{chassis_is}
use Rattle.numbers.specs.Sizes.{places}
use Rattle.numbers.specs.declared.Table.{Table}
use Rattle.place.specs.State.{state, passes}
use Rattle.loud.proofs.chassis_held.Given as goal

-- whether place k is counted
abbrev pub counts : Table → List ℕ → ℕ → List ℕ → IdPart → ℕ → Bool
counts t buffer p text chassis = passes (state t buffer) (chassis_is p (id_meant text chassis))

abbrev pub invariant-loop-i : goal.invariant-loop-i
invariant-loop-i l = (l.i ≤ places) × (l.n ≡ count (counts l.t l.buffer l.p l.text l.chassis) l.i)
