-- `found::gathered` meets its contract: what is found so far, with the TLVs to come, is what the whole walk finds; and so is where it ends.
-- The laws are those of FoundLaws: what one TLV adds, by what it says, and one step of the walk.
use Prim.Native.Nat.{◌-◌}
use mathlib.Core.Path.{◌≡◌}
use lib.ListN.{length, drop}
use Rattle.found.specs.Found.{nothing, survey_by}
use Rattle.walk.specs.Walk.{walk}
use Rattle.found.proofs.gathered.Given as goal

abbrev pub invariant-loop-r : goal.invariant-loop-r
invariant-loop-r l = survey_by l.found (walk (drop l.at l.s) 0 l.at) ≡ survey_by nothing (walk (drop l.from l.s) 0 l.from)

abbrev pub decreases-loop-r : goal.decreases-loop-r
decreases-loop-r l = length l.s - l.at
