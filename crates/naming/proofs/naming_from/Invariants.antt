-- `naming::naming_from` meets its contract: the first hit from here is the first hit of the whole walk.
-- The laws are naming-hit and naming-miss of NamingLaws.
use Prim.Native.Nat.{◌-◌}
use mathlib.Core.Path.{◌≡◌}
use lib.ListN.{length, drop}
use Rattle.naming.specs.Naming.{first_naming}
use Rattle.walk.specs.Walk.{walk}
use Rattle.naming.proofs.naming_from.Given as goal

abbrev pub invariant-loop-kind : goal.invariant-loop-kind
invariant-loop-kind l = first_naming l.address (walk (drop l.at l.s) 0 l.at).tlvs ≡ first_naming l.address (walk (drop l.from l.s) 0 l.from).tlvs

abbrev pub decreases-loop-kind : goal.decreases-loop-kind
decreases-loop-kind l = length l.s - l.at
