-- `fitness::is_no_fourth` meets its contract: fewer kin than three stand below (few-below), or n counts those below j that are of the chassis of place i.
-- TLV 1 of what place i keeps tells its chassis; is_by asks place j for it.
use Prim.Native.Nat.{ℕ, ◌≤◌}
use mathlib.Core.Path.{◌≡◌}
use mathlib.Core.Bool.{Bool}
use Rattle.tally.specs.Counts.{count}
use Rattle.rules.specs.Identity.{Ident}
use Rattle.rules.specs.Shares.{chassis_is}
use Rattle.place.specs.State.{State, state, at, who_at, passes}
use Rattle.fitness.proofs.chassis.is_no_fourth.Given as goal

-- what a record of the chassis of place i on its port passes
abbrev pub own : State → ℕ → Ident → Bool
own s i = chassis_is (who_at (at s i)).port (who_at (at s i)).chassis

abbrev pub invariant-loop-j : goal.invariant-loop-j
invariant-loop-j l = (l.j ≤ l.i) × (l.n ≡ count (passes (state l.t l.buffer) (own (state l.t l.buffer) l.i)) l.j)
