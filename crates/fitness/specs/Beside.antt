-- A place beside the others, as the code asks it: by the records below it.
-- They are for speed; whether a table is fit is said in Fit.antt, and that both come to the same is proved in proofs/ChassisLaws.antt.
use Rattle.std.specs.Prelude.{ℕ, ◌<◌, ◌≢◌, Bool, List, ltb}
use Rattle.tally.specs.Counts.{count}
use Rattle.rules.specs.Shares.{per_chassis, chassis_is}
use Rattle.numbers.specs.Sizes.{places}
use Rattle.marks.specs.Marks.{Marked}
use Rattle.place.specs.State.{State, at, who_at, passes}

-- the shorter way to N5 (g): fewer below place k are of its chassis, on its port, than one may hold there
unfoldable pub no_fourth : State → ℕ → Bool
no_fourth s k = ltb (count (passes s (chassis_is (who_at (at s k)).port (who_at (at s k)).chassis)) k) per_chassis

-- what is known where place i is asked beside the others: the place is used, and each place has its mark
pub record Asks (s : State) (marks : List ℕ) (i : ℕ) : Type 0 where
  pub below : i < places
  pub marked : Marked s marks
  pub kept : (at s i).len ≢ 0
