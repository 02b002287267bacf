-- What happens to a place by itself: seconds pass (N8), or the link of its port is lost (N9).
-- A free place stays as it is.
use Rattle.std.specs.Prelude.{ℕ, ◌-◌, Option, Some, None, leb, eqb}
use Rattle.tally.specs.Tests.{pick}
use Rattle.place.specs.State.{Place, free}
use Rattle.freeing.specs.declared.change.Change.{Change}
use Rattle.freeing.specs.declared.change.Change.TheVariants.{Age, Lose}

-- the seconds that a place has left where it stays, which has n for a length, p for a port and so many seconds left: seconds pass (N8), a link is lost (N9)
abbrev pub fate_of : Change → ℕ → ℕ → ℕ → Option ℕ
fate_of (Age s) n p left = pick (eqb n 0) (Some left) (pick (leb left s) None (Some (left - s)))
fate_of (Lose q) n p left = pick (eqb n 0) (Some left) (pick (eqb p q) None (Some left))

-- it is freed, or all of it stays but the seconds
abbrev pub met : Option ℕ → Place → Place
met None x = free
met (Some left) x = record { port = x.port; seconds = left; len = x.len; sender = x.sender; body = x.body }

unfoldable pub changed : Change → Place → Place
changed c x = met (fate_of c x.len x.port x.seconds) x

abbrev pub aged : ℕ → Place → Place
aged s = changed (Age s)

abbrev pub lost : ℕ → Place → Place
lost p = changed (Lose p)
