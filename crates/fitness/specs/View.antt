-- Which list of places a table is: what the model of the rules sees of the numbers, the senders and the octets.
-- The stored octets are read by the reader's own definitions.
use Rattle.std.proofs.Math.Option.{Option, none, some}
use Rattle.std.specs.Prelude.{eqb}
use Rattle.tally.specs.Tests.{pick}
use Rattle.tally.specs.Tab.{tab}
use Rattle.rules.specs.Model.{Rec, Places}
use Rattle.numbers.specs.Sizes.{places}
use Rattle.place.specs.State.{Place, State, at, lldpdu_at, who_at}

abbrev pub rec_of : Place → Rec
rec_of x = record { who = who_at x; left = x.seconds; octets = lldpdu_at x; sender = x.sender }

unfoldable pub place_of : Place → Option Rec
place_of x = pick (eqb x.len 0) none (some (rec_of x))

unfoldable pub view : State → Places
view s = tab places (λ k. place_of (at s k))
