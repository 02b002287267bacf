-- What one octet more does to a replay: to its place, to the record buffer and to the table with its buffer.
-- Every octet of the record buffer is said, those that nobody will look at too.
use Rattle.std.specs.Prelude.{ℕ, ◌-◌, ◌≡◌, List, [], ◌∷◌, length, eqb}
use Rattle.tally.specs.Tests.{pick}
use Rattle.output.specs.Output.{Output, output_at, puts}
use Rattle.place.specs.State.{State}
use Rattle.records.specs.Place.{place_at}
use Rattle.records.specs.Turns.{Turn, settled}
use Rattle.replay.specs.Calls.{End, ended}
use Rattle.replay.specs.Place.{keeps, end_at}
use Rattle.records.specs.declared.Replay.{Replay}

-- a place, the record buffer and a table
pub record Moment : Type 0 where
  pub replay : Replay
  pub room : List ℕ
  pub state : State

abbrev pub moment : Replay → List ℕ → State → Moment
moment r room s = record { replay = r; room = room; state = s }

-- One octet more, and any number of them

-- octets are taken in, and kept where they are wanted later
abbrev pub held_to : Replay → ℕ → ℕ → Replay
held_to r held want = place_at r.stage r.low r.before held want r.limit r.left r.port

abbrev pub kept_in : Moment → List ℕ → Output
kept_in m c = pick (keeps m.replay.stage) (puts c (output_at m.room m.replay.held)) (output_at m.room m.replay.held)

unfoldable pub took : Moment → List ℕ → Moment
took m c = moment (held_to m.replay (kept_in m c).end (m.replay.want - length c)) (kept_in m c).octets m.state

-- what `take_in` does, whatever the table is: the place q and the octets after of the record buffer
abbrev pub Taken : Replay → List ℕ → List ℕ → Replay → List ℕ → Type 0
Taken r room c q after = (s : State) → moment q after s ≡ took (moment r room s) c

unfoldable pub settled_in : Moment → Moment
settled_in m = let x : Turn = settled m.replay m.room m.state in moment x.replay m.room x.state

-- nothing is looked at where nothing is due
unfoldable pub step : Moment → ℕ → Moment
step m x = pick (eqb m.replay.want 0) m (settled_in (took m (x ∷ [])))

unfoldable pub fed : Moment → List ℕ → Moment
fed m [] = m
fed m (x ∷ l) = fed (step m x) l

-- the file is over
abbrev pub finished : Moment → End
finished m = ended (end_at m.replay) m.state
