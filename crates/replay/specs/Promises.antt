-- The contracts of `feed` and `finish`, for any place, record buffer, table and octets.
-- Each has one equation that fixes everything; what it means for a file is said beside it.
use Rattle.std.specs.Prelude.{ℕ, ◌≡◌, List, ◌++◌, Err, length, eqb}
use Rattle.tally.specs.Tests.{pick, both}
use Rattle.numbers.specs.Sizes.{places}
use Rattle.place.specs.State.{State}
use Rattle.refusal.specs.Refusal.{number_of, refusal_of}
use Rattle.refusal.specs.declared.Refusal.TheVariants.{Unfit}
use Rattle.replay.specs.Calls.{Replayed, handed_of, script_for, handed_in}
use Rattle.records.specs.Place.{refused_with}
use Rattle.replay.specs.Place.{room_octets, beginning, end_at}
use Rattle.replay.specs.Sound.{sound}
use Rattle.replay.specs.Feeding.{Moment, moment, fed}
use Rattle.records.specs.declared.Replay.{Replay}

-- the record buffer has its length, and the place is one that a replay can have made; else 1, and nothing is touched (C9)
unfoldable pub feeding : Moment → List ℕ → Moment
feeding m piece = pick (both (eqb (length m.room) room_octets) (sound m.replay)) (fed m piece) (moment (refused_with (number_of Unfit)) m.room m.state)

-- the octets `file` of a capture, replayed into the table s on a port and under a limit, lead to m; some octets stood in the record buffer before
pub record Stands (s : State) (port limit : ℕ) (file : List ℕ) (m : Moment) : Type 0 where
  pub room : List ℕ
  pub long : length room ≡ room_octets
  pub here : m ≡ fed (moment (beginning s port limit) room s) file

-- m is the place, the record buffer and the table behind the piece
pub record Feeds (r : Replay) (room : List ℕ) (s : State) (piece : List ℕ) (m : Moment) : Type 0 where
  pub exact : m ≡ feeding (moment r room s) piece
  -- behind the front of a file comes what the longer front leads to
  pub goes_on : (s₀ : State) (port limit : ℕ) (file : List ℕ) → Stands s₀ port limit file (moment r room s) → Stands s₀ port limit (file ++ piece) m

unfoldable pub ending : Replay → Replayed
ending r = pick (sound r) (end_at r) (Err Unfit)

-- the lists of a table have their lengths, as those of every table of the code
pub record Listed (s : State) : Type 0 where
  pub ports_long : length s.table.port ≡ places
  pub seconds_long : length s.table.seconds ≡ places
  pub lengths_long : length s.table.length ≡ places
  pub senders_long : length s.table.sender ≡ places

-- a is the answer at the end of the file
pub record Ends (r : Replay) (a : Replayed) : Type 0 where
  pub exact : a ≡ ending r
  -- the refusal that the file and that limit give
  pub refusal : (s : State) (port limit : ℕ) (file : List ℕ) (m : Moment) → Listed s → Stands s port limit file m → m.replay ≡ r
      → refusal_of a ≡ (script_for s port limit file).refusal
  -- "how many it handed over, which must be the number that the file and that limit give"
  pub counts : (s : State) (port limit : ℕ) (file : List ℕ) (m : Moment) → Listed s → Stands s port limit file m → m.replay ≡ r
      → refusal_of a ≡ 0 → handed_of a ≡ handed_in (script_for s port limit file).calls
