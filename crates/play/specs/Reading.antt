-- What reading a file in pieces does to two replays. No contract can say what a read gives, so these speak of some octets, the same for both.
-- That they are those of the file, all of them and in order, is tested and not proved.
use Rattle.std.specs.Prelude.{ℕ, ◌≡◌, List, ◌++◌}
use Rattle.place.specs.State.{State, state}
use Rattle.records.specs.declared.Fed.{Fed}
use Rattle.replay.specs.Calls.{Replayed, replayed}
use Rattle.replay.specs.Place.{beginning}
use Rattle.replay.specs.Feeding.{Moment, moment}
use Rattle.replay.specs.Promises.{Stands, Listed, Ends}
use Rattle.play.specs.Numbers.{in_numbers, Shown, shown, shown_of}
use Rattle.play.specs.declared.Seen.{Seen}

-- where a replay stands, with its record buffer and the buffer of its table
abbrev pub standing : Fed → List ℕ → List ℕ → Moment
standing f room buffer = moment f.replay room (state f.table buffer)

-- before the first read, with a table of the code
pub record Begins (s : State) (port limit : ℕ) (f : Fed) : Type 0 where
  pub listed : Listed s
  pub place : f.replay ≡ beginning s port limit
  pub table : f.table ≡ s.table

-- what m is behind the front of a file, n is behind that front with the piece
abbrev pub GoesOn : Moment → List ℕ → Moment → Type 0
GoesOn m piece n = (s : State) (port limit : ℕ) (file : List ℕ) → Stands s port limit file m → Stands s port limit (file ++ piece) n

-- a read: both go on by the same octets, by none where nothing came
abbrev pub ReadsOn : Moment → Moment → Moment → Moment → Type 0
ReadsOn m m' n n' = (piece : List ℕ) × (GoesOn m piece n × GoesOn m' piece n')

-- behind the last read: said is the answer of the replay, which is kept with the number of its refusal
pub record Ended (f : Fed) (q : Seen) : Type 0 where
  pub said : Replayed
  pub answer : Ends f.replay said
  pub numbers : q.answer ≡ in_numbers said
  pub table : q.table ≡ f.table

abbrev pub end_of : Seen → List ℕ → Shown
end_of q buffer = shown q.answer (state q.table buffer)

-- there are octets, the same for both, of which the replays into the tables s and s' give these answers, in numbers, and leave these tables
abbrev pub Plays : ℕ → State → ℕ → Seen → List ℕ → State → ℕ → Seen → List ℕ → Type 0
Plays port s limit q b s' limit' q' b' = (file : List ℕ) × ((end_of q b ≡ shown_of (replayed s port limit file)) × (end_of q' b' ≡ shown_of (replayed s' port limit' file)))
