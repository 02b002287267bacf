-- What compare answers for any two tables, and every octet of the list behind it (D1 to D4): 1 before 14, and a refusal writes nothing.
-- A table is seen as the model's list of places; which entries two of them give is said there.
use Rattle.std.specs.Prelude.{ℕ, ◌≡◌, not, List, [], ◌∷◌, ◌++◌, Result, Ok, Err, length, get_or, drop, leb, ltb}
use Rattle.std.proofs.Math.Option.{none}
use Rattle.tally.specs.Tests.{pick, both}
use Rattle.tally.specs.Due.{first_due}
use Rattle.refusal.specs.Refusal.{refusal_of}
use Rattle.refusal.specs.declared.Refusal.{Refusal}
use Rattle.refusal.specs.declared.Refusal.TheVariants.{Unfit, TooShort}
use Rattle.place.specs.State.{State}
use Rattle.fitness.specs.Fit.{fit}
use Rattle.fitness.specs.View.{view}
use Rattle.changes.specs.Entries.{Entry, left_kind, joined_kind, seconds_kind, altered_kind, of_first, of_second, entries, octets_of}
use Rattle.compare.specs.declared.Kind.{Kind}
use Rattle.compare.specs.declared.Kind.TheVariants.{Left, Joined, Seconds, Altered}

-- the number of a kind (D3)
abbrev pub number_of : Kind → ℕ
number_of Left = left_kind
number_of Joined = joined_kind
number_of Seconds = seconds_kind
number_of Altered = altered_kind

-- the number of entries that were listed, or a refusal
abbrev pub Compared : Type 0
Compared = Result ℕ Refusal

-- what place i of the first table gives, and place k of the second
abbrev pub first_gives : State → State → ℕ → List Entry
first_gives a b i = of_first (view b) i (get_or (view a) i none)

abbrev pub second_gives : State → State → ℕ → List Entry
second_gives a b k = of_second (view a) k (get_or (view b) k none)

abbrev pub entries_between : State → State → List Entry
entries_between a b = entries (view a) (view b)

-- how many octets they have
abbrev pub octets_due : State → State → ℕ
octets_due a b = length (octets_of (entries_between a b))

-- R1, then R14, of a list of so many octets (D4)
unfoldable pub refusal_on_comparing : State → State → ℕ → ℕ
refusal_on_comparing a b room = first_due ((not (both (fit a) (fit b)), 1) ∷ (ltb room (octets_due a b), 14) ∷ [])

-- an answer, and what the list then holds
pub record Looked : Type 0 where
  pub answer : Compared
  pub list : List ℕ

abbrev pub looked : Compared → List ℕ → Looked
looked r l = record { answer = r; list = l }

-- where both tables are fit: all entries, and behind them what was there; or 14 and the list as it was
abbrev pub listing : List Entry → List ℕ → Looked
listing e l =
    pick (leb (length (octets_of e)) (length l)) (looked (Ok (length e)) (octets_of e ++ drop (length (octets_of e)) l)) (looked (Err TooShort) l)

unfoldable pub compared : State → State → List ℕ → Looked
compared a b l = pick (both (fit a) (fit b)) (listing (entries_between a b) l) (looked (Err Unfit) l)

-- The contract: this answer and this list and no other, with the refusal that the rules give
pub record Compares (a b : State) (l : List ℕ) (r : Compared) (l' : List ℕ) : Type 0 where
  pub exact : looked r l' ≡ compared a b l
  pub refusal : refusal_of r ≡ refusal_on_comparing a b (length l)
