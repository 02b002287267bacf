-- The marks of the fitness test: a number of each identity, so that most pairs of records are told apart by it alone.
-- They are for speed; whether a table is fit does not depend on them (N5 d, g).
use Rattle.std.specs.Prelude.{ℕ, ◌+◌, ◌-◌, ◌*◌, ◌/◌, ◌%◌, ◌<◌, ◌≡◌, Bool, true, false, List, [], ◌∷◌, length, get_or, leb, ltb, eqb, Option, Some, None}
use Rattle.tally.specs.Tests.{pick, both, all}
use Rattle.tally.specs.Ranges.{all_below}
use Rattle.tally.specs.Counts.{count}
use Rattle.octets.specs.Numbers.{pair_of}
use Rattle.whole.specs.Whole.{zeros}
use Rattle.ids.specs.Id.{Id}
use Rattle.rules.specs.Identity.{Ident}
use Rattle.rules.specs.Shares.{per_chassis}
use Rattle.numbers.specs.Sizes.{places}
use Rattle.place.specs.State.{Place, State, at, used, whose_in, who_at}
use Rattle.marks.specs.PlaceFit.{free_tests, whole, ok_place}

-- the last octet, wherever it lies; of an ID the last two, where the subtype stands before its octets
abbrev pub last_one : List ℕ → ℕ
last_one l = get_or l (length l - 1) 0

unfoldable pub last_two : Id → ℕ
last_two i = pair_of (get_or (i.subtype ∷ i.octets) (length i.octets - 1) 0) (last_one i.octets)

-- of port and chassis, which is the upper half of the mark of an identity; the remainder keeps the lower half below it
unfoldable pub chassis_mark : ℕ → Id → ℕ
chassis_mark p c = pair_of p (last_one c.octets)

unfoldable pub identity_mark : Ident → ℕ
identity_mark w = chassis_mark w.port w.chassis * 65536 + last_two w.port_id % 65536

abbrev pub mark_at : Place → ℕ
mark_at x = pick (used x) (identity_mark (who_at x)) 0

-- a mark where the place is fit by itself
abbrev pub check : Bool → ℕ → Option ℕ
check ok m = pick ok (Some m) None

unfoldable pub check_free : ℕ → ℕ → List ℕ → List ℕ → Option ℕ
check_free p left sender b = check (all (free_tests p left sender b)) 0

unfoldable pub check_used : ℕ → ℕ → List ℕ → List ℕ → Option ℕ
check_used p left l rest = check (all (whole l left ∷ zeros rest ∷ [])) (identity_mark (whose_in p l))

unfoldable pub check_place : Place → Option ℕ
check_place x = check (ok_place x) (mark_at x)

-- each place has its mark
pub record Marked (s : State) (marks : List ℕ) : Type 0 where
  pub long : length marks ≡ places
  pub right : (k : ℕ) → k < places → get_or marks k 0 ≡ mark_at (at s k)

-- place j has the mark of place i
abbrev pub alike : List ℕ → ℕ → ℕ → Bool
alike marks i j = eqb (get_or marks j 0) (get_or marks i 0)

-- place i, of which n octets are kept, is free, or its mark is its own
unfoldable pub apart : List ℕ → ℕ → ℕ → Bool
apart marks i n = pick (eqb n 0) true (leb (count (alike marks i) places) 1)

-- marks i and j agree in port and last chassis octet; the mark of a free place is 0
abbrev pub kin : List ℕ → ℕ → ℕ → Bool
kin marks i j = eqb (get_or marks j 0 / 65536) (get_or marks i 0 / 65536)

-- place i, of which n octets are kept, is free, or no more marks agree with its own, that one counted, than one chassis may hold
unfoldable pub few : List ℕ → ℕ → ℕ → Bool
few marks i n = pick (eqb n 0) true (leb (count (kin marks i) places) per_chassis)

-- the marks leave no question of place i
abbrev pub settled : List ℕ → ℕ → ℕ → Bool
settled marks i n = both (apart marks i n) (few marks i n)

-- fewer below place i agree with it than one chassis may hold
unfoldable pub few_below : List ℕ → ℕ → Bool
few_below marks i = ltb (count (kin marks i) i) per_chassis

-- all places are fit by themselves
abbrev pub all_ok : State → Bool
all_ok s = all_below (λ k. ok_place (at s k)) places

-- what the pass over all places gives: a mark of each, where all of them are fit by themselves
abbrev pub Checks : State → Option (List ℕ) → Type 0
Checks s (Some marks) = (all_ok s ≡ true) × Marked s marks
Checks s None = all_ok s ≡ false
