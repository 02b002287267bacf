-- The octets of each answer (X4), how many there are (X2), and what is returned beside them.
-- A refusal leaves what stood in the answer, so each is said over that.
use Rattle.std.specs.Prelude.{ℕ, ◌%◌, Bool, true, false, List, [], ◌∷◌, ◌++◌, length, replicate, eqb, Option, Some, None, Result, Ok, Err, ⊤}
use Rattle.tally.specs.Tests.{pick, both}
use Rattle.tally.specs.Counts.{one}
use Rattle.octets.specs.Numbers.{two_octets, four_octets}
use Rattle.refusal.specs.Refusal.{number_of}
use Rattle.refusal.specs.declared.Refusal.{Refusal}
use Rattle.naming.specs.declared.Number.{Number}
use Rattle.reading.specs.declared.Reading.{Reading}
use Rattle.rules.specs.declared.Reply.{Reply}
use Rattle.rules.specs.declared.Reply.TheVariants.{Recorded, Refreshed, Gone, UnknownGoodbye}
use Rattle.questions.specs.declared.Sight.{Sight}
use Rattle.octet_description.specs.Octets.{size, front_octets, description_octets}

-- What is answered is handed over with the number of its refusal, as that crosses to C (X1): any number, of a refusal or not
abbrev pub in_numbers : {A : Type 0} → Result A Refusal → Result A ℕ
in_numbers (Ok a) = Ok a
in_numbers (Err r) = Err (number_of r)

-- that number, 0 where there is none
abbrev pub number_in : {A : Type 0} → Result A ℕ → ℕ
number_in (Ok a) = 0
number_in (Err n) = n

-- Done, where all fixed lengths are right and something was handed over; else the number, and before all else 1 (X2)
abbrev pub done_if : {A : Type 0} → Bool → Result A ℕ → Result ⊤ ℕ
done_if false x = Err 1
done_if true (Ok a) = Ok _
done_if true (Err n) = Err n

-- What comes back: the refusal number, 0 where there is none, and the slices in the order of the parameters
pub record Back : Type 0 where
  pub returned : ℕ
  pub slices : List (List ℕ)

abbrev pub back : ℕ → List (List ℕ) → Back
back n ss = record { returned = n; slices = ss }

-- where not all fixed lengths are right: 1, before all else, and the slices as they were (X2)
abbrev pub if_right : Bool → List (List ℕ) → Back → Back
if_right right ss b = pick right b (back 1 ss)

-- an answer a of so many octets: a refusal number n, and the octets o that it then holds (X2, X4)
abbrev pub answered : ℕ → ℕ → List ℕ → List ℕ → Back
answered long n o a = if_right (eqb (length a) long) (a ∷ []) (back n (o ∷ []))

-- How many octets

abbrev pub judged_long : ℕ
judged_long = 15

abbrev pub verdict_long : ℕ
verdict_long = 3

abbrev pub written_long : ℕ
written_long = 2

abbrev pub reply_long : ℕ
reply_long = 1

abbrev pub count_long : ℕ
count_long = 1

abbrev pub sight_long : ℕ
sight_long = 13

abbrev pub compared_long : ℕ
compared_long = 2

-- Of a reading

abbrev pub verdict_octets : Reading → List ℕ
verdict_octets r = two_octets r.octets ++ (one r.htip ∷ [])

abbrev pub judged_octets : Reading → List ℕ
judged_octets r = verdict_octets r ++ front_octets r.description

-- the slices ss as they were beside a refusal, and else what was read as octets
abbrev pub on_reading : Result Reading ℕ → List (List ℕ) → (Reading → List (List ℕ)) → Back
on_reading (Err n) ss answers = back n ss
on_reading (Ok r) ss answers = back 0 (answers r)

-- judge: the answer a
abbrev pub judge_right : List ℕ → Bool
judge_right a = eqb (length a) judged_long

unfoldable pub judged : Result Reading ℕ → List ℕ → Back
judged q a = if_right (judge_right a) (a ∷ []) (on_reading q (a ∷ []) (λ r. judged_octets r ∷ []))

-- read: the answer a and the description d
abbrev pub read_right : List ℕ → List ℕ → Bool
read_right a d = both (eqb (length a) verdict_long) (eqb (length d) size)

unfoldable pub read_answer : Result Reading ℕ → List ℕ → List ℕ → Back
read_answer q a d = if_right (read_right a d) (a ∷ d ∷ []) (on_reading q (a ∷ d ∷ []) (λ r. verdict_octets r ∷ description_octets r.description ∷ []))

-- Of what was written

abbrev pub written_octets : {E : Type 0} → Result ℕ E → List ℕ → List ℕ
written_octets (Ok n) a = two_octets n
written_octets (Err e) a = a

unfoldable pub written : Result ℕ ℕ → List ℕ → Back
written w a = answered written_long (number_in w) (written_octets w a) a

-- Of a frame on a port

abbrev pub code_of : Reply → ℕ
code_of Recorded = 1
code_of Refreshed = 2
code_of Gone = 3
code_of UnknownGoodbye = 4

abbrev pub reply_octets : {E : Type 0} → Result Reply E → List ℕ → List ℕ
reply_octets (Ok r) a = code_of r ∷ []
reply_octets (Err e) a = a

unfoldable pub replied : Result Reply ℕ → List ℕ → Back
replied x a = answered reply_long (number_in x) (reply_octets x a) a

-- Of the two questions

abbrev pub count_octets : {E : Type 0} → Result ℕ E → List ℕ → List ℕ
count_octets (Ok n) a = n ∷ []
count_octets (Err e) a = a

unfoldable pub counted : Result ℕ ℕ → List ℕ → Back
counted c a = answered count_long (number_in c) (count_octets c a) a

-- its count of octets, 1 to 4, and its value (A4)
abbrev pub number_octets : Number → List ℕ
number_octets n = n.octets % 256 ∷ four_octets n.value

abbrev pub place_octets : ℕ → Number → Number → List ℕ
place_octets k interface port = 1 ∷ (two_octets k ++ (number_octets interface ++ number_octets port))

abbrev pub sight_octets : {E : Type 0} → Result (Option Sight) E → List ℕ → List ℕ
sight_octets (Ok (Some s)) a = place_octets s.place s.interface s.port
sight_octets (Ok None) a = replicate sight_long 0
sight_octets (Err e) a = a

unfoldable pub seen : Result (Option Sight) ℕ → List ℕ → Back
seen x a = answered sight_long (number_in x) (sight_octets x a) a

-- Of a comparison: how many entries stand in the list (D3)

abbrev pub compared_octets : {E : Type 0} → Result ℕ E → List ℕ → List ℕ
compared_octets (Ok n) a = two_octets n
compared_octets (Err e) a = a

unfoldable pub compared_answer : Result ℕ ℕ → List ℕ → Back
compared_answer c a = answered compared_long (number_in c) (compared_octets c a) a
