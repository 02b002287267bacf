-- What each export gives (X1 to X6): what it returns, and what every slice that it may write then holds.
-- Each is the call that a caller of ours has, on the table or the description that the octets mean.
use Rattle.std.specs.Prelude.{ℕ, ◌≡◌, ◌≢◌, Bool, true, List, [], ◌∷◌, ◌++◌, length, take, leb, eqb, Result, Err}
use Rattle.tally.specs.Tests.{pick, both, all}
use Rattle.refusal.specs.Refusal.{refusal_of}
use Rattle.refusal.specs.declared.Refusal.{Refusal}
use Rattle.refusal.specs.declared.Refusal.TheVariants.{NoFrame}
use Rattle.lldpdu.specs.Extent.{extent_of}
use Rattle.reading.specs.Reading.{reading_of}
use Rattle.reading.specs.Meaning.{said_by}
use Rattle.reading.specs.declared.Reading.{Reading}
use Rattle.reading.specs.declared.Description.{Description}
use Rattle.reader.specs.Frame.{on_frame, frame_refusal}
use Rattle.announcement.specs.Encode.{encode}
use Rattle.writer.specs.Write.{octets_written, write_of, over}
use Rattle.place.specs.State.{State, state}
use Rattle.fitness.specs.Refusals.{refusal_when_unfit, refusal_on_port}
use Rattle.freeing.specs.Calls.{After, state_after, started, refusal_at_start, passed, link_lost}
use Rattle.hearing.specs.Frame.{Told, state_told, heard, refusal_on_frame}
use Rattle.questions.specs.Sight.{counted, sight}
use Rattle.compare.specs.Compare.{refusal_on_comparing, Looked, compared}
use Rattle.octet_table.specs.Lent.{Lent, lengths_ok, table_in, lent_of}
use Rattle.octet_description.specs.Octets.{size, description_in, presences_ok}
use Rattle.octet_answers.specs.Answers.{in_numbers, Back, back, if_right, judge_right, judged, read_right, read_answer, written_long, reply_long, count_long, sight_long, compared_long, written_octets, reply_octets, count_octets, sight_octets, compared_octets}

abbrev pub due_if_right : Bool → ℕ → ℕ
due_if_right right n = pick right n 1

-- The contract of an export that was lent the slices ss: this and no other, with the refusal number that the rules give; a refusal changes no octet (X4)
pub record Gives (ss : List (List ℕ)) (want : Back) (due : ℕ) (r : Back) : Type 0 where
  pub exact : r ≡ want
  pub refusal : r.returned ≡ due
  pub stays : r.returned ≢ 0 → r.slices ≡ ss

-- Frames and announcements

abbrev pub frame_reading : List ℕ → Result Reading Refusal
frame_reading f = on_frame (Err NoFrame) reading_of f

-- a start and a length have two octets, so of a bare LLDPDU no more than 65,535 octets are looked at (X5)
abbrev pub looked_at : List ℕ → List ℕ
looked_at s = take 65535 s

-- the octets o of a description, and the answer a
abbrev pub write_right : List ℕ → List ℕ → Bool
write_right o a = both (eqb (length o) size) (eqb (length a) written_long)

-- what was written stands in front of what was in the output; a refusal writes nothing (W4, Q2)
abbrev pub on_written : Result ℕ Refusal → List ℕ → Description → List ℕ → List ℕ → Back
on_written w s d out a = back (refusal_of w) (over (octets_written w) (encode (said_by s d)) out ∷ written_octets w a ∷ [])

-- a presence that is neither 0 nor 1 breaks a rule: 9 (X5)
unfoldable pub writing : List ℕ → List ℕ → List ℕ → List ℕ → Back
writing o s out a =
    if_right (write_right o a) (out ∷ a ∷ [])
    (pick (presences_ok o) (on_written (write_of s (description_in o) (length out)) s (description_in o) out a) (back 9 (out ∷ a ∷ [])))

unfoldable pub refusal_on_writing : List ℕ → List ℕ → List ℕ → ℕ
refusal_on_writing o s out = pick (presences_ok o) (refusal_of (write_of s (description_in o) (length out))) 9

-- The table: the slices x and the buffer b

abbrev pub state_in : Lent → List ℕ → State
state_in x b = state (table_in x) b

abbrev pub table_slices : Lent → List ℕ → List (List ℕ)
table_slices x b = x.ports ∷ x.seconds ∷ x.lengths ∷ x.senders ∷ b ∷ []

abbrev pub state_slices : State → List (List ℕ)
state_slices s = table_slices (lent_of s.table) s.buf

-- The contract of an export that may change the table: besides, where the lengths are right the slices then mean the state that the call left
pub record Changes (right : Bool) (ss : List (List ℕ)) (want : Back) (due : ℕ) (left s : State) (r : Back) : Type 0 where
  pub gives : Gives ss want due r
  pub means : right ≡ true → s ≡ left

abbrev pub on_after : After → Back
on_after t = back (refusal_of t.outcome.answer) (state_slices (state_after t))

abbrev pub after_call : (State → After) → Lent → List ℕ → Back
after_call call x b = if_right (lengths_ok x) (table_slices x b) (on_after (call (state_in x b)))

-- seconds of any size: what the code counts is no more than 65,535, which nothing outlives (X6)
abbrev pub capped_of : ℕ → ℕ
capped_of n = pick (leb n 65535) n 65535

abbrev pub frame_right : Lent → List ℕ → Bool
frame_right x a = both (lengths_ok x) (eqb (length a) reply_long)

abbrev pub on_told : Told → List ℕ → Back
on_told t a = back (refusal_of t.outcome.reply) (state_slices (state_told t) ++ (reply_octets t.outcome.reply a ∷ []))

unfoldable pub framing : ℕ → List ℕ → Lent → List ℕ → List ℕ → Back
framing p f x b a = if_right (frame_right x a) (table_slices x b ++ (a ∷ [])) (on_told (heard p f (state_in x b)) a)

-- Questions: the answer alone is written

abbrev pub count_right : Lent → List ℕ → Bool
count_right x a = both (lengths_ok x) (eqb (length a) count_long)

unfoldable pub counting : ℕ → Lent → List ℕ → List ℕ → Back
counting p x b a =
    if_right (count_right x a) (a ∷ []) (back (refusal_of (counted p (state_in x b))) (count_octets (counted p (state_in x b)) a ∷ []))

abbrev pub address_long : ℕ
address_long = 6

-- with the asked address w (X2)
abbrev pub see_right : Lent → List ℕ → List ℕ → Bool
see_right x w a = all (lengths_ok x ∷ eqb (length w) address_long ∷ eqb (length a) sight_long ∷ [])

unfoldable pub seeing : List ℕ → ℕ → Lent → List ℕ → List ℕ → Back
seeing w from x b a =
    if_right (see_right x w a) (a ∷ []) (back (refusal_of (sight w from (state_in x b))) (sight_octets (sight w from (state_in x b)) a ∷ []))

-- Two tables: the slices x and the buffer b of the first, y and d of the second; the list l and the answer are written

abbrev pub compare_right : Lent → Lent → List ℕ → Bool
compare_right x y a = all (lengths_ok x ∷ lengths_ok y ∷ eqb (length a) compared_long ∷ [])

abbrev pub on_looked : Looked → List ℕ → Back
on_looked t a = back (refusal_of t.answer) (t.list ∷ compared_octets t.answer a ∷ [])

unfoldable pub comparing : Lent → List ℕ → Lent → List ℕ → List ℕ → List ℕ → Back
comparing x b y d l a = if_right (compare_right x y a) (l ∷ a ∷ []) (on_looked (compared (state_in x b) (state_in y d) l) a)

-- The contract of each export: what it was lent, what the slices then hold (behind a stroke where both are named), and what it returned

abbrev pub Judges : List ℕ → List ℕ → List ℕ → ℕ → Type 0
Judges f a a' r = Gives (a ∷ []) (judged (in_numbers (frame_reading f)) a) (due_if_right (judge_right a) (frame_refusal f)) (back r (a' ∷ []))

abbrev pub Tells : Result Reading Refusal → ℕ → List ℕ → List ℕ → List ℕ → List ℕ → ℕ → Type 0
Tells q due a d a' d' r = Gives (a ∷ d ∷ []) (read_answer (in_numbers q) a d) (due_if_right (read_right a d) due) (back r (a' ∷ d' ∷ []))

abbrev pub TellsFrame : List ℕ → List ℕ → List ℕ → List ℕ → List ℕ → ℕ → Type 0
TellsFrame f = Tells (frame_reading f) (frame_refusal f)

abbrev pub TellsLldpdu : List ℕ → List ℕ → List ℕ → List ℕ → List ℕ → ℕ → Type 0
TellsLldpdu s = Tells (reading_of (looked_at s)) (refusal_of (extent_of (looked_at s)))

abbrev pub Writes : List ℕ → List ℕ → List ℕ → List ℕ → List ℕ → List ℕ → ℕ → Type 0
Writes o s out a out' a' r =
    Gives (out ∷ a ∷ []) (writing o s out a) (due_if_right (write_right o a) (refusal_on_writing o s out)) (back r (out' ∷ a' ∷ []))

abbrev pub ChangesBy : (State → After) → (State → ℕ) → Lent → List ℕ → Lent → List ℕ → ℕ → Type 0
ChangesBy call due x b x' b' r =
    Changes (lengths_ok x) (table_slices x b) (after_call call x b) (due_if_right (lengths_ok x) (due (state_in x b))) (state_after (call (state_in x b))) (state_in x' b')
    (back r (table_slices x' b'))

abbrev pub Starts : Lent → List ℕ → Lent → List ℕ → ℕ → Type 0
Starts = ChangesBy started refusal_at_start

-- seconds of any size (X6)
abbrev pub Passes : ℕ → Lent → List ℕ → Lent → List ℕ → ℕ → Type 0
Passes n = ChangesBy (passed n) refusal_when_unfit

abbrev pub Loses : ℕ → Lent → List ℕ → Lent → List ℕ → ℕ → Type 0
Loses p = ChangesBy (link_lost p) (refusal_on_port p)

abbrev pub Hears : ℕ → List ℕ → Lent → List ℕ → List ℕ → Lent → List ℕ → List ℕ → ℕ → Type 0
Hears p f x b a x' b' a' r =
    Changes (frame_right x a) (table_slices x b ++ (a ∷ [])) (framing p f x b a) (due_if_right (frame_right x a) (refusal_on_frame p f (state_in x b)))
    (state_told (heard p f (state_in x b))) (state_in x' b') (back r (table_slices x' b' ++ (a' ∷ [])))

abbrev pub Counts : ℕ → Lent → List ℕ → List ℕ → List ℕ → ℕ → Type 0
Counts p x b a a' r = Gives (a ∷ []) (counting p x b a) (due_if_right (count_right x a) (refusal_on_port p (state_in x b))) (back r (a' ∷ []))

abbrev pub Sees : List ℕ → ℕ → Lent → List ℕ → List ℕ → List ℕ → ℕ → Type 0
Sees w from x b a a' r = Gives (a ∷ []) (seeing w from x b a) (due_if_right (see_right x w a) (refusal_when_unfit (state_in x b))) (back r (a' ∷ []))

abbrev pub Compares : Lent → List ℕ → Lent → List ℕ → List ℕ → List ℕ → List ℕ → List ℕ → ℕ → Type 0
Compares x b y d l a l' a' r =
    Gives (l ∷ a ∷ []) (comparing x b y d l a) (due_if_right (compare_right x y a) (refusal_on_comparing (state_in x b) (state_in y d) (length l))) (back r (l' ∷ a' ∷ []))
