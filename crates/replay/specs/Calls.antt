-- What the replay of a whole file is (C2 to C8): the calls that its records make under a limit, the refusal, and where the calls lead.
-- This is what a person must believe; a replay that is fed in pieces gives the same (C9).
use Rattle.std.specs.Prelude.{ℕ, zero, suc, ◌+◌, List, [], ◌∷◌, Bool, true, false, Option, Some, None, Result, Ok, Err, length, drop, ltb, eqb}
use Rattle.tally.specs.Tests.{pick}
use Rattle.capture.specs.Layout.{file_header, layout_of}
use Rattle.capture.specs.Records.{Captured, Records, over, torn, first, records_of}
use Rattle.capture.specs.declared.Layout.{Layout}
use Rattle.capture.specs.declared.Layout.TheVariants.{HighFirst, LowFirst, Foreign}
use Rattle.refusal.specs.Refusal.{numbered}
use Rattle.refusal.specs.declared.NoRefusal.{NoRefusal}
use Rattle.refusal.specs.declared.Refusal.{Refusal}
use Rattle.refusal.specs.declared.Refusal.TheVariants.{Unfit}
use Rattle.numbers.specs.Sizes.{ports}
use Rattle.place.specs.State.{State}
use Rattle.fitness.specs.Fit.{fit}
use Rattle.freeing.specs.Calls.{state_after, passed}
use Rattle.hearing.specs.Frame.{state_told, heard}
use Rattle.records.specs.Place.{gap}

-- a call of the table (C3): seconds pass, or a frame comes on the port that the caller names
pub data Call : Type 0 where
  pass : ℕ → Call
  frame : List ℕ → Call

-- how many frames were handed over, or a refusal
abbrev pub Replayed : Type 0
Replayed = Result ℕ Refusal

abbrev pub handed_of : Replayed → ℕ
handed_of (Ok n) = n
handed_of (Err r) = 0

-- the refusal of a number; of one that is none of a refusal, 1
abbrev pub or_unfit : Result Refusal NoRefusal → Refusal
or_unfit (Ok r) = r
or_unfit (Err e) = Unfit

abbrev pub named : ℕ → Refusal
named n = or_unfit (numbered n)

-- calls in their order, and the refusal behind them, 0 where there is none
pub record Script : Type 0 where
  pub calls : List Call
  pub refusal : ℕ

abbrev pub refusing : ℕ → Script
refusing n = record { calls = []; refusal = n }

abbrev pub call : Call → Script → Script
call c x = record { calls = c ∷ x.calls; refusal = x.refusal }

-- C5: fewer octets were captured than there were
abbrev pub is_skipped : Captured → Bool
is_skipped c = ltb (length c.octets) c.original

-- what records call for, where the limit has so much left (C6); torn counts only where it is looked at (C7)
unfoldable pub script_of : Records → Option ℕ → ℕ → Script
script_of l before zero = refusing 0
script_of over before (suc n) = refusing 0
script_of torn before (suc n) = refusing 12
script_of (first c l) before (suc n) =
    let unheard : Script = script_of l (Some c.stamp) (suc n) in
    let behind : Script = script_of l (Some c.stamp) n in
    call (pass (gap before c.stamp)) (pick (is_skipped c) unheard (call (frame c.octets) behind))

-- the records behind the file header, in the order that it says
unfoldable pub script_in : Layout → List ℕ → ℕ → Script
script_in HighFirst file limit = script_of (records_of false (drop file_header file) 0) None limit
script_in LowFirst file limit = script_of (records_of true (drop file_header file) 0) None limit
script_in Foreign file limit = refusing 11

-- a whole file (C2)
unfoldable pub script_of_file : List ℕ → ℕ → Script
script_of_file file limit = pick (ltb (length file) file_header) (refusing 11) (script_in (layout_of file) file limit)

-- with a table and a port: 1 and 2 go before 11 and 12 (C8)
unfoldable pub script_for : State → ℕ → ℕ → List ℕ → Script
script_for s port limit file = pick (fit s) (pick (ltb port ports) (script_of_file file limit) (refusing 2)) (refusing 1)

-- how many frames calls hand over (C6); refused ones count
unfoldable pub handed_in : List Call → ℕ
handed_in [] = 0
handed_in (pass n ∷ l) = handed_in l
handed_in (frame f ∷ l) = suc (handed_in l)

-- where calls lead
unfoldable pub after : ℕ → List Call → State → State
after port [] s = s
after port (pass n ∷ l) s = after port l (state_after (passed n s))
after port (frame f ∷ l) s = after port l (state_told (heard port f s))

-- what is answered, where n frames were handed over before
abbrev pub answer_from : ℕ → Script → Replayed
answer_from n x = pick (eqb x.refusal 0) (Ok (n + handed_in x.calls)) (Err (named x.refusal))

pub record End : Type 0 where
  pub answer : Replayed
  pub state : State

abbrev pub ended : Replayed → State → End
ended a s = record { answer = a; state = s }

abbrev pub end_from : ℕ → ℕ → Script → State → End
end_from n port x s = ended (answer_from n x) (after port x.calls s)

-- THE REPLAY of a file into a table, on a port, under a limit
unfoldable pub replayed : State → ℕ → ℕ → List ℕ → End
replayed s port limit file = end_from 0 port (script_for s port limit file) s
