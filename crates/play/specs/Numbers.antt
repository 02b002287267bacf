-- Answers with the numbers of their refusals, as they are printed: those of a replay at the end of a file (J3), and those of two looks (J4).
-- The numbers tell the refusals apart, so nothing is lost (proofs/NumbersLaws.antt).
use Rattle.std.specs.Prelude.{ℕ, List, Result, Ok, Err}
use Rattle.refusal.specs.Refusal.{number_of}
use Rattle.refusal.specs.declared.Refusal.{Refusal}
use Rattle.place.specs.State.{State}
use Rattle.replay.specs.Calls.{End}
use Rattle.compare.specs.Compare.{Looked}

abbrev pub in_numbers : {A : Type 0} → Result A Refusal → Result A ℕ
in_numbers (Ok a) = Ok a
in_numbers (Err r) = Err (number_of r)

-- what a replay answered at the end, and the table that it left
pub record Shown : Type 0 where
  pub answer : Result ℕ ℕ
  pub state : State

abbrev pub shown : Result ℕ ℕ → State → Shown
shown a s = record { answer = a; state = s }

abbrev pub shown_of : End → Shown
shown_of e = shown (in_numbers e.answer) e.state

-- what two looks are answered with, and what the list then holds
pub record Told : Type 0 where
  pub answer : Result ℕ ℕ
  pub list : List ℕ

abbrev pub told : Result ℕ ℕ → List ℕ → Told
told a l = record { answer = a; list = l }

abbrev pub told_of : Looked → Told
told_of w = told (in_numbers w.answer) w.list
