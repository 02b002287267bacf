-- Laws of answers in numbers: the number of a refusal tells which it is, and so do an answer, the end of a replay and what compare answers.
-- So what stands in numbers says all that the answer said.
use Prim.Native.Nat.{ℕ}
use mathlib.Core.Path.{◌≡◌, refl, sym, ap, ap₂, ◌∙◌}
use mathlib.Core.List.{List}
use Rattle.std.specs.Prelude.{Result, Ok, Err}
use Rattle.refusal.specs.Refusal.{number_of}
use Rattle.refusal.specs.declared.Refusal.{Refusal}
use Rattle.refusal.specs.declared.Refusal.TheVariants.{Unfit, NoPort, NoFrame, NotAsDue, RunsPast, OutOfPlace, PortFull, CommonTaken, BreaksARule, NoRoom, NoCapture, Torn, ChassisLoud, TooShort}
use Rattle.place.specs.State.{State}
use Rattle.replay.specs.Calls.{Replayed, named, End, ended}
use Rattle.compare.specs.Compare.{Looked, looked}
use Rattle.play.specs.Numbers.{in_numbers, Shown, shown_of, Told, told, told_of}

number-named : (r : Refusal) → named (number_of r) ≡ r
number-named Unfit = refl
number-named NoPort = refl
number-named NoFrame = refl
number-named NotAsDue = refl
number-named RunsPast = refl
number-named OutOfPlace = refl
number-named PortFull = refl
number-named CommonTaken = refl
number-named BreaksARule = refl
number-named NoRoom = refl
number-named NoCapture = refl
number-named Torn = refl
number-named ChassisLoud = refl
number-named TooShort = refl

-- the answer that stands in numbers
answer_named : Result ℕ ℕ → Result ℕ Refusal
answer_named (Ok n) = Ok n
answer_named (Err n) = Err (named n)

answer-back : (x : Result ℕ Refusal) → answer_named (in_numbers x) ≡ x
unfolding answer_named
answer-back (Ok n) = refl
answer-back (Err r) = ap Err (number-named r)

pub numbers-apart : (x y : Result ℕ Refusal) → in_numbers x ≡ in_numbers y → x ≡ y
numbers-apart x y e = sym (answer-back x) ∙ ap answer_named e ∙ answer-back y

pub shown-apart : (x y : End) → shown_of x ≡ shown_of y → x ≡ y
shown-apart x y e =
    ap₂ (λ (a : Replayed) (s : State). ended a s) (numbers-apart x.answer y.answer (ap (λ (z : Shown). z.answer) e)) (ap (λ (z : Shown). z.state) e)

pub told-apart : (x y : Looked) → told_of x ≡ told_of y → x ≡ y
told-apart x y e =
    ap₂ (λ (a : Replayed) (l : List ℕ). looked a l) (numbers-apart x.answer y.answer (ap (λ (z : Told). z.answer) e)) (ap (λ (z : Told). z.list) e)

-- what compare answers, in numbers
pub told_numbers : {c : Result ℕ Refusal} {m : Result ℕ ℕ} {l : List ℕ} {w : Looked} → looked c l ≡ w → m ≡ in_numbers c → told m l ≡ told_of w
told_numbers {l = l} e i = ap (λ (x : Result ℕ ℕ). told x l) i ∙ ap (λ (x : Looked). told_of x) e
