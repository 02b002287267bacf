-- The numbers of the refusals (R1 to R14), and that of an answer which may be one.
-- Rows of refusals are numbers throughout (tally/specs/Due.antt), as docs/RULES.md has them.
use Rattle.std.specs.Prelude.{ℕ, ◌==◌, if◌then◌else◌, Result, Ok, Err}
use Rattle.refusal.specs.declared.NoRefusal.{NoRefusal}
use Rattle.refusal.specs.declared.Refusal.{Refusal}
use Rattle.refusal.specs.declared.Refusal.TheVariants.{Unfit, NoPort, NoFrame, NotAsDue, RunsPast, OutOfPlace, PortFull, CommonTaken, BreaksARule, NoRoom, NoCapture, Torn, ChassisLoud, TooShort}

abbrev pub number_of : Refusal → ℕ
number_of Unfit = 1
number_of NoPort = 2
number_of NoFrame = 3
number_of NotAsDue = 4
number_of RunsPast = 5
number_of OutOfPlace = 6
number_of PortFull = 7
number_of CommonTaken = 8
number_of BreaksARule = 9
number_of NoRoom = 10
number_of NoCapture = 11
number_of Torn = 12
number_of ChassisLoud = 13
number_of TooShort = 14

-- 0 where it is no refusal
abbrev pub refusal_of : {A : Type 0} → Result A Refusal → ℕ
refusal_of (Ok a) = 0
refusal_of (Err r) = number_of r

-- the refusal of a number, where it has one
abbrev pub numbered : ℕ → Result Refusal NoRefusal
numbered n =
    if n == 1 then Ok Unfit else
    if n == 2 then Ok NoPort else
    if n == 3 then Ok NoFrame else
    if n == 4 then Ok NotAsDue else
    if n == 5 then Ok RunsPast else
    if n == 6 then Ok OutOfPlace else
    if n == 7 then Ok PortFull else
    if n == 8 then Ok CommonTaken else
    if n == 9 then Ok BreaksARule else
    if n == 10 then Ok NoRoom else
    if n == 11 then Ok NoCapture else
    if n == 12 then Ok Torn else
    if n == 13 then Ok ChassisLoud else
    if n == 14 then Ok TooShort else
    Err (record { number = n })
