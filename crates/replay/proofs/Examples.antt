-- Small captures in both byte orders, and the calls that they make, computed from the definitions: each oddity of C2 to C7 once.
-- What is due was written from the rules.
use Prim.Native.Nat.{ℕ, ◌/◌, ◌%◌}
use mathlib.Core.Path.{◌≡◌, refl}
use mathlib.Core.List.{List, [], ◌∷◌, ◌++◌, map}
use mathlib.Core.Bool.{Bool, true, false}
use lib.ListN.{take, replicate}
use Rattle.tally.specs.Tests.{pick}
use Rattle.octets.specs.Numbers.{value_from, four_octets}
use Rattle.capture.specs.Layout.{magic, word, opens, layout_of}
use Rattle.capture.specs.Records.{records_of}
use Rattle.records.specs.Place.{between}
use Rattle.replay.specs.Calls.{Call, pass, frame, Script, refusing, script_of, script_in, script_of_file}

-- a number of four octets, the low one first where `low`
abbrev number : Bool → ℕ → List ℕ
number low n = pick low (n % 256 ∷ n / 256 % 256 ∷ n / 65536 % 256 ∷ n / 16777216 % 256 ∷ []) (four_octets n)

-- a file header with this magic and link type; the rest of it is odd, since nobody looks at it
abbrev headed : ℕ → ℕ → Bool → List ℕ
headed m link low = number low m ++ (replicate 16 250 ++ number low link)

abbrev header : Bool → List ℕ
header = headed magic 1

-- a record with a stamp, a captured and an original length, and octets
abbrev entry : Bool → ℕ → ℕ → ℕ → List ℕ → List ℕ
entry low t n o l = number low t ++ (number low 999999 ++ (number low n ++ (number low o ++ l)))

abbrev x : List ℕ
x = 1 ∷ 2 ∷ 3 ∷ []

abbrev y : List ℕ
y = 7 ∷ []

-- entries of x and of y that are all there
abbrev ex : ℕ → Bool → List ℕ
ex t low = entry low t 3 3 x

abbrev ey : ℕ → Bool → List ℕ
ey t low = entry low t 1 1 y

abbrev calls : List Call → Script
calls l = record { calls = l; refusal = 0 }

abbrev then : List Call → ℕ → Script
then l n = record { calls = l; refusal = n }

pub record Case : Type 0 where
  pub file : Bool → List ℕ
  pub limit : ℕ
  pub due : Script

abbrev case : (Bool → List ℕ) → ℕ → Script → Case
case f n s = record { file = f; limit = n; due = s }

pub bench : List Case
bench =
    -- seconds are the difference of two stamps, 0 before the first record (C4)
    case (λ low. header low ++ (ex 100 low ++ ey 219 low)) 9 (calls (pass 0 ∷ frame x ∷ pass 119 ∷ frame y ∷ []))
    -- behind the last frame nothing is looked at, nor behind the file header where the limit is 0 (C6)
    ∷ case (λ low. header low ++ (ex 100 low ++ y)) 1 (calls (pass 0 ∷ frame x ∷ []))
    ∷ case (λ low. header low ++ y) 0 (calls [])
    -- with more of the limit left the file ends inside a record; the calls before stand (C7)
    ∷ case (λ low. header low ++ (ex 100 low ++ y)) 2 (then (pass 0 ∷ frame x ∷ []) 12)
    -- inside its octets, which makes no call for its seconds; a skipped one and one with a huge length too
    ∷ case (λ low. header low ++ (ex 100 low ++ entry low 200 3 3 y)) 9 (then (pass 0 ∷ frame x ∷ []) 12)
    ∷ case (λ low. header low ++ (ex 100 low ++ entry low 200 3 4 y)) 9 (then (pass 0 ∷ frame x ∷ []) 12)
    ∷ case (λ low. header low ++ (ex 100 low ++ entry low 200 4294967295 4294967295 x)) 9 (then (pass 0 ∷ frame x ∷ []) 12)
    -- a skipped record is not counted and its time passes; one that is longer than its original is handed over (C5)
    ∷ case (λ low. header low ++ (ex 100 low ++ (entry low 150 1 52 y ++ entry low 160 3 2 x))) 2 (calls (pass 0 ∷ frame x ∷ pass 50 ∷ pass 10 ∷ frame x ∷ []))
    -- a stamp that goes back passes no time, and the next difference is from it (C4)
    ∷ case (λ low. header low ++ (ex 100 low ++ (ey 50 low ++ ex 60 low))) 9 (calls (pass 0 ∷ frame x ∷ pass 0 ∷ frame y ∷ pass 10 ∷ frame x ∷ []))
    -- 65,535 and more
    ∷ case (λ low. header low ++ (ex 1 low ++ ey 65536 low)) 9 (calls (pass 0 ∷ frame x ∷ pass 65535 ∷ frame y ∷ []))
    ∷ case (λ low. header low ++ (ex 0 low ++ ey 4294967295 low)) 9 (calls (pass 0 ∷ frame x ∷ pass 65535 ∷ frame y ∷ []))
    -- no octets at all: handed over where there were none, skipped where there were some (C5)
    ∷ case (λ low. header low ++ (entry low 7 0 0 [] ++ entry low 9 0 1 [])) 9 (calls (pass 0 ∷ frame [] ∷ pass 2 ∷ []))
    -- a file that ends behind its header is whole (C7); one octet less is 11, also with a limit of 0 (C2)
    ∷ case header 9 (calls [])
    ∷ case (λ low. take 23 (header low)) 0 (refusing 11)
    -- nanoseconds, and other link types by any of their octets (C2)
    ∷ case (headed 2712812621 1) 9 (refusing 11)
    ∷ case (headed magic 0) 9 (refusing 11)
    ∷ case (headed magic 257) 9 (refusing 11)
    ∷ case (headed magic 16777216) 9 (refusing 11)
    ∷ []

abbrev said : Bool → Case → Script
said low c = script_of_file (c.file low) c.limit

pub bench-right : (map (said false) bench ≡ map (λ (c : Case). c.due) bench) × (map (said true) bench ≡ map (λ (c : Case). c.due) bench)
unfolding bench script_of_file script_in script_of between layout_of opens word value_from records_of
bench-right = (refl, refl)
