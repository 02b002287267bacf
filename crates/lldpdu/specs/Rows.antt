-- Refusals 4, 5 and 6 as rows, TLV by TLV from the front (R4, R5, R6, Q1): 4 or 6 is asked only of a TLV that is whole, so 5 goes before them.
-- A row is asked only where none before it is due; the first that is due is the refusal that extent_of gives (RowsLaws.antt).
use Rattle.std.specs.Prelude.{ℕ, zero, suc, List, [], ◌∷◌, Bool, true, false, not, drop, leb, ltb, eqb, Option, Some, None}
use Rattle.tally.specs.Tests.{pick, both, either}
use Rattle.octets.specs.Header.{kind_in, length_in}
use Rattle.walk.specs.Walk.{head_of}
use Rattle.walk.specs.declared.Head.{Head}
use Rattle.lldpdu.specs.Extent.{port_place, seconds_place, rest_place, is_chassis, is_port, seconds_ok}

-- header or body runs past the end
abbrev pub runs_past : Option Head → Bool
runs_past None = true
runs_past (Some h) = false

-- it is whole, and a test of its type and L is not passed
abbrev pub fails : Option Head → (ℕ → ℕ → Bool) → Bool
fails None ok = false
fails (Some h) ok = not (ok h.kind h.len)

-- the two rows of one TLV, and those that follow
abbrev pub tlv_rows : Option Head → (ℕ → ℕ → Bool) → ℕ → List (Bool × ℕ) → List (Bool × ℕ)
tlv_rows h ok n more = (runs_past h, 5) ∷ (fails h ok, n) ∷ more

-- not of type 1 to 3, nor type 0 with L above 0, nor type 127 with L under 4 (R6)
abbrev pub later_ok : ℕ → ℕ → Bool
later_ok kind len = not (either (both (leb 1 kind) (leb kind 3)) (either (both (eqb kind 0) (not (eqb len 0))) (both (eqb kind 127) (ltb len 4))))

-- the TLVs behind the first three, to the End (L7); k octets belong to an information string that is passed, and the rows `rest` follow the End
unfoldable pub later_rows : List ℕ → ℕ → List (Bool × ℕ) → List (Bool × ℕ)
later_rows [] k rest = (true, 5) ∷ []
later_rows (x ∷ l) (suc k) rest = later_rows l k rest
later_rows (hi ∷ []) zero rest = (true, 5) ∷ []
later_rows (hi ∷ lo ∷ r) zero rest =
    tlv_rows (head_of (hi ∷ lo ∷ r)) later_ok 6
    (pick (both (eqb (kind_in hi) 0) (eqb (length_in hi lo) 0)) rest (later_rows r (length_in hi lo) rest))

-- the whole LLDPDU, then the rows `rest`
unfoldable pub rows_of : List ℕ → List (Bool × ℕ) → List (Bool × ℕ)
rows_of s rest =
    tlv_rows (head_of (drop 0 s)) (λ kind len. is_chassis s kind) 4
    (tlv_rows (head_of (drop (port_place s) s)) (λ kind len. is_port s kind) 4
    (tlv_rows (head_of (drop (seconds_place s) s)) seconds_ok 4
    (later_rows (drop (rest_place s) s) 0 rest)))
