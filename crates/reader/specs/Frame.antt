-- A frame: when its length, destination, type and source are as they should be (F1 to F4), and the answer on it (A5).
-- Refusal 3 is given exactly where they are not (R3); else the answer is that on the octets from 14 on.
use Rattle.std.specs.Prelude.{ℕ, ◌≡◌, List, [], ◌∷◌, Bool, not, length, drop, get_or, leb, eqb, Result, Err}
use Rattle.tally.specs.Tests.{pick, either, all}
use Rattle.tally.specs.Due.{first_due}
use Rattle.octets.specs.Address.{six_at, same_octets, is_group}
use Rattle.lldpdu.specs.Rows.{rows_of}
use Rattle.reading.specs.Reading.{reading_of}
use Rattle.reading.specs.Meaning.{refused_answer, answer_of, meant}
use Rattle.reading.specs.declared.Reading.{Reading}
use Rattle.refusal.specs.declared.Refusal.{Refusal}
use Rattle.refusal.specs.declared.Refusal.TheVariants.{NoFrame}

-- FF-FF-FF-FF-FF-FF and 01-80-C2-00-00-0E (F2)
abbrev pub everyone : List ℕ
everyone = 0xFF ∷ 0xFF ∷ 0xFF ∷ 0xFF ∷ 0xFF ∷ 0xFF ∷ []

abbrev pub nearest : List ℕ
nearest = 0x01 ∷ 0x80 ∷ 0xC2 ∷ 0x00 ∷ 0x00 ∷ 0x0E ∷ []

abbrev pub destination_ok : List ℕ → Bool
destination_ok a = either (same_octets a everyone) (same_octets a nearest)

-- octets 6 to 11 (F1)
abbrev pub source_of : List ℕ → List ℕ
source_of f = six_at f 6

-- octets 14 and on: the LLDPDU, and any padding behind its End (F1)
abbrev pub lldpdu_of : List ℕ → List ℕ
lldpdu_of f = drop 14 f

-- length (F1), type (F3), destination (F2) and, last, source (F4)
abbrev pub frame_tests : List ℕ → List Bool
frame_tests f =
    leb 14 (length f)
    ∷ leb (length f) 1514
    ∷ eqb (get_or f 12 0) 0x88
    ∷ eqb (get_or f 13 0) 0xCC
    ∷ destination_ok (six_at f 0)
    ∷ not (is_group (source_of f))
    ∷ []

unfoldable pub frame_ok : List ℕ → Bool
frame_ok f = all (frame_tests f)

-- what is answered with refusal 3, or what is answered of the LLDPDU
unfoldable pub on_frame : {A : Type 0} → A → (List ℕ → A) → List ℕ → A
on_frame three answer f = pick (frame_ok f) (answer (lldpdu_of f)) three

-- refusals row by row: 3 (R3), then the TLVs front to back (R4 to R6, Q1), then the rows `rest`
abbrev pub frame_rows : List ℕ → List (Bool × ℕ) → List (Bool × ℕ)
frame_rows f rest = (not (frame_ok f), 3) ∷ rows_of (lldpdu_of f) rest

unfoldable pub frame_refusal : List ℕ → ℕ
frame_refusal f = first_due (frame_rows f [])

-- The contract of the reader on a frame: this answer and no other, and it means what the rules say
pub record ReadsFrame (f : List ℕ) (r : Result Reading Refusal) : Type 0 where
  pub exact : r ≡ on_frame (Err NoFrame) reading_of f
  pub means : meant (lldpdu_of f) r ≡ on_frame (refused_answer 3) answer_of f
