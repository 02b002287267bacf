-- Laws of the records of a capture: what is passed, a record that is all there, and the last one where it is not.
-- A replay goes from record to record by these; nobody else sees the recursion.
use Prim.Native.Nat.{ℕ, zero, suc, ◌+◌, ◌≤◌, ◌<◌}
use mathlib.Core.Path.{◌≡◌, refl, ap, ◌∙◌}
use mathlib.Core.List.{List, [], ◌∷◌}
use mathlib.Core.Bool.{Bool}
use native.Mathlib.Omega.{arith}
use borrow.Author.Tests.{le-leb, lt-leb}
use lib.ListN.{length, drop}
use Rattle.capture.specs.Layout.{record_header, captured}
use Rattle.capture.specs.Records.{over, torn, first, front_of, records_of}

records-drop : (low : Bool) (l : List ℕ) (k : ℕ) → k ≤ length l → records_of low l k ≡ records_of low (drop k l) 0
unfolding records_of
records-drop low [] zero h = refl
records-drop low [] (suc k) h = absurd (omega arith)
records-drop low (x ∷ l) zero h = refl
records-drop low (x ∷ l) (suc k) h = records-drop low l k (omega arith)

pub records-none : (low : Bool) (l : List ℕ) → length l ≡ 0 → records_of low l 0 ≡ over
unfolding records_of
records-none low [] e = refl
records-none low (x ∷ l) e = absurd (omega arith)

pub records-torn : (low : Bool) (l : List ℕ) → 0 < length l → length l < record_header + captured low l → records_of low l 0 ≡ torn
unfolding records_of
records-torn low [] h i = absurd (omega arith)
records-torn low (x ∷ l) h i = rw (lt-leb (record_header + captured low (x ∷ l)) (length (x ∷ l)) i)

pub records-first : (low : Bool) (l : List ℕ) → record_header + captured low l ≤ length l
    → records_of low l 0 ≡ first (front_of low l) (records_of low (drop (record_header + captured low l) l) 0)
unfolding records_of
records-first low [] h = absurd (omega arith)
records-first low (x ∷ l) h =
    let n = captured low (x ∷ l) in
    let e : suc (15 + n) ≡ record_header + n = omega arith in
    rw (le-leb (record_header + n) (length (x ∷ l)) h)
    (ap (first (front_of low (x ∷ l))) (records-drop low l (15 + n) (omega arith) ∙ ap (λ (j : ℕ). records_of low (drop j (x ∷ l)) 0) e))
