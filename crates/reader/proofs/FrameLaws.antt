-- Laws of the frame: the answer on a frame by whether it fits, and what a valid one has (A5).
-- Each answer on a frame rests on on-good and on-bad; frame-exactly adds what the one answer means, and the two returns of the reader cite it.
use Prim.Native.Nat.{ℕ, ◌≤◌}
use mathlib.Core.Path.{◌≡◌, refl, sym, ap, ◌∙◌}
use mathlib.Core.List.{List}
use mathlib.Core.Bool.{Bool, true, false, not}
use borrow.Author.Tests.{leb-true, not-true}
use lib.ListN.{length, drop}
use Rattle.tally.specs.Tests.{pick}
use Rattle.tally.proofs.TestsLaws.{held, all-fails}
use Rattle.octets.specs.Address.{is_group}
use Rattle.std.specs.Prelude.{Result, Err}
use Rattle.refusal.specs.declared.Refusal.{Refusal}
use Rattle.refusal.specs.declared.Refusal.TheVariants.{NoFrame}
use Rattle.reading.specs.Reading.{reading_of}
use Rattle.reading.specs.Meaning.{refused_answer, answer_of, meant, Reads}
use Rattle.reader.specs.Frame.{source_of, frame_tests, frame_ok, on_frame, ReadsFrame}
use Rattle.reading.proofs.MeaningLaws.{reading-means}
use Rattle.reading.specs.declared.Reading.{Reading}

pub frame-size : (f : List ℕ) → frame_ok f ≡ true → (14 ≤ length f) × (length f ≤ 1514)
unfolding frame_ok
frame-size f e =
    let h = held (frame_tests f) e in
    (leb-true 14 (length f) h.0, leb-true (length f) 1514 h.1.0)

-- the source of a valid frame is no group address, and no header with one is valid (F4)
pub frame-station : (f : List ℕ) → frame_ok f ≡ true → is_group (source_of f) ≡ false
unfolding frame_ok
frame-station f e = not-true (is_group (source_of f)) (held (frame_tests f) e).1.1.1.1.1.0

pub source-fails : (f : List ℕ) → is_group (source_of f) ≡ true → frame_ok f ≡ false
unfolding frame_ok
source-fails f g = all-fails (frame_tests f) 5 (ap not g)

module _ {A : Type 0} (three : A) (answer : List ℕ → A) (f : List ℕ) where
  pub on-good : frame_ok f ≡ true → on_frame three answer f ≡ answer (drop 14 f)
  unfolding on_frame
  on-good e = rw e

  pub on-bad : frame_ok f ≡ false → on_frame three answer f ≡ three
  unfolding on_frame
  on-bad e = rw e

-- the one answer on a frame means what it should
pub frame-exactly : (f : List ℕ) {r : Result Reading Refusal} → r ≡ on_frame (Err NoFrame) reading_of f → ReadsFrame f r
unfolding on_frame
frame-exactly f e = record { exact = e; means = ap (meant (drop 14 f)) e ∙ go (frame_ok f) }
  where
    go : (b : Bool) → meant (drop 14 f) (pick b (reading_of (drop 14 f)) (Err NoFrame)) ≡ pick b (answer_of (drop 14 f)) (refused_answer 3)
    go true = reading-means (drop 14 f)
    go false = refl

-- each return of the reader on a frame
module _ (f : List ℕ) {r : Result Reading Refusal} where
  pub frame-refused : frame_ok f ≡ false → r ≡ Err NoFrame → ReadsFrame f r
  frame-refused e q = frame-exactly f (q ∙ sym (on-bad _ reading_of f e))

  pub frame-read : {l : List ℕ} → frame_ok f ≡ true → l ≡ drop 14 f → Reads l r → ReadsFrame f r
  frame-read e q h = frame-exactly f (h.exact ∙ ap reading_of q ∙ sym (on-good _ reading_of f e))
