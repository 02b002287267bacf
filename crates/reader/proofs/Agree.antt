-- The answer on a frame is the answer on its LLDPDU (A5).
-- It holds for every LLDPDU, valid or not, and for every header that fits.
use Prim.Native.Nat.{ℕ, ◌≤◌}
use mathlib.Core.Path.{◌≡◌, ap, ◌∙◌}
use mathlib.Core.List.{List, ◌++◌}
use mathlib.Core.Bool.{true}
use native.Mathlib.Omega.{arith}
use borrow.Author.Tests.{le-leb}
use lib.ListN.{length, drop, length-append, get_or-append}
use lib.Seq.{drop_at}
use Rattle.tally.proofs.TestsLaws.{held}
use Rattle.octets.proofs.AddressLaws.{six-front}
use Rattle.std.specs.Prelude.{Result, Err}
use Rattle.refusal.specs.declared.Refusal.{Refusal}
use Rattle.refusal.specs.declared.Refusal.TheVariants.{NoFrame}
use Rattle.reading.specs.Reading.{reading_of}
use Rattle.reading.specs.Meaning.{refused_answer, answer_of, Reads}
use Rattle.reading.specs.declared.Reading.{Reading}
use Rattle.reader.specs.Frame.{frame_tests, frame_ok, on_frame, ReadsFrame}
use Rattle.reader.proofs.FrameLaws.{on-good}

-- a header of fourteen octets that fits, with an LLDPDU of at most 1,500 behind it
module _ (h s : List ℕ) (l : length h ≡ 14) (o : frame_ok h ≡ true) (m : length s ≤ 1500) where
  header-fits : frame_ok (h ++ s) ≡ true
  unfolding frame_ok
  header-fits =
      let n = length-append h s in
      let k = held (frame_tests h) o in
      rw (
        le-leb 14 (length (h ++ s)) (omega arith),
        le-leb (length (h ++ s)) 1514 (omega arith),
        six-front h s 0 (omega arith),
        get_or-append h s 0 12 (omega arith),
        get_or-append h s 0 13 (omega arith),
        six-front h s 6 (omega arith),
        k.1.1.0,
        k.1.1.1.0,
        k.1.1.1.1.0,
        k.1.1.1.1.1.0,
      )

  pub frame-agrees : {A : Type 0} (three : A) (answer : List ℕ → A) → on_frame three answer (h ++ s) ≡ answer s
  frame-agrees three answer = on-good three answer (h ++ s) header-fits ∙ ap answer (drop_at h s 14 l)

  -- what `read_frame` may answer on the frame, `read_lldpdu` may answer on the octets behind the header
  pub frame-reads : {r : Result Reading Refusal} → ReadsFrame (h ++ s) r → Reads (drop 14 (h ++ s)) r
  frame-reads a =
      record {
        exact = a.exact ∙ on-good (Err NoFrame) reading_of (h ++ s) header-fits;
        means = a.means ∙ on-good (refused_answer 3) answer_of (h ++ s) header-fits;
      }
