-- The refusal of a frame, row by row: 3 exactly where length, destination, type or source is not as F1 to F4 say, then 4 to 6 by the TLVs (R3 to R6, Q1).
-- It holds of any answer that has an LLDPDU's refusal for its number, so of the outline and of the whole reading.
use Prim.Native.Nat.{ℕ}
use mathlib.Core.Path.{◌≡◌, refl}
use mathlib.Core.Logic.{◌↔◌}
use mathlib.Core.List.{List, []}
use mathlib.Core.Bool.{Bool, true, false, not}
use native.Mathlib.Omega.{arith}
use lib.ListN.{drop}
use Rattle.tally.specs.Tests.{pick}
use Rattle.octets.specs.Address.{is_group}
use Rattle.std.specs.Prelude.{Ok, Err}
use Rattle.refusal.specs.Refusal.{refusal_of}
use Rattle.refusal.specs.declared.Refusal.TheVariants.{NoFrame}
use Rattle.walk.specs.Walk.{Extent}
use Rattle.lldpdu.specs.Extent.{extent_of}
use Rattle.lldpdu.specs.Outline.{outline_at, outline_of}
use Rattle.lldpdu.proofs.Few.{Few, extent-few}
use Rattle.lldpdu.proofs.RowsLaws.{due_in, extent-rows}
use Rattle.reading.specs.Meaning.{ReaderAnswer, refused_answer, answer_at, answer_of}
use Rattle.reader.specs.Frame.{source_of, frame_ok, on_frame, frame_refusal}
use Rattle.reader.proofs.FrameLaws.{source-fails}

answer-refusal : (s : List ℕ) → (answer_of s).refusal ≡ refusal_of (extent_of s)
unfolding answer_of
answer-refusal s = go (extent_of s)
  where
    go : (e : Extent) → (answer_at e s).refusal ≡ refusal_of e
    go (Err r) = refl
    go (Ok n) = refl

outline-refusal : (s : List ℕ) → refusal_of (outline_of s) ≡ refusal_of (extent_of s)
unfolding outline_of
outline-refusal s = go (extent_of s)
  where
    go : (e : Extent) → refusal_of (outline_at e s) ≡ refusal_of e
    go (Err r) = refl
    go (Ok n) = refl

module _ (f : List ℕ) where
  module _ {A : Type 0} (number : A → ℕ) (bad : A) (answer : List ℕ → A) (bad-is : number bad ≡ 3) (same : (s : List ℕ) → number (answer s) ≡ refusal_of (extent_of s)) where
    any-rows : number (on_frame bad answer f) ≡ frame_refusal f
    unfolding on_frame frame_refusal
    any-rows = rw (extent-rows (drop 14 f) []) (go (frame_ok f) (extent_of (drop 14 f)) (same (drop 14 f)))
      where
        go : (b : Bool) (e : Extent) → number (answer (drop 14 f)) ≡ refusal_of e → number (pick b (answer (drop 14 f)) bad) ≡ pick (not b) 3 (due_in e 0)
        go true (Err r) q = q
        go true (Ok n) q = q
        go false e q = bad-is

  pub outline-rows : refusal_of (on_frame (Err NoFrame) outline_of f) ≡ frame_refusal f
  outline-rows = any-rows refusal_of (Err NoFrame) outline_of refl outline-refusal

  pub answer-rows : (on_frame (refused_answer 3) answer_of f).refusal ≡ frame_refusal f
  answer-rows = any-rows (λ (a : ReaderAnswer). a.refusal) (refused_answer 3) answer_of refl answer-refusal

  -- R3, for both
  pub three : (frame_refusal f ≡ 3) ↔ (frame_ok f ≡ false)
  unfolding frame_refusal
  three = rw (extent-rows (drop 14 f) []) (go (frame_ok f) (extent_of (drop 14 f)) (extent-few (drop 14 f)))
    where
      go : (b : Bool) (e : Extent) → Few e → (pick (not b) 3 (due_in e 0) ≡ 3) ↔ (b ≡ false)
      go true (Err r) h = (λ e. absurd (omega (arith, h.0)), λ e. let z : ◌≡◌ {A = Bool} true false = e in cc)
      go true (Ok n) h = (λ e. absurd (omega arith), λ e. let z : ◌≡◌ {A = Bool} true false = e in cc)
      go false e h = (λ q. refl, λ q. refl)

  -- F4, whatever else the frame has
  pub group-refused : is_group (source_of f) ≡ true → frame_refusal f ≡ 3
  group-refused g = three.1 (source-fails f g)
