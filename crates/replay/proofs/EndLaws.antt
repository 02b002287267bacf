-- Where the replay of the front of a file stands, one piece more, and the answer at its end: what the contracts of `feed` and `finish` mean for a file.
-- A place that a replay made is sound, and there the whole file says what the answer is.
use Prim.Native.Nat.{ℕ, zero, suc, ◌+◌}
use mathlib.Core.Path.{◌≡◌, refl, sym, ap, ◌∙◌}
use mathlib.Core.Bool.{Bool, true, false}
use mathlib.Core.List.{List, [], ◌++◌}
use native.Mathlib.Omega.{arith}
use borrow.Author.Tests.{eq-eqb}
use lib.Dec.{eqb, ltb}
use Rattle.tally.specs.Tests.{pick}
use Rattle.place.specs.State.{State}
use Rattle.std.specs.Prelude.{Option, Some, None, Ok, Err}
use Rattle.capture.specs.Layout.{file_header, layout_of}
use Rattle.capture.specs.Records.{Records, over, torn, first, records_of}
use Rattle.capture.specs.declared.Layout.{Layout}
use Rattle.capture.specs.declared.Layout.TheVariants.{HighFirst, LowFirst, Foreign}
use Rattle.numbers.specs.Sizes.{ports}
use Rattle.fitness.specs.Fit.{fit}
use Rattle.refusal.specs.Refusal.{refusal_of}
use Rattle.refusal.specs.declared.Refusal.TheVariants.{Unfit}
use Rattle.replay.specs.Calls.{Replayed, named, handed_of, Script, refusing, call, frame, is_skipped, script_of, script_in, script_of_file, script_for, handed_in, answer_from, End, replayed}
use lib.ListN.{length, drop}
use Rattle.replay.specs.Place.{room_octets, beginning, end_at}
use Rattle.replay.specs.Sound.{sound}
use Rattle.replay.specs.Feeding.{Moment, moment, fed, finished}
use Rattle.replay.specs.Promises.{feeding, Stands, Feeds, ending, Listed, Ends}
use Rattle.records.specs.declared.Replay.{Replay}
use Rattle.replay.proofs.FileLaws.{whole}
use Rattle.replay.proofs.SoundLaws.{made-ready, fed-more}

-- The front of a file, from no octets on

module _ {s : State} {port limit : ℕ} where
  pub stands-none : (room : List ℕ) → length room ≡ room_octets → {r : Replay} → r ≡ beginning s port limit → Stands s port limit [] (moment r room s)
  unfolding fed
  stands-none room l e = record { room = room; long = l; here = ap (λ (q : Replay). moment q room s) e }

  pub stands-more : {file : List ℕ} {m n : Moment} → Stands s port limit file m → (piece : List ℕ) → n ≡ feeding m piece → Stands s port limit (file ++ piece) n
  stands-more {file} c piece e =
      record { room = c.room; long = c.long; here = e ∙ ap (λ (x : Moment). feeding x piece) c.here ∙ fed-more s port limit c.room c.long file piece }

  module _ {file : List ℕ} {m : Moment} (c : Stands s port limit file m) where
    pub stands-sound : sound m.replay ≡ true
    stands-sound = ap (λ (x : Moment). sound x.replay) c.here ∙ (made-ready s port limit c.room c.long file).1

    -- the end of the file here would be that of the whole file
    pub stands-end : Listed s → finished m ≡ replayed s port limit file
    stands-end z = ap finished c.here ∙ whole s z port limit c.room c.long file

pub feeds-exactly : {r : Replay} {room : List ℕ} {s : State} {piece : List ℕ} {m : Moment} → m ≡ feeding (moment r room s) piece → Feeds r room s piece m
feeds-exactly {r} {room} {s} {piece} e = record { exact = e; goes_on = λ s₀ port limit file c. stands-more c piece e }

-- a number that says a refusal, or 0 for none
abbrev Told : ℕ → Type 0
Told n = (k : ℕ) → refusal_of (pick (eqb n 0) (Ok k) (Err (named n))) ≡ n

-- so is each that stands behind the calls of a file

script-told : (l : Records) (before : Option ℕ) (left : ℕ) → Told (script_of l before left).refusal
unfolding script_of
script-told l before zero = λ k. refl
script-told over before (suc n) = λ k. refl
script-told torn before (suc n) = λ k. refl
script-told (first c l) before (suc n) =
    go (is_skipped c) (script_of l (Some c.stamp) (suc n)) (script_of l (Some c.stamp) n) (script-told l (Some c.stamp) (suc n)) (script-told l (Some c.stamp) n)
  where
    go : (b : Bool) (u h : Script) → Told u.refusal → Told h.refusal → Told (pick b u (call (frame c.octets) h)).refusal
    go true u h t v = t
    go false u h t v = v

layout-told : (y : Layout) (file : List ℕ) (limit : ℕ) → Told (script_in y file limit).refusal
unfolding script_in
layout-told HighFirst file limit = script-told (records_of false (drop file_header file) 0) None limit
layout-told LowFirst file limit = script-told (records_of true (drop file_header file) 0) None limit
layout-told Foreign file limit = λ k. refl

file-told : (s : State) (port limit : ℕ) (file : List ℕ) → Told (script_for s port limit file).refusal
unfolding script_for script_of_file
file-told s port limit file = go (fit s) (ltb port ports) (ltb (length file) file_header)
  where
    go : (a b c : Bool) → Told (pick a (pick b (pick c (refusing 11) (script_in (layout_of file) file limit)) (refusing 2)) (refusing 1)).refusal
    go true true true = λ k. refl
    go true true false = layout-told (layout_of file) file limit
    go true false c = λ k. refl
    go false b c = λ k. refl

-- what an answer says of the calls that it was made from
module _ (x : Script) (t : Told x.refusal) where
  refusal_is : refusal_of (answer_from 0 x) ≡ x.refusal
  refusal_is = t (0 + handed_in x.calls)

  handed-is : refusal_of (answer_from 0 x) ≡ 0 → handed_of (answer_from 0 x) ≡ handed_in x.calls
  handed-is e = let z : 0 + handed_in x.calls ≡ handed_in x.calls = omega arith in rw (eq-eqb x.refusal 0 (sym refusal_is ∙ e)) z

stands-answer : {r : Replay} {s : State} {port limit : ℕ} {file : List ℕ} {m : Moment} → Listed s → Stands s port limit file m → m.replay ≡ r
    → end_at r ≡ answer_from 0 (script_for s port limit file)
unfolding replayed
stands-answer z c d = sym (ap end_at d) ∙ ap (λ (e : End). e.answer) (stands-end c z)

module _ (r : Replay) {a : Replayed} where
  pub ends-sound : sound r ≡ true → a ≡ end_at r → Ends r a
  unfolding ending
  ends-sound f e =
      record {
        exact = e ∙ sym (rw f);
        refusal = λ s port limit file m z c d. ap refusal_of (e ∙ stands-answer z c d) ∙ refusal_is (script_for s port limit file) (file-told s port limit file);
        counts =
            λ s port limit file m z c d n.
            let q = e ∙ stands-answer z c d in
            ap handed_of q ∙ handed-is (script_for s port limit file) (file-told s port limit file) (sym (ap refusal_of q) ∙ n);
      }

  pub ends-unsound : sound r ≡ false → a ≡ Err Unfit → Ends r a
  unfolding ending
  ends-unsound f e =
      record {
        exact = e ∙ sym (rw f);
        refusal = λ s port limit file m z c d. absurd (never c d);
        counts = λ s port limit file m z c d n. absurd (never c d);
      }
    where
      never : {s : State} {port limit : ℕ} {file : List ℕ} {m : Moment} → Stands s port limit file m → m.replay ≡ r → ⊥
      never c d = let y : true ≡ false = sym (stands-sound c) ∙ ap sound d ∙ f in let z : ◌≡◌ {A = ℕ} 0 1 = cc in omega arith
