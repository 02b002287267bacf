-- The limit of a replay (C6): no more frames are handed over than it says. And the refusals that there are (C8).
-- That nothing behind the last frame is looked at is UnreadLaws.antt.
use Prim.Native.Nat.{ℕ, zero, suc, ◌+◌, ◌≤◌}
use mathlib.Core.Path.{◌≡◌, refl, sym, ap, ◌∙◌}
use mathlib.Core.Logic.{◌⊎◌, inl, inr, ◌≢◌}
use mathlib.Core.List.{List, ◌++◌}
use mathlib.Core.Bool.{Bool, true, false}
use native.Mathlib.Omega.{arith}
use lib.ListN.{length, drop}
use lib.Dec.{ltb}
use Rattle.std.specs.Prelude.{Option, Some, None}
use Rattle.tally.specs.Tests.{pick}
use Rattle.capture.specs.Layout.{file_header, layout_of}
use Rattle.capture.specs.Records.{Records, over, torn, first, records_of}
use Rattle.capture.specs.declared.Layout.{Layout}
use Rattle.capture.specs.declared.Layout.TheVariants.{HighFirst, LowFirst, Foreign}
use Rattle.numbers.specs.Sizes.{ports}
use Rattle.place.specs.State.{State}
use Rattle.fitness.specs.Fit.{fit}
use Rattle.records.specs.Place.{gap}
use Rattle.replay.specs.Calls.{pass, frame, Script, refusing, call, is_skipped, script_of, script_in, script_of_file, script_for, handed_in, after, replayed}
use Rattle.replay.specs.Place.{beginning}
use Rattle.replay.specs.Promises.{Stands, Listed}
use Rattle.replay.specs.Feeding.{Moment, moment, fed, finished}
use Rattle.replay.proofs.FeedingLaws.{fed-append, fed-still}
use Rattle.replay.proofs.FileLaws.{whole}

-- at most so many frames, and a refusal that records can have
record Limited (n : ℕ) (x : Script) : Type 0 where
  most : handed_in x.calls ≤ n
  refusals : (x.refusal ≡ 0) ⊎ (x.refusal ≡ 12)

limited : (l : Records) (before : Option ℕ) (n : ℕ) → Limited n (script_of l before n)
unfolding script_of handed_in
limited l before zero = record { most = omega arith; refusals = inl refl }
limited over before (suc n) = record { most = omega arith; refusals = inl refl }
limited torn before (suc n) = record { most = omega arith; refusals = inr refl }
limited (first c l) before (suc n) = go (is_skipped c) (limited l (Some c.stamp) (suc n)) (limited l (Some c.stamp) n)
  where
    go : (b : Bool) → Limited (suc n) (script_of l (Some c.stamp) (suc n)) → Limited n (script_of l (Some c.stamp) n)
        → Limited (suc n) (call (pass (gap before c.stamp)) (pick b (script_of l (Some c.stamp) (suc n)) (call (frame c.octets) (script_of l (Some c.stamp) n))))
    go true p q = record { most = p.most; refusals = p.refusals }
    go false p q = record { most = let h = q.most in omega arith; refusals = q.refusals }

-- "stops after a number of frames chosen by the caller"
pub at_most : (s : State) (port limit : ℕ) (file : List ℕ) → handed_in (script_for s port limit file).calls ≤ limit
unfolding script_for script_of_file script_in handed_in
at_most s port limit file = go (fit s) (ltb port ports) (ltb (length file) file_header)
  where
    by_layout : (y : Layout) → handed_in (script_in y file limit).calls ≤ limit
    by_layout HighFirst = (limited (records_of false (drop file_header file) 0) None limit).most
    by_layout LowFirst = (limited (records_of true (drop file_header file) 0) None limit).most
    by_layout Foreign = omega arith

    go : (a b c : Bool) → handed_in (pick a (pick b (pick c (refusing 11) (script_in (layout_of file) file limit)) (refusing 2)) (refusing 1)).calls ≤ limit
    go true true true = omega arith
    go true true false = by_layout (layout_of file)
    go true false c = omega arith
    go false b c = omega arith

-- where the front of a file leaves nothing due, as `wants_more` tells, the rest changes nothing
pub rest-unread : {s : State} {port limit : ℕ} {front : List ℕ} {m : Moment} → Listed s → Stands s port limit front m → m.replay.want ≡ 0 → (rest : List ℕ)
    → replayed s port limit (front ++ rest) ≡ replayed s port limit front
rest-unread {s} {port} {limit} {front} z c e rest =
    let k = moment (beginning s port limit) c.room s in
    let d : (fed k front).replay.want ≡ 0 = ap (λ (x : Moment). x.replay.want) (sym c.here) ∙ e in
    sym (whole s z port limit c.room c.long (front ++ rest))
    ∙ ap finished (fed-append k front rest ∙ fed-still (fed k front) rest d)
    ∙ whole s z port limit c.room c.long front

-- a fit table is never refused with 1
pub fit-not-refused-1 : (s : State) (port limit : ℕ) (file : List ℕ) → fit s ≡ true → (script_for s port limit file).refusal ≢ 1
unfolding script_for script_of_file script_in
fit-not-refused-1 s port limit file e d = go (ltb port ports) (ltb (length file) file_header) (sym (rw e refl) ∙ d)
  where
    of-records : {x : Script} → Limited limit x → x.refusal ≡ 1 → ⊥
    of-records l q = elim l.refusals [
      | inl z ↦ omega (arith, z, q)
      | inr z ↦ omega (arith, z, q)
    ]

    by_layout : (y : Layout) → (script_in y file limit).refusal ≡ 1 → ⊥
    by_layout HighFirst q = of-records (limited (records_of false (drop file_header file) 0) None limit) q
    by_layout LowFirst q = of-records (limited (records_of true (drop file_header file) 0) None limit) q
    by_layout Foreign q = omega arith

    go : (b c : Bool) → (pick b (pick c (refusing 11) (script_in (layout_of file) file limit)) (refusing 2)).refusal ≡ 1 → ⊥
    go true true q = omega arith
    go true false q = by_layout (layout_of file) q
    go false c q = omega arith

-- but for 12, a refusal comes before any call, and so changes nothing (C8)
pub refused-untouched : (s : State) (port limit : ℕ) (file : List ℕ) → (script_for s port limit file).refusal ≢ 0 → (script_for s port limit file).refusal ≢ 12
    → (replayed s port limit file).state ≡ s
unfolding replayed script_for script_of_file script_in after
refused-untouched s port limit file = go (fit s) (ltb port ports) (ltb (length file) file_header)
  where
    of-records : (x : Script) → Limited limit x → x.refusal ≢ 0 → x.refusal ≢ 12 → after port x.calls s ≡ s
    of-records x l a b = elim l.refusals [
      | inl z ↦ absurd (a z)
      | inr z ↦ absurd (b z)
    ]

    by_layout : (y : Layout) → (script_in y file limit).refusal ≢ 0 → (script_in y file limit).refusal ≢ 12 → after port (script_in y file limit).calls s ≡ s
    by_layout HighFirst = of-records (script_of (records_of false (drop file_header file) 0) None limit) (limited (records_of false (drop file_header file) 0) None limit)
    by_layout LowFirst = of-records (script_of (records_of true (drop file_header file) 0) None limit) (limited (records_of true (drop file_header file) 0) None limit)
    by_layout Foreign = λ a b. refl

    go : (a b c : Bool) → (let x = pick a (pick b (pick c (refusing 11) (script_in (layout_of file) file limit)) (refusing 2)) (refusing 1) in
        x.refusal ≢ 0 → x.refusal ≢ 12 → after port x.calls s ≡ s)
    go true true true = λ a b. refl
    go true true false = by_layout (layout_of file)
    go true false c = λ a b. refl
    go false b c = λ d e. refl
