-- Nothing behind the last frame is looked at (C6): a file whose front hands over as many frames as the limit says makes the calls of that front.
-- Over the definitions alone; a record at the front of a file is the same whatever follows it.
use Prim.Native.Nat.{ℕ, zero, suc, ◌+◌, ◌<◌, ◌≤◌}
use mathlib.Core.Path.{◌≡◌, refl, sym, ap, ◌∙◌}
use mathlib.Core.List.{List, [], ◌∷◌, ◌++◌}
use mathlib.Core.Bool.{Bool, true, false}
use native.Mathlib.Omega.{arith}
use borrow.Author.Tests.{leb-true, leb-false, ltb-false, le-ltb}
use lib.ListN.{length, take, drop, length-append, length-drop}
use lib.Seq.{take-append-le, drop-append-le}
use lib.Dec.{leb, ltb}
use Rattle.std.specs.Prelude.{Option, Some, None}
use Rattle.tally.specs.Tests.{pick}
use Rattle.capture.specs.Layout.{file_header, layout_of, record_header, captured}
use Rattle.capture.specs.Records.{Captured, Records, first, front_of, records_of}
use Rattle.capture.specs.declared.Layout.{Layout}
use Rattle.capture.specs.declared.Layout.TheVariants.{HighFirst, LowFirst, Foreign}
use Rattle.capture.proofs.LayoutLaws.{word-front, layout-front}
use Rattle.capture.proofs.RecordsLaws.{records-none, records-torn, records-first}
use Rattle.numbers.specs.Sizes.{ports}
use Rattle.place.specs.State.{State}
use Rattle.fitness.specs.Fit.{fit}
use Rattle.records.specs.Place.{gap}
use Rattle.replay.specs.Calls.{pass, frame, Script, refusing, call, is_skipped, script_of, script_in, script_of_file, script_for, handed_in}

-- the record at the front of l is that at the front of l ++ rest
module _ (low : Bool) (l rest : List ℕ) (h : record_header + captured low l ≤ length l) where
  fronts : take record_header (l ++ rest) ≡ take record_header l
  fronts = take-append-le record_header l rest (omega arith)

  captured-same : captured low (l ++ rest) ≡ captured low l
  captured-same = word-front low record_header (l ++ rest) l 8 (omega arith) fronts

  octets-same : take (captured low (l ++ rest)) (drop record_header (l ++ rest)) ≡ take (captured low l) (drop record_header l)
  octets-same =
      ap (λ (n : ℕ). take n (drop record_header (l ++ rest))) captured-same
      ∙ ap (take (captured low l)) (drop-append-le record_header l rest (omega arith))
      ∙ take-append-le (captured low l) (drop record_header l) rest (omega (arith, length-drop record_header l))

  first-same : records_of low (l ++ rest) 0 ≡ first (front_of low l) (records_of low (drop (record_header + captured low l) l ++ rest) 0)
  first-same =
      records-first low (l ++ rest) (omega (arith, captured-same, length-append l rest))
      ∙ (λ i. first (record { stamp = word-front low record_header (l ++ rest) l 0 (omega arith) fronts i; original = word-front low record_header (l ++ rest) l 12 (omega arith) fronts i; octets = octets-same i })
      (records_of low (drop (record_header + captured-same i) (l ++ rest)) 0))
      ∙ ap (λ (x : List ℕ). first (front_of low l) (records_of low x 0)) (drop-append-le (record_header + captured low l) l rest h)

same-script : (low : Bool) (rest : List ℕ) (w : ℕ) (l : List ℕ) → length l < w → (before : Option ℕ) (n : ℕ) → (script_of (records_of low l 0) before n).refusal ≡ 0
    → handed_in (script_of (records_of low l 0) before n).calls ≡ n → script_of (records_of low (l ++ rest) 0) before n ≡ script_of (records_of low l 0) before n
unfolding script_of handed_in
same-script low rest zero l y before n e d = absurd (omega arith)
same-script low rest (suc w) l y before zero e d = refl
same-script low rest (suc w) l y before (suc n) e d = go (leb (record_header + captured low l) (length l)) refl (λ x z b m. same-script low rest w x z b m)
  where
    more : Records
    more = records_of low (drop (record_header + captured low l) l) 0

    longer : Records
    longer = records_of low (drop (record_header + captured low l) l ++ rest) 0

    c : Captured
    c = front_of low l

    by-skip : (B : Bool)
        → ((script_of more (Some c.stamp) (suc n)).refusal ≡ 0 → handed_in (script_of more (Some c.stamp) (suc n)).calls ≡ suc n → script_of longer (Some c.stamp) (suc n) ≡ script_of more (Some c.stamp) (suc n))
        → ((script_of more (Some c.stamp) n).refusal ≡ 0 → handed_in (script_of more (Some c.stamp) n).calls ≡ n → script_of longer (Some c.stamp) n ≡ script_of more (Some c.stamp) n)
        → (let x = call (pass (gap before c.stamp)) (pick B (script_of more (Some c.stamp) (suc n)) (call (frame c.octets) (script_of more (Some c.stamp) n))) in
        x.refusal ≡ 0 → handed_in x.calls ≡ suc n
        → call (pass (gap before c.stamp)) (pick B (script_of longer (Some c.stamp) (suc n)) (call (frame c.octets) (script_of longer (Some c.stamp) n))) ≡ x)
    by-skip true p q = λ a b. ap (call (pass (gap before c.stamp))) (p a b)
    by-skip false p q = λ a b. ap (λ (z : Script). call (pass (gap before c.stamp)) (call (frame c.octets) z)) (q a (omega (arith, b)))

    go : (b : Bool) → leb (record_header + captured low l) (length l) ≡ b
        → ((x : List ℕ) → length x < w → (b : Option ℕ) (m : ℕ) → (script_of (records_of low x 0) b m).refusal ≡ 0 → handed_in (script_of (records_of low x 0) b m).calls ≡ m
        → script_of (records_of low (x ++ rest) 0) b m ≡ script_of (records_of low x 0) b m)
        → script_of (records_of low (l ++ rest) 0) before (suc n) ≡ script_of (records_of low l 0) before (suc n)
    go true g ih =
        let h = leb-true (record_header + captured low l) (length l) g in
        let f = records-first low l h in
        let i = ih (drop (record_header + captured low l) l) (omega (arith, length-drop (record_header + captured low l) l)) (Some c.stamp) in
        ap (λ (x : Records). script_of x before (suc n)) (first-same low l rest h)
        ∙ by-skip (is_skipped c) (i (suc n)) (i n) (sym (ap (λ (x : Records). (script_of x before (suc n)).refusal) f) ∙ e) (sym (ap (λ (x : Records). handed_in (script_of x before (suc n)).calls) f) ∙ d)
        ∙ sym (ap (λ (x : Records). script_of x before (suc n)) f)
    go false g ih = absurd (none l (leb-false (record_header + captured low l) (length l) g) e d)
      where
        none : (l : List ℕ) → length l < record_header + captured low l → (script_of (records_of low l 0) before (suc n)).refusal ≡ 0 → handed_in (script_of (records_of low l 0) before (suc n)).calls ≡ suc n → ⊥
        none [] h e d = let z = sym (ap (λ (x : Records). handed_in (script_of x before (suc n)).calls) (records-none low [] refl)) ∙ d in omega (arith, z)
        none (x ∷ l) h e d = let z = sym (ap (λ (y : Records). (script_of y before (suc n)).refusal) (records-torn low (x ∷ l) (omega arith) h)) ∙ e in omega (arith, z)

-- "nothing behind the last frame (at 0, behind the file header) is looked at", over the definitions alone
pub limit-reached : (s : State) (port limit : ℕ) (front rest : List ℕ) → (script_for s port limit front).refusal ≡ 0 → handed_in (script_for s port limit front).calls ≡ limit
    → script_for s port limit (front ++ rest) ≡ script_for s port limit front
unfolding script_for script_of_file script_in
limit-reached s port limit front rest = go (fit s) (ltb port ports) (ltb (length front) file_header) refl
  where
    in-layout : (y : Layout) → file_header ≤ length front → (script_in y front limit).refusal ≡ 0 → handed_in (script_in y front limit).calls ≡ limit → script_in y (front ++ rest) limit ≡ script_in y front limit
    in-layout HighFirst h e d = ap (λ (x : List ℕ). script_of (records_of false x 0) None limit) (drop-append-le file_header front rest h) ∙ same-script false rest (suc (length (drop file_header front))) (drop file_header front) (omega arith) None limit e d
    in-layout LowFirst h e d = ap (λ (x : List ℕ). script_of (records_of true x 0) None limit) (drop-append-le file_header front rest h) ∙ same-script true rest (suc (length (drop file_header front))) (drop file_header front) (omega arith) None limit e d
    in-layout Foreign h e d = refl

    go : (a b c : Bool) → ltb (length front) file_header ≡ c → (let x = pick a (pick b (pick c (refusing 11) (script_in (layout_of front) front limit)) (refusing 2)) (refusing 1) in
        x.refusal ≡ 0 → handed_in x.calls ≡ limit
        → pick a (pick b (pick (ltb (length (front ++ rest)) file_header) (refusing 11) (script_in (layout_of (front ++ rest)) (front ++ rest) limit)) (refusing 2)) (refusing 1) ≡ x)
    go true true true k e d = absurd (omega (arith, e))
    go true true false k e d =
        let h = ltb-false (length front) file_header k in
        rw (le-ltb (length (front ++ rest)) file_header (omega (arith, h, length-append front rest)))
        (ap (λ (y : Layout). script_in y (front ++ rest) limit) (layout-front (front ++ rest) front (take-append-le file_header front rest h)) ∙ in-layout (layout_of front) h e d)
    go true false c k e d = absurd (omega (arith, e))
    go false b c k e d = absurd (omega (arith, e))
