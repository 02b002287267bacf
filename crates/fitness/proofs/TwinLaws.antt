-- Laws of no identity twice (N5 d): behind a mark, and over the places below one.
-- One identity has one mark, so places with other marks have other identities.
use Prim.Native.Nat.{ℕ, ◌+◌, ◌<◌}
use mathlib.Core.Path.{◌≡◌, refl, sym, ap, ◌∙◌}
use mathlib.Core.Logic.{◌≢◌}
use mathlib.Core.Bool.{Bool, true, false, not}
use mathlib.Core.List.{List}
use native.Mathlib.Omega.{arith}
use borrow.Author.Tests.{eq-eqb, ne_eqb, eqb-false, leb-true}
use lib.Dec.{leb, eqb}
use lib.ListN.{get_or}
use Rattle.tally.specs.Tests.{pick}
use Rattle.tally.proofs.TestsLaws.{both_true}
use Rattle.tally.specs.Ranges.{all_below}
use Rattle.tally.specs.Counts.{count}
use Rattle.tally.proofs.RangesLaws.{all-each, all_more, all-stop}
use Rattle.rules.specs.Identity.{same}
use Rattle.rules.proofs.IdentityLaws.{same_true}
use Rattle.numbers.specs.Sizes.{places}
use Rattle.place.specs.State.{State, at, used, who_at, is_of}
use Rattle.fitness.specs.Fit.{single}
use Rattle.marks.specs.Marks.{identity_mark, mark_at, alike, apart, Marked}
use Rattle.fitness.proofs.ReachLaws.{count-passed}

-- behind the marks
module _ (s : State) (marks : List ℕ) (h : Marked s marks) (i j : ℕ) (a : i < places) (b : j < places) (u : (at s i).len ≢ 0) where
  pub mark-differs : get_or marks j 0 ≢ get_or marks i 0 → is_of s (who_at (at s i)) j ≡ false
  unfolding is_of
  mark-differs d = go (is_of s (who_at (at s i)) j) refl
    where
      one-mark : (used (at s j) ≡ true) × (same (who_at (at s j)) (who_at (at s i)) ≡ true) → get_or marks j 0 ≡ get_or marks i 0
      one-mark r =
          let w = same_true (who_at (at s j)) (who_at (at s i)) r.1 in
          let x : mark_at (at s j) ≡ identity_mark (who_at (at s j)) = rw r.0 in
          let y : mark_at (at s i) ≡ identity_mark (who_at (at s i)) = rw (ne_eqb (at s i).len 0 u) in
          h.right j b ∙ x ∙ ap identity_mark w ∙ sym (h.right i a ∙ y)

      go : (t : Bool) → is_of s (who_at (at s i)) j ≡ t → is_of s (who_at (at s i)) j ≡ false
      go true e = absurd (d (one-mark (both_true (used (at s j)) (same (who_at (at s j)) (who_at (at s i))) e)))
      go false e = e

-- the loop over the places below i: it ends at a hit, or has met none; a free place is not asked
module _ (hit : ℕ → Bool) (i n : ℕ) where
  abbrev pub Clear : ℕ → Type 0
  Clear j = all_below (λ k. not (hit k)) j ≡ true

  abbrev test : Bool
  test = pick (eqb n 0) true (all_below (λ k. not (hit k)) i)

  module _ (u : n ≢ 0) where
    pub clear-hit : (j : ℕ) → j < i → hit j ≡ true → false ≡ test
    clear-hit j l e = sym (rw (ne_eqb n 0 u, all-stop (λ k. not (hit k)) j i l (ap not e)))

    pub clear-end : (j : ℕ) → j ≡ i → Clear j → true ≡ test
    clear-end j e h = sym (rw (ne_eqb n 0 u) (ap (all_below (λ k. not (hit k))) (sym e) ∙ h))

  pub clear-more : (j : ℕ) → Clear j → hit j ≡ false → Clear (j + 1)
  clear-more j h e = all_more (λ k. not (hit k)) j h (ap not e)

-- a place whose mark is its own has an identity of its own: of two that are alike both are counted
pub apart-single : (s : State) (marks : List ℕ) → Marked s marks → (i : ℕ) → i < places → apart marks i (at s i).len ≡ true → single s i ≡ true
unfolding apart single
apart-single s marks h i a e = go (eqb (at s i).len 0) refl e
  where
    twin : ℕ → Bool
    twin = is_of s (who_at (at s i))

    other : (j : ℕ) → j < i → leb (count (alike marks i) places) 1 ≡ true → get_or marks j 0 ≢ get_or marks i 0
    other j l q d =
        let hit = eq-eqb (get_or marks j 0) (get_or marks i 0) d in
        let own = eq-eqb (get_or marks i 0) (get_or marks i 0) refl in
        omega (arith, leb-true (count (alike marks i) places) 1 q, count-passed (alike marks i) j i l hit, count-passed (alike marks i) i places a own)

    go : (b : Bool) → eqb (at s i).len 0 ≡ b → pick b true (leb (count (alike marks i) places) 1) ≡ true → pick b true (all_below (λ j. not (twin j)) i) ≡ true
    go true d q = refl
    go false d q =
        all-each (λ j. not (twin j)) i
        (λ j l. ap not (mark-differs s marks h i j a (omega arith) (eqb-false (at s i).len 0 d) (other j l q)))
