-- Laws of the pass over all places: one turn, a place that is not fit, and the end.
-- They are what the loop that gathers the marks cites.
use Prim.Native.Nat.{ℕ, ◌+◌, ◌<◌}
use mathlib.Core.Path.{◌≡◌, sym, ap, ◌∙◌}
use mathlib.Core.Logic.{⊎_elim}
use mathlib.Core.Bool.{true}
use mathlib.Core.List.{List}
use native.Mathlib.Nat.{eq-or-lt_of_le}
use native.Mathlib.Omega.{arith}
use lib.ListN.{length, get_or, set, replicate, length-set, length-replicate}
use lib.Seq.{get_or-set_same, get_or-set_other}
use Rattle.tally.specs.Ranges.{all_below}
use Rattle.tally.proofs.RangesLaws.{all_none, all_more, all-stop}
use Rattle.numbers.specs.Sizes.{places}
use Rattle.place.specs.State.{State, at}
use Rattle.marks.specs.PlaceFit.{ok_place}
use Rattle.marks.specs.Marks.{mark_at, check_place, Checks}
use Rattle.std.specs.Prelude.{Some, None}
use Rattle.marks.proofs.CheckLaws.{marked, unmarked}

-- the places below i are fit and have their marks
pub record Below (s : State) (marks : List ℕ) (i : ℕ) : Type 0 where
  pub long : length marks ≡ places
  pub fit : all_below (λ k. ok_place (at s k)) i ≡ true
  pub right : (k : ℕ) → k < i → get_or marks k 0 ≡ mark_at (at s k)

module _ (s : State) where
  pub below_none : Below s (replicate places 0) 0
  below_none = record { long = length-replicate {A = ℕ} places 0; fit = all_none _; right = λ k l. absurd (omega arith) }

  module _ (marks : List ℕ) (i : ℕ) (h : i < places) where
    pub below_more : (m : ℕ) → Below s marks i → Some m ≡ check_place (at s i) → Below s (set marks i m) (i + 1)
    unfolding check_place
    below_more m b e =
        let w = marked (ok_place (at s i)) m (mark_at (at s i)) e in
        record {
          long = length-set marks i m ∙ b.long;
          fit = all_more (λ k. ok_place (at s k)) i b.fit w.0;
          right =
              λ k l.
              ⊎_elim
              (λ (q : k ≡ i). rw q (get_or-set_same marks i m 0 (omega (arith, b.long)) ∙ w.1))
              (λ (q : k < i). get_or-set_other marks i k m 0 (λ z. omega arith) ∙ b.right k q)
              (eq-or-lt_of_le (omega arith));
        }

  pub below-stop : (i : ℕ) → i < places → None ≡ check_place (at s i) → Checks s None
  unfolding check_place
  below-stop i h e =
      all-stop (λ k. ok_place (at s k)) i places h (unmarked (ok_place (at s i)) (mark_at (at s i)) e)

  pub below_end : (marks : List ℕ) (i : ℕ) → i ≡ places → Below s marks i → Checks s (Some marks)
  below_end marks i e b =
      (ap (all_below (λ k. ok_place (at s k))) (sym e) ∙ b.fit, record { long = b.long; right = λ k l. b.right k (omega arith) })
