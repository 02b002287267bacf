-- Laws of the number that a word says: one octet more, and the word octet by octet.
-- A number that is too large stays so, whatever digits follow.
use Prim.Native.Nat.{ℕ, ◌+◌, ◌*◌, ◌-◌, ◌≤◌, min}
use mathlib.Core.Path.{◌≡◌, refl, sym, ap, ◌∙◌}
use mathlib.Core.List.{List, [], ◌∷◌, map}
use mathlib.Core.Logic.{◌≢◌}
use mathlib.Core.Bool.{Bool, true, false}
use native.Mathlib.Nat.{min-eq_left, min-eq_right, min-le_right}
use native.Mathlib.Omega.{arith}
use borrow.Author.Tests.{leb-false, leb-true}
use lib.Dec.{leb}
use lib.ListN.{length}
use Rattle.std.specs.List.{fold}
use Rattle.tally.specs.Tests.{pick, all}
use Rattle.arguments.specs.Number.{greatest, is_digit, value_from, said_from, number_in, with_digit}

-- digits behind a number do not make it smaller
value_grows : (v : ℕ) (l : List ℕ) → v ≤ value_from v l
unfolding value_from
value_grows v [] = omega arith
value_grows v (b ∷ l) = omega (arith, value_grows (v * 10 + (b - 48)) l)

large-stays : (v : ℕ) (l : List ℕ) → greatest ≤ v → min (value_from v l) greatest ≡ greatest
large-stays v l h = min-eq_right (omega (arith, value_grows v l, h))

-- it is the same whether a number is cut to the greatest before the last digits or behind them
cut-before : (v : ℕ) (l : List ℕ) → min (value_from (min v greatest) l) greatest ≡ min (value_from v l) greatest
cut-before v l = go (leb v greatest) refl
  where
    go : (b : Bool) → leb v greatest ≡ b → min (value_from (min v greatest) l) greatest ≡ min (value_from v l) greatest
    go true e = ap (λ (x : ℕ). min (value_from x l) greatest) (min-eq_left (leb-true v greatest e))
    go false e =
        let h : greatest ≤ v = omega (arith, leb-false v greatest e) in
        ap (λ (x : ℕ). min (value_from x l) greatest) (min-eq_right h) ∙ large-stays greatest l (omega arith) ∙ sym (large-stays v l h)

same-cut : (b : Bool) (v : ℕ) (l : List ℕ) → pick b (min (value_from (min v greatest) l) greatest) greatest ≡ pick b (min (value_from v l) greatest) greatest
same-cut true v l = cut-before v l
same-cut false v l = refl

stays : (b : Bool) (l : List ℕ) → pick b (min (value_from greatest l) greatest) greatest ≡ greatest
stays true l = large-stays greatest l (omega arith)
stays false l = refl

pub said-step : (n b : ℕ) (l : List ℕ) → said_from (with_digit n b) l ≡ said_from n (b ∷ l)
unfolding said_from with_digit value_from
said-step n b l = go (is_digit b)
  where
    go : (d : Bool) → pick (all (map is_digit l)) (min (value_from (pick (pick d true false) (min (n * 10 + (b - 48)) greatest) greatest) l) greatest) greatest
        ≡ pick (pick d (all (map is_digit l)) false) (min (value_from (n * 10 + (b - 48)) l) greatest) greatest
    go true = same-cut (all (map is_digit l)) (n * 10 + (b - 48)) l
    go false = stays (all (map is_digit l)) l

none-more : (n : ℕ) → n ≤ greatest → n ≡ said_from n []
unfolding said_from value_from
none-more n h = sym (min-eq_left h)

fits : (b : Bool) (v : ℕ) → pick b (min v greatest) greatest ≤ greatest
fits true v = min-le_right v greatest
fits false v = omega arith

pub said_fits : (n b : ℕ) → with_digit n b ≤ greatest
unfolding said_from with_digit
said_fits n b = fits (all (map is_digit (b ∷ []))) (value_from n (b ∷ []))

-- A word, octet by octet

said-fold : (n : ℕ) (l : List ℕ) → n ≤ greatest → fold with_digit n l ≡ said_from n l
said-fold n [] h = none-more n h
said-fold n (b ∷ l) h = said-fold (with_digit n b) l (said_fits n b) ∙ said-step n b l

pub word_said : (l : List ℕ) → length l ≢ 0 → fold with_digit 0 l ≡ number_in l
unfolding number_in
word_said [] h = absurd (h refl)
word_said (b ∷ l) h = said-fold 0 (b ∷ l) (omega arith)

pub none_said : (l : List ℕ) → length l ≡ 0 → greatest ≡ number_in l
unfolding number_in
none_said [] e = refl
none_said (b ∷ l) e = absurd (omega (arith, e))
