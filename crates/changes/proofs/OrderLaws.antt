-- Entries in the order of places: one turn of a loop that lists them, and what they say, place by place.
-- Of one identity a list says nothing where no place says anything of it, and what one place says where no other does.
use Prim.Native.Nat.{ℕ, zero, suc, ◌+◌, ◌<◌}
use mathlib.Core.Path.{◌≡◌, refl, sym, ap, ap₂, ◌∙◌}
use mathlib.Core.Logic.{◌≢◌, ⊎_elim}
use mathlib.Core.Bool.{Bool, true, false}
use mathlib.Core.List.{List, [], ◌∷◌, ◌++◌, append-nil, append_assoc}
use native.Mathlib.Nat.{eq-or-lt_of_le}
use native.Mathlib.Omega.{arith}
use lib.ListN.{length}
use Rattle.tally.specs.Tests.{pick}
use Rattle.rules.specs.Identity.{Ident, same}
use Rattle.rules.specs.Model.{Places}
use Rattle.changes.specs.Entries.{Entry, in_order, octets_of}
use Rattle.changes.specs.Changes.{Change, whom, resolve, resolved, changes_of}

-- Lists one behind the other

pub resolved-append : (a b : Places) (l m : List Entry) → resolved a b (l ++ m) ≡ resolved a b l ++ resolved a b m
resolved-append a b [] m = refl
resolved-append a b (e ∷ l) m =
    ap (λ (x : List Change). resolve a b e ++ x) (resolved-append a b l m)
    ∙ sym (append_assoc (resolve a b e) (resolved a b l) (resolved a b m))

pub of-append : (w : Ident) (l m : List Change) → changes_of w (l ++ m) ≡ changes_of w l ++ changes_of w m
of-append w [] m = refl
of-append w (c ∷ l) m = go (same w (whom c)) (of-append w l m)
  where
    go : (b : Bool) → changes_of w (l ++ m) ≡ changes_of w l ++ changes_of w m
        → pick b (c ∷ changes_of w (l ++ m)) (changes_of w (l ++ m)) ≡ pick b (c ∷ changes_of w l) (changes_of w l) ++ changes_of w m
    go true e = ap (λ (x : List Change). c ∷ x) e
    go false e = e

pub octets-append : (l m : List Entry) → octets_of (l ++ m) ≡ octets_of l ++ octets_of m
octets-append [] m = refl
octets-append (e ∷ l) m = ap (λ (x : List ℕ). e.kind ∷ e.place ∷ x) (octets-append l m)

pub octets-long : (l : List Entry) → length (octets_of l) ≡ length l + length l
octets-long [] = refl
octets-long (e ∷ l) = omega (arith, octets-long l)

-- Place by place

module _ (f : ℕ → List Entry) where
  pub order-none : in_order f 0 ≡ []
  unfolding in_order
  order-none = refl

  pub order-step : (n : ℕ) → in_order f (suc n) ≡ in_order f n ++ f n
  unfolding in_order
  order-step n = refl

  module _ (a b : Places) (w : Ident) where
    -- what place i says of w
    abbrev at : ℕ → List Change
    at i = changes_of w (resolved a b (f i))

    of-step : (n : ℕ) → changes_of w (resolved a b (in_order f (suc n))) ≡ changes_of w (resolved a b (in_order f n)) ++ at n
    of-step n =
        ap (λ (l : List Entry). changes_of w (resolved a b l)) (order-step n)
        ∙ ap (changes_of w) (resolved-append a b (in_order f n) (f n))
        ∙ of-append w (resolved a b (in_order f n)) (resolved a b (f n))

    pub silent : (n : ℕ) → ((i : ℕ) → i < n → at i ≡ []) → changes_of w (resolved a b (in_order f n)) ≡ []
    silent zero h = ap (λ (l : List Entry). changes_of w (resolved a b l)) order-none
    silent (suc n) h = of-step n ∙ ap₂ (λ (x y : List Change). x ++ y) (silent n (λ i l. h i (omega arith))) (h n (omega arith))

    pub by_one : (n i : ℕ) → i < n → ((j : ℕ) → j < n → j ≢ i → at j ≡ []) → changes_of w (resolved a b (in_order f n)) ≡ at i
    by_one zero i l h = absurd (omega arith)
    by_one (suc n) i l h = of-step n ∙ ⊎_elim here (λ k. below k (by_one n i k (λ j m. h j (omega arith)))) (eq-or-lt_of_le (omega arith))
      where
        here : i ≡ n → changes_of w (resolved a b (in_order f n)) ++ at n ≡ at i
        here e = rw (e, silent n (λ j k. h j (omega arith) (λ d. absurd (omega (arith, d, e, k)))))

        below : i < n → changes_of w (resolved a b (in_order f n)) ≡ at i → changes_of w (resolved a b (in_order f n)) ++ at n ≡ at i
        below k e = ap₂ (λ (x y : List Change). x ++ y) e (h n (omega arith) (λ d. absurd (omega (arith, d, k)))) ∙ append-nil (at i)
