-- The model's changes by place number: a new record is written at the lowest free place, a known one at its own.
-- They are what a table cites that finds a place by a loop.
use Prim.Native.Nat.{ℕ, zero, suc, ◌<◌}
use mathlib.Core.Path.{◌≡◌, refl, sym, ap, ◌∙◌}
use mathlib.Core.List.{[], ◌∷◌}
use mathlib.Core.Bool.{true, false}
use mathlib.Core.Option.{Option, none, some, none-ne-some}
use native.Mathlib.Nat.{le_of_suc-le-suc}
use native.Mathlib.Omega.{arith}
use lib.ListN.{length, get_or, set}
use Rattle.rules.specs.Identity.{Ident, same}
use Rattle.rules.specs.Model.{Rec, Places, is_some, lookup, enter, each_record, swap}
use Rattle.rules.specs.Fit.{InPlace, InAll, Absent, Once}
use Rattle.rules.proofs.IdentityLaws.{same_self, differ-sym, clash}
use Rattle.rules.proofs.EachLaws.{swap-absent}

-- what holds of an identity in a place holds of the one that is there
pub in_some : (P : Ident → Type 0) (x : Option Rec) (y : Rec) → InPlace P x → x ≡ some y → P y.who
in_some P x y h e = rw e at h

pub in-at : (P : Ident → Type 0) (t : Places) (i : ℕ) (y : Rec) → InAll P t → get_or t i none ≡ some y → P y.who
in-at P [] i y a e = absurd (none-ne-some y e)
in-at P (x ∷ t) zero y a e = in_some P x y a.0 e
in-at P (x ∷ t) (suc i) y a e = in-at P t i y a.1 e

-- the lowest free place i
pub enter-set : (r : Rec) (t : Places) (i : ℕ) → i < length t → get_or t i none ≡ none → ((j : ℕ) → j < i → is_some (get_or t j none) ≡ true)
    → enter r t ≡ set t i (some r)
enter-set r [] i l e a = refl
enter-set r (none ∷ t) zero l e a = refl
enter-set r (none ∷ t) (suc i) l e a = absurd (clash false (a 0 (omega arith)) refl)
enter-set r (some x ∷ t) zero l e a = absurd (none-ne-some x (sym e))
enter-set r (some x ∷ t) (suc i) l e a = ap (λ (u : Places). some x ∷ u) (enter-set r t i (le_of_suc-le-suc l) e (λ j k. a (suc j) (omega arith)))

-- the place i of the record y
module _ (y : Rec) where
  -- a record before it has another identity
  apart : (r : Rec) (t : Places) (i : ℕ) → Absent r.who t → get_or t i none ≡ some y → same y.who r.who ≡ false
  apart r t i a e = differ-sym r.who y.who (in-at (λ v. same r.who v ≡ false) t i y a e)

  -- a refresh and a goodbye change this place alone
  pub swap-set : (x : Option Rec) (t : Places) (i : ℕ) → Once t → get_or t i none ≡ some y → each_record (swap y.who x) t ≡ set t i x
  unfolding swap
  swap-set x [] i u e = refl
  swap-set x (none ∷ t) zero u e = absurd (none-ne-some y e)
  swap-set x (none ∷ t) (suc i) u e = ap (λ (v : Places). none ∷ v) (swap-set x t i u.1 e)
  swap-set x (some r ∷ t) zero u e =
      let k : y.who ≡ r.who = in_some (λ v. v ≡ r.who) (some r) y refl e in
      let s : same y.who r.who ≡ true = ap (λ (v : Ident). same v r.who) k ∙ same_self r.who in
      let a : each_record (swap y.who x) t ≡ t = ap (λ (v : Ident). each_record (swap v x) t) k ∙ swap-absent r.who x t u.0 in
      rw s (ap (λ (v : Places). x ∷ v) a)
  swap-set x (some r ∷ t) (suc i) u e = rw (apart r t i u.0 e) (ap (λ (v : Places). some r ∷ v) (swap-set x t i u.1 e))

  -- what is at a place is what is found
  pub lookup-at : (t : Places) (i : ℕ) → Once t → get_or t i none ≡ some y → lookup y.who t ≡ some y
  lookup-at [] i u e = e
  lookup-at (none ∷ t) zero u e = absurd (none-ne-some y e)
  lookup-at (none ∷ t) (suc i) u e = lookup-at t i u.1 e
  lookup-at (some r ∷ t) zero u e =
      let d : same y.who r.who ≡ true = in_some (λ v. same v r.who ≡ true) (some r) y (same_self r.who) e in
      rw d e
  lookup-at (some r ∷ t) (suc i) u e = rw (apart r t i u.0 e) (lookup-at t i u.1 e)
