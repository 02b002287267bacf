-- What changing each record by itself (`each_record`), or one record more (`enter`), does to who is found and to what is counted.
-- A change must keep the identity of what it leaves (`Keeps`); a new record needs a free place (`Free`).
use Prim.Native.Nat.{ℕ, suc, ◌+◌, ◌≤◌}
use mathlib.Core.Path.{◌≡◌, refl, sym, ap, ◌∙◌}
use mathlib.Core.List.{[], ◌∷◌}
use mathlib.Core.Bool.{Bool, true, false}
use mathlib.Core.Option.{Option, none, some}
use native.Mathlib.Omega.{arith}
use lib.ListN.{length}
use Rattle.tally.specs.Tests.{pick}
use Rattle.tally.specs.Counts.{one}
use Rattle.rules.specs.Identity.{Ident, same}
use Rattle.rules.specs.Model.{Rec, Places, lookup, hits, tally, enter, on_record, each_record, swap}
use Rattle.rules.specs.Fit.{InPlace, InAll, Absent, Once}
use Rattle.rules.proofs.IdentityLaws.{same_true, same-cast, differ-sym, clash}

-- what is there has the identity w
abbrev pub Of : Ident → Option Rec → Type 0
Of w x = InPlace (λ v. v ≡ w) x

-- what a change leaves of a record has its identity
abbrev pub Keeps : (Rec → Option Rec) → Type 0
Keeps f = (r : Rec) → Of r.who (f r)

-- Who is found

pub absent-lookup : (w : Ident) (t : Places) → Absent w t → lookup w t ≡ none
absent-lookup w [] a = refl
absent-lookup w (none ∷ t) a = absent-lookup w t a.1
absent-lookup w (some r ∷ t) a = rw a.0 (absent-lookup w t a.1)

pub lookup_absent : (w : Ident) (t : Places) → lookup w t ≡ none → Absent w t
lookup_absent w [] e = tt
lookup_absent w (none ∷ t) e = (tt, lookup_absent w t e)
lookup_absent w (some r ∷ t) e = go (same w r.who) refl (lookup_absent w t) e
  where
    go : (b : Bool) → same w r.who ≡ b → (lookup w t ≡ none → Absent w t) → pick b (some r) (lookup w t) ≡ none → Absent w (some r ∷ t)
    go true d ih z = absurd (let y : ◌≡◌ {A = ℕ} 0 1 = cc in omega arith)
    go false d ih z = (d, ih z)

-- what is found has the identity looked for
pub lookup-of : (w : Ident) (t : Places) → Of w (lookup w t)
lookup-of w [] = tt
lookup-of w (none ∷ t) = lookup-of w t
lookup-of w (some r ∷ t) = go (same w r.who) refl (lookup-of w t)
  where
    go : (b : Bool) → same w r.who ≡ b → Of w (lookup w t) → Of w (pick b (some r) (lookup w t))
    go true e h = sym (same_true w r.who e)
    go false e h = h

-- Each record by itself

of-place : (P : Ident → Type 0) (w : Ident) (x : Option Rec) → Of w x → P w → InPlace P x
of-place P w none o h = tt
of-place P w (some r) o h = rw o h

module _ (f : Rec → Option Rec) (k : Keeps f) where
  pub in-each : (P : Ident → Type 0) (t : Places) → InAll P t → InAll P (each_record f t)
  in-each P [] a = tt
  in-each P (none ∷ t) a = (tt, in-each P t a.1)
  in-each P (some r ∷ t) a = (of-place P r.who (f r) (k r) a.0, in-each P t a.1)

  absent-each : (w : Ident) (t : Places) → Absent w t → Absent w (each_record f t)
  absent-each w t a = in-each (λ v. same w v ≡ false) t a

  pub once-each : (t : Places) → Once t → Once (each_record f t)
  once-each [] u = tt
  once-each (none ∷ t) u = (tt, once-each t u.1)
  once-each (some r ∷ t) u =
      (of-place (λ v. Absent v (each_record f t)) r.who (f r) (k r) (absent-each r.who t u.0), once-each t u.1)

  pub lookup-each : (w : Ident) (t : Places) → Once t → lookup w (each_record f t) ≡ on_record f (lookup w t)
  lookup-each w [] u = refl
  lookup-each w (none ∷ t) u = lookup-each w t u.1
  lookup-each w (some r ∷ t) u = go (same w r.who) refl (f r) refl (k r) (lookup-each w t u.1)
    where
      go : (b : Bool) → same w r.who ≡ b → (x : Option Rec) → f r ≡ x → Of r.who x → lookup w (each_record f t) ≡ on_record f (lookup w t)
          → lookup w (x ∷ each_record f t) ≡ on_record f (pick b (some r) (lookup w t))
      go true d none z o ih = absent-lookup w (each_record f t) (rw (same_true w r.who d) (absent-each r.who t u.0)) ∙ sym z
      go true d (some x) z o ih = rw (same-cast x.who r.who w o, d) (sym z)
      go false d none z o ih = ih
      go false d (some x) z o ih = rw (same-cast x.who r.who w o, d) ih

  pub length-each : (t : Places) → length (each_record f t) ≡ length t
  length-each [] = refl
  length-each (x ∷ t) = ap suc (length-each t)

  hits-on : (g : Ident → Bool) (x : Option Rec) → hits g (on_record f x) ≤ hits g x
  hits-on g none = omega arith
  hits-on g (some r) = go (f r) (k r)
    where
      go : (x : Option Rec) → Of r.who x → hits g x ≤ one (g r.who)
      go none o = omega arith
      go (some x) o = rw o (omega arith)

  pub tally-each : (g : Ident → Bool) (t : Places) → tally g (each_record f t) ≤ tally g t
  tally-each g [] = omega arith
  tally-each g (x ∷ t) = omega (arith, hits-on g x, tally-each g t)

-- a change of nobody changes nothing
pub swap-absent : (w : Ident) (x : Option Rec) (t : Places) → Absent w t → each_record (swap w x) t ≡ t
unfolding swap
swap-absent w x [] a = refl
swap-absent w x (none ∷ t) a = ap (λ (u : Places). none ∷ u) (swap-absent w x t a.1)
swap-absent w x (some r ∷ t) a = rw a.0 (ap (λ (u : Places). some r ∷ u) (swap-absent w x t a.1))

-- One record more

-- there is a free place
abbrev pub Free : Places → Type 0
Free [] = ⊥
Free (none ∷ t) = Unit {0}
Free (some r ∷ t) = Free t

module _ (r : Rec) where
  pub length-enter : (t : Places) → length (enter r t) ≡ length t
  length-enter [] = refl
  length-enter (none ∷ t) = refl
  length-enter (some x ∷ t) = ap suc (length-enter t)

  pub tally-enter : (g : Ident → Bool) (t : Places) → Free t → tally g (enter r t) ≡ one (g r.who) + tally g t
  tally-enter g [] f = absurd f
  tally-enter g (none ∷ t) f = omega arith
  tally-enter g (some x ∷ t) f = omega (arith, tally-enter g t f)

  pub lookup-enter : (w : Ident) (t : Places) → Free t → Absent r.who t → lookup w (enter r t) ≡ pick (same w r.who) (some r) (lookup w t)
  lookup-enter w [] f a = absurd f
  lookup-enter w (none ∷ t) f a = refl
  lookup-enter w (some x ∷ t) f a = go (same w x.who) refl (same w r.who) refl (lookup-enter w t f a.1)
    where
      go : (b : Bool) → same w x.who ≡ b → (c : Bool) → same w r.who ≡ c → lookup w (enter r t) ≡ pick (same w r.who) (some r) (lookup w t)
          → pick b (some x) (lookup w (enter r t)) ≡ pick c (some r) (pick b (some x) (lookup w t))
      go true d true e ih = absurd (clash (same r.who x.who) (rw (same_true w r.who e) at d) a.0)
      go true d false e ih = refl
      go false d true e ih = rw e at ih
      go false d false e ih = rw e at ih

  pub in-enter : (P : Ident → Type 0) → P r.who → (t : Places) → InAll P t → InAll P (enter r t)
  in-enter P h [] a = tt
  in-enter P h (none ∷ t) a = (h, a.1)
  in-enter P h (some x ∷ t) a = (a.0, in-enter P h t a.1)

  pub once-enter : (t : Places) → Absent r.who t → Once t → Once (enter r t)
  once-enter [] a u = tt
  once-enter (none ∷ t) a u = (a.1, u.1)
  once-enter (some x ∷ t) a u =
      (in-enter (λ v. same x.who v ≡ false) (differ-sym r.who x.who a.0) t u.0, once-enter t a.1 u.1)
