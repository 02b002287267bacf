-- The same records (Records.antt), identity by identity: both have the same ones of each identity, and none or one of it.
-- A list of places in which no identity occurs twice has of an identity the record that is found, and no other.
use Prim.Native.Nat.{ℕ, ◌≤◌}
use mathlib.Core.Path.{◌≡◌, refl, sym, ap, ◌∙◌}
use mathlib.Core.Logic.{◌⊎◌, inl, inr, ⊎_elim}
use mathlib.Core.Bool.{Bool, true, false}
use mathlib.Core.List.{[], ◌∷◌}
use mathlib.Core.Option.{Option, none, some}
use native.Mathlib.Omega.{arith}
use lib.ListN.{length}
use Rattle.tally.specs.Tests.{pick}
use Rattle.rules.specs.Identity.{Ident, same}
use Rattle.rules.specs.Model.{Rec, Places, lookup}
use Rattle.rules.specs.Fit.{Absent, Once}
use Rattle.rules.specs.Records.{Records, records_in, records_of, NoneTwice, Among, SameRecords}
use Rattle.rules.proofs.IdentityLaws.{same_true, same_self}

-- Those of one identity

-- one of its identity
among_of : (w : Ident) (r : Rec) (x : Records) → same w r.who ≡ true → Among r x → Among r (records_of w x)
among_of w r [] s m = m
among_of w r (q ∷ x) s m = go (same w q.who) refl m (among_of w r x s)
  where
    go : (b : Bool) → same w q.who ≡ b → (r ≡ q) ⊎ Among r x → (Among r x → Among r (records_of w x)) → Among r (pick b (q ∷ records_of w x) (records_of w x))
    go true e (inl d) ih = inl d
    go true e (inr d) ih = inr (ih d)
    go false e (inl d) ih = absurd (let z : ◌≡◌ {A = ℕ} 0 1 = cc in omega arith)
    go false e (inr d) ih = ih d

-- each of these is one of all, and of its identity
of-among : (w : Ident) (r : Rec) (x : Records) → Among r (records_of w x) → Among r x × (same w r.who ≡ true)
of-among w r [] m = absurd m
of-among w r (q ∷ x) m = go (same w q.who) refl m (of-among w r x)
  where
    go : (b : Bool) → same w q.who ≡ b → Among r (pick b (q ∷ records_of w x) (records_of w x)) → (Among r (records_of w x) → Among r x × (same w r.who ≡ true))
        → ((r ≡ q) ⊎ Among r x) × (same w r.who ≡ true)
    go true e (inl d) ih = (inl d, ap (λ (z : Rec). same w z.who) d ∙ e)
    go true e (inr d) ih = (inr (ih d).0, (ih d).1)
    go false e d ih = (inr (ih d).0, (ih d).1)

-- none or one: the same members are the same list
singles : (x y : Records) → length x ≤ 1 → length y ≤ 1 → ((r : Rec) → Among r x → Among r y) → ((r : Rec) → Among r y → Among r x) → x ≡ y
singles [] [] k l f g = refl
singles [] (q ∷ y) k l f g = absurd (g q (inl refl))
singles (p ∷ x) [] k l f g = absurd (f p (inl refl))
singles (p ∷ []) (q ∷ []) k l f g = ⊎_elim (λ (e : p ≡ q). ap (λ (z : Rec). z ∷ []) e) (λ z. absurd z) (f p (inl refl))
singles (p ∷ []) (q ∷ o ∷ y) k l f g = absurd (omega arith)
singles (p ∷ o ∷ x) (q ∷ y) k l f g = absurd (omega arith)

-- Two sets

pub same_by : (x y : Records) → ((w : Ident) → records_of w x ≡ records_of w y) → NoneTwice y → SameRecords x y
same_by x y e o =
    record {
      once = λ w. rw (e w) (o w);
      once_too = o;
      same_ones = λ r. (across r x y (e r.who), across r y x (sym (e r.who)));
    }
  where
    across : (r : Rec) (p q : Records) → records_of r.who p ≡ records_of r.who q → Among r p → Among r q
    across r p q d m =
        let h : Among r (records_of r.who p) = among_of r.who r p (same_self r.who) m in
        let k : Among r (records_of r.who q) = rw d at h in
        (of-among r.who r q k).0

pub same_of : (x y : Records) → SameRecords x y → (w : Ident) → records_of w x ≡ records_of w y
same_of x y s w = singles (records_of w x) (records_of w y) (s.once w) (s.once_too w) (λ r. across x y r (s.same_ones r).0) (λ r. across y x r (s.same_ones r).1)
  where
    across : (p q : Records) (r : Rec) → (Among r p → Among r q) → Among r (records_of w p) → Among r (records_of w q)
    across p q r f m = let h = of-among w r p m in among_of w r q h.1 (f h.0)

pub same_then : (x y z : Records) → SameRecords x y → SameRecords y z → SameRecords x z
same_then x y z s t =
    record {
      once = s.once;
      once_too = t.once_too;
      same_ones = λ r. (λ m. (t.same_ones r).0 ((s.same_ones r).0 m), λ m. (s.same_ones r).1 ((t.same_ones r).1 m));
    }

-- A list of places

-- what is found, as a set
abbrev pub found : Option Rec → Records
found none = []
found (some r) = r ∷ []

found-few : (x : Option Rec) → length (found x) ≤ 1
found-few none = omega arith
found-few (some r) = omega arith

absent_none : (w : Ident) (t : Places) → Absent w t → records_of w (records_in t) ≡ []
absent_none w [] a = refl
absent_none w (none ∷ t) a = absent_none w t a.1
absent_none w (some r ∷ t) a = rw a.0 (absent_none w t a.1)

pub records-found : (w : Ident) (t : Places) → Once t → records_of w (records_in t) ≡ found (lookup w t)
records-found w [] o = refl
records-found w (none ∷ t) o = records-found w t o.1
records-found w (some r ∷ t) o = go (same w r.who) refl (records-found w t o.1)
  where
    go : (b : Bool) → same w r.who ≡ b → records_of w (records_in t) ≡ found (lookup w t)
        → pick b (r ∷ records_of w (records_in t)) (records_of w (records_in t)) ≡ found (pick b (some r) (lookup w t))
    go true e ih = ap (λ (x : Records). r ∷ x) (absent_none w t (rw (same_true w r.who e) o.0))
    go false e ih = ih

pub once-records : (t : Places) → Once t → NoneTwice (records_in t)
once-records t o w = rw (records-found w t o) (found-few (lookup w t))

pub same-itself : (t : Places) → Once t → SameRecords (records_in t) (records_in t)
same-itself t o = same_by (records_in t) (records_in t) (λ w. refl) (once-records t o)

-- Two lists of places: the same records are the same finds

found-one : (x y : Option Rec) → found x ≡ found y → x ≡ y
found-one none none e = refl
found-one none (some q) e = absurd (let z : ◌≡◌ {A = ℕ} 0 1 = ap length e in omega arith)
found-one (some r) none e = absurd (let z : ◌≡◌ {A = ℕ} 1 0 = ap length e in omega arith)
found-one (some r) (some q) e = ap (λ (l : Records). first l) e
  where
    first : Records → Option Rec
    first [] = none
    first (x ∷ l) = some x

module _ (t u : Places) (o : Once t) (o' : Once u) where
  pub records-lookup : SameRecords (records_in t) (records_in u) → (w : Ident) → lookup w t ≡ lookup w u
  records-lookup s w =
      found-one (lookup w t) (lookup w u) (sym (records-found w t o) ∙ same_of (records_in t) (records_in u) s w ∙ records-found w u o')

  pub lookup-records : ((w : Ident) → lookup w t ≡ lookup w u) → SameRecords (records_in t) (records_in u)
  lookup-records e =
      same_by (records_in t) (records_in u) (λ w. records-found w t o ∙ ap found (e w) ∙ sym (records-found w u o')) (once-records u o')
