-- What changes do to the records of one identity: only those that name it do anything.
-- So the records of an identity are known once the changes that name it are.
use mathlib.Core.Path.{◌≡◌, refl, sym, ap, ◌∙◌}
use mathlib.Core.Bool.{Bool, true, false}
use mathlib.Core.List.{List, [], ◌∷◌, map}
use Rattle.tally.specs.Tests.{pick}
use Rattle.rules.specs.Identity.{Ident, same}
use Rattle.rules.specs.Model.{Rec}
use Rattle.rules.specs.Records.{Records, records_of}
use Rattle.rules.proofs.IdentityLaws.{same_true, same_self}
use Rattle.changes.specs.Changes.{Change, leaves, lasts, joins, alters, whom, without, lasting, on_who, apply, applied, changes_of}

-- what a change makes of the records of the identity that it names
abbrev pub effect : Change → Records → Records
effect (leaves w) x = []
effect (lasts w s) x = map (lasting s) x
effect (joins r) x = r ∷ x
effect (alters r) x = map (λ q. r) x

abbrev pub effects : List Change → Records → Records
effects [] x = x
effects (c ∷ l) x = effects l (effect c x)

-- One change

-- another identity than v
other : (w v : Ident) (r : Rec) → same w v ≡ false → same v r.who ≡ true → same w r.who ≡ false
other w v r e d = rw (← same_true v r.who d) e

module _ (v : Ident) where
  gone : (x : Records) → records_of v (without v x) ≡ []
  gone [] = refl
  gone (r ∷ x) = go (same v r.who) refl (gone x)
    where
      go : (b : Bool) → same v r.who ≡ b → records_of v (without v x) ≡ [] → records_of v (pick b (without v x) (r ∷ without v x)) ≡ []
      go true e ih = ih
      go false e ih = rw e ih

  module _ (w : Ident) (n : same w v ≡ false) where
    stays-without : (x : Records) → records_of w (without v x) ≡ records_of w x
    stays-without [] = refl
    stays-without (r ∷ x) = go (same v r.who) refl (stays-without x)
      where
        go : (b : Bool) → same v r.who ≡ b → records_of w (without v x) ≡ records_of w x
            → records_of w (pick b (without v x) (r ∷ without v x)) ≡ records_of w (r ∷ x)
        go true e ih = rw (other w v r n e) ih
        go false e ih = ap (λ (y : Records). pick (same w r.who) (r ∷ y) y) ih

  module _ (f : Rec → Rec) (k : (r : Rec) → same v r.who ≡ true → (f r).who ≡ v) where
    mapped : (x : Records) → records_of v (map (on_who v f) x) ≡ map f (records_of v x)
    mapped [] = refl
    mapped (r ∷ x) = go (same v r.who) refl (mapped x)
      where
        go : (b : Bool) → same v r.who ≡ b → records_of v (map (on_who v f) x) ≡ map f (records_of v x)
            → records_of v (pick b (f r) r ∷ map (on_who v f) x) ≡ map f (pick b (r ∷ records_of v x) (records_of v x))
        go true e ih = rw (ap (same v) (k r e) ∙ same_self v) (ap (λ (y : Records). f r ∷ y) ih)
        go false e ih = rw e ih

    module _ (w : Ident) (n : same w v ≡ false) where
      stays-mapped : (x : Records) → records_of w (map (on_who v f) x) ≡ records_of w x
      stays-mapped [] = refl
      stays-mapped (r ∷ x) = go (same v r.who) refl (stays-mapped x)
        where
          go : (b : Bool) → same v r.who ≡ b → records_of w (map (on_who v f) x) ≡ records_of w x
              → records_of w (pick b (f r) r ∷ map (on_who v f) x) ≡ records_of w (r ∷ x)
          go true e ih = rw (k r e, n, other w v r n e) ih
          go false e ih = ap (λ (y : Records). pick (same w r.who) (r ∷ y) y) ih

-- by its kind: the identity that it names, or another
apply-of : (w : Ident) (c : Change) (x : Records) → records_of w (apply c x) ≡ pick (same w (whom c)) (effect c (records_of w x)) (records_of w x)
apply-of w (leaves v) x = go (same w v) refl
  where
    go : (b : Bool) → same w v ≡ b → records_of w (without v x) ≡ pick b [] (records_of w x)
    go true e = rw (same_true w v e) (gone v x)
    go false e = stays-without v w e x
apply-of w (lasts v s) x = go (same w v) refl
  where
    keeps : (r : Rec) → same v r.who ≡ true → (lasting s r).who ≡ v
    keeps r e = sym (same_true v r.who e)

    go : (b : Bool) → same w v ≡ b → records_of w (map (on_who v (lasting s)) x) ≡ pick b (map (lasting s) (records_of w x)) (records_of w x)
    go true e = rw (same_true w v e) (mapped v (lasting s) keeps x)
    go false e = stays-mapped v (lasting s) keeps w e x
apply-of w (joins r) x = refl
apply-of w (alters r) x = go (same w r.who) refl
  where
    go : (b : Bool) → same w r.who ≡ b → records_of w (map (on_who r.who (λ q. r)) x) ≡ pick b (map (λ q. r) (records_of w x)) (records_of w x)
    go true e = rw (same_true w r.who e) (mapped r.who (λ q. r) (λ q d. refl) x)
    go false e = stays-mapped r.who (λ q. r) (λ q d. refl) w e x

-- All of them

pub applied-of : (w : Ident) (l : List Change) (x : Records) → records_of w (applied x l) ≡ effects (changes_of w l) (records_of w x)
applied-of w [] x = refl
applied-of w (c ∷ l) x = applied-of w l (apply c x) ∙ go (same w (whom c)) (apply-of w c x)
  where
    go : (b : Bool) → records_of w (apply c x) ≡ pick b (effect c (records_of w x)) (records_of w x)
        → effects (changes_of w l) (records_of w (apply c x)) ≡ effects (pick b (c ∷ changes_of w l) (changes_of w l)) (records_of w x)
    go true e = ap (effects (changes_of w l)) e
    go false e = ap (effects (changes_of w l)) e
