-- Of each identity the list says exactly what lies between its two records, or between a record and none.
-- Each of the two halves speaks of an identity at one place at most: no identity occurs twice in a table.
use Prim.Native.Nat.{ℕ, zero, suc, ◌<◌}
use mathlib.Core.Path.{◌≡◌, refl, ap, ap₂, ◌∙◌}
use mathlib.Core.Logic.{◌≢◌}
use mathlib.Core.Bool.{Bool, true, false}
use mathlib.Core.List.{List, [], ◌∷◌, ◌++◌, append-nil}
use mathlib.Core.Option.{Option, none, some, none-ne-some}
use native.Mathlib.Omega.{arith}
use borrow.Author.Tests.{ltb-true, ltb-false}
use lib.Dec.{ltb, eqb}
use lib.ListN.{length, get_or}
use Rattle.tally.specs.Tests.{pick, both}
use Rattle.tally.proofs.TabLaws.{tab-get_or}
use Rattle.octets.specs.Address.{same_octets}
use Rattle.rules.specs.Identity.{Ident, same}
use Rattle.rules.specs.Model.{Rec, Places, is_some, lookup}
use Rattle.rules.specs.Fit.{Once}
use Rattle.rules.proofs.IdentityLaws.{clash, same_true, same_self, differ-sym}
use Rattle.rules.proofs.EachLaws.{Of, lookup_absent, lookup-of}
use Rattle.rules.proofs.PlacesLaws.{in_some, in-at}
use Rattle.rules.proofs.TabLaws.{Apart, tab-once}
use Rattle.changes.specs.Entries.{Entry, entry, joined_kind, seconds_kind, altered_kind, place_of_who, became, of_first, of_second, in_order, entries}
use Rattle.changes.specs.Changes.{Change, lasts, joins, alters, whom, resolve, resolved, changes_of, between}
use Rattle.changes.proofs.OrderLaws.{resolved-append, of-append, silent, by_one}

-- Where an identity is found

pub at_place : (w : Ident) (t : Places) → get_or t (place_of_who w t) none ≡ lookup w t
at_place w [] = refl
at_place w (none ∷ t) = at_place w t
at_place w (some r ∷ t) = go (same w r.who) (at_place w t)
  where
    go : (b : Bool) → get_or t (place_of_who w t) none ≡ lookup w t → get_or (some r ∷ t) (pick b zero (suc (place_of_who w t))) none ≡ pick b (some r) (lookup w t)
    go true e = refl
    go false e = e

pub known-below : (t : Places) (k : ℕ) (r : Rec) → get_or t k none ≡ some r → k < length t
known-below [] k r e = absurd (none-ne-some r e)
known-below (x ∷ t) zero r e = omega arith
known-below (x ∷ t) (suc k) r e = omega (arith, known-below t k r e)

-- another place has another identity
apart : (t : Places) → Once t → (i j : ℕ) (r q : Rec) → get_or t i none ≡ some r → get_or t j none ≡ some q → j ≢ i → same r.who q.who ≡ false
apart t o i j r q e d n = go (ltb j i) refl (tab-once (length t) (λ k. get_or t k none) (rw (tab-get_or t none) o))
  where
    go : (b : Bool) → ltb j i ≡ b → Apart (length t) (λ k. get_or t k none) → same r.who q.who ≡ false
    go true l f = differ-sym q.who r.who (f j i q r (ltb-true j i l) (known-below t i r e) d e)
    go false l f = f i j r q (omega (arith, ltb-false j i l, n)) (known-below t j q d) e d

-- Changes that all speak of one identity

abbrev OnlyOf : Ident → List Change → Type 0
OnlyOf v [] = Unit {0}
OnlyOf v (c ∷ l) = (whom c ≡ v) × OnlyOf v l

only-other : (w v : Ident) (l : List Change) → OnlyOf v l → same w v ≡ false → changes_of w l ≡ []
only-other w v [] o n = refl
only-other w v (c ∷ l) o n = rw (ap (same w) o.0 ∙ n) (only-other w v l o.1 n)

only-own : (v : Ident) (l : List Change) → OnlyOf v l → changes_of v l ≡ l
only-own v [] o = refl
only-own v (c ∷ l) o = rw (ap (same v) o.0 ∙ same_self v) (ap (λ (m : List Change). c ∷ m) (only-own v l o.1))

between-only : (r : Rec) (x : Option Rec) → Of r.who x → OnlyOf r.who (between (some r) x)
between-only r none o = (refl, tt)
between-only r (some q) o = go (both (same_octets r.octets q.octets) (same_octets r.sender q.sender)) (eqb r.left q.left)
  where
    go : (a b : Bool) → OnlyOf r.who (pick a (pick b [] (lasts q.who q.left ∷ [])) (alters q ∷ []))
    go true true = tt
    go true false = (o, tt)
    go false b = (o, tt)

module _ (a b : Places) where
  -- The first table

  -- what its place i says
  pub first_says : (i : ℕ) (r : Rec) → get_or a i none ≡ some r → resolved a b (of_first b i (some r)) ≡ between (some r) (lookup r.who b)
  unfolding resolve
  first_says i r e = go (lookup r.who b) (at_place r.who b)
    where
      go : (x : Option Rec) → get_or b (place_of_who r.who b) none ≡ x → resolved a b (became i r (place_of_who r.who b) x) ≡ between (some r) x
      go none d = rw e
      go (some q) d = pair (both (same_octets r.octets q.octets) (same_octets r.sender q.sender)) (eqb r.left q.left)
        where
          pair : (f g : Bool)
              → resolved a b (pick f (pick g [] (entry seconds_kind (place_of_who r.who b) ∷ [])) (entry altered_kind (place_of_who r.who b) ∷ []))
              ≡ pick f (pick g [] (lasts q.who q.left ∷ [])) (alters q ∷ [])
          pair true true = refl
          pair true false = rw d
          pair false g = rw d

  abbrev pub first_at : ℕ → List Entry
  first_at i = of_first b i (get_or a i none)

  abbrev pub second_at : ℕ → List Entry
  second_at k = of_second a k (get_or b k none)

  -- a place with another identity, or free, says nothing of w
  first-other : (w : Ident) (i : ℕ) → ((r : Rec) → get_or a i none ≡ some r → same w r.who ≡ false) → changes_of w (resolved a b (first_at i)) ≡ []
  first-other w i h = go (get_or a i none) refl
    where
      go : (x : Option Rec) → get_or a i none ≡ x → changes_of w (resolved a b (of_first b i x)) ≡ []
      go none e = refl
      go (some r) e =
          ap (changes_of w) (first_says i r e)
          ∙ only-other w r.who (between (some r) (lookup r.who b)) (between-only r (lookup r.who b) (lookup-of r.who b)) (h r e)

  module _ (o : Once a) (w : Ident) where
    first-new : lookup w a ≡ none → changes_of w (resolved a b (in_order first_at (length a))) ≡ []
    first-new e =
        silent first_at a b w (length a)
        (λ i l. first-other w i (λ r d. in-at (λ v. same w v ≡ false) a i r (lookup_absent w a e) d))

    first_known : (r : Rec) → lookup w a ≡ some r → changes_of w (resolved a b (in_order first_at (length a))) ≡ between (some r) (lookup w b)
    first_known r e =
        let i = place_of_who w a in
        let d : get_or a i none ≡ some r = at_place w a ∙ e in
        let s : r.who ≡ w = in_some (λ v. v ≡ w) (lookup w a) r (lookup-of w a) e in
        by_one first_at a b w (length a) i (known-below a i r d) (λ j l n. first-other w j (λ q h. rw (← s) (apart a o i j r q d h n)))
        ∙ ap (λ (x : Option Rec). changes_of w (resolved a b (of_first b i x))) d
        ∙ ap (changes_of w) (first_says i r d)
        ∙ rw (← s) (only-own r.who (between (some r) (lookup r.who b)) (between-only r (lookup r.who b) (lookup-of r.who b)))

  -- The second table

  pub second-says : (k : ℕ) (q : Rec) → get_or b k none ≡ some q → resolved a b (of_second a k (some q)) ≡ pick (is_some (lookup q.who a)) [] (joins q ∷ [])
  unfolding resolve
  second-says k q e = go (is_some (lookup q.who a))
    where
      go : (f : Bool) → resolved a b (pick f [] (entry joined_kind k ∷ [])) ≡ pick f [] (joins q ∷ [])
      go true = refl
      go false = rw e

  -- a place says nothing of w if it is free, of another identity, or of one that the first table knows
  second-other : (w : Ident) (k : ℕ) → ((q : Rec) → get_or b k none ≡ some q → same w q.who ≡ true → is_some (lookup w a) ≡ true)
      → changes_of w (resolved a b (second_at k)) ≡ []
  second-other w k h = go (get_or b k none) refl
    where
      one : (q : Rec) (f g : Bool) → same w q.who ≡ f → (f ≡ true → g ≡ true) → changes_of w (pick g [] (joins q ∷ [])) ≡ []
      one q f true e n = refl
      one q true false e n = absurd (clash false (n refl) refl)
      one q false false e n = rw e

      go : (x : Option Rec) → get_or b k none ≡ x → changes_of w (resolved a b (of_second a k x)) ≡ []
      go none e = refl
      go (some q) e =
          ap (changes_of w) (second-says k q e)
          ∙ one q (same w q.who) (is_some (lookup q.who a)) refl (λ s. rw (← same_true w q.who s) (h q e s))

  module _ (o : Once b) (w : Ident) where
    second-known : (r : Rec) → lookup w a ≡ some r → changes_of w (resolved a b (in_order second_at (length b))) ≡ []
    second-known r e = silent second_at a b w (length b) (λ k l. second-other w k (λ q d s. ap is_some e))

    second-neither : lookup w b ≡ none → changes_of w (resolved a b (in_order second_at (length b))) ≡ []
    second-neither e =
        silent second_at a b w (length b)
        (λ k l. second-other w k (λ q d s. absurd (clash (same w q.who) s (in-at (λ v. same w v ≡ false) b k q (lookup_absent w b e) d))))

    second-new : (q : Rec) → lookup w a ≡ none → lookup w b ≡ some q → changes_of w (resolved a b (in_order second_at (length b))) ≡ joins q ∷ []
    second-new q n e =
        let k = place_of_who w b in
        let d : get_or b k none ≡ some q = at_place w b ∙ e in
        let s : q.who ≡ w = in_some (λ v. v ≡ w) (lookup w b) q (lookup-of w b) e in
        by_one second_at a b w (length b) k (known-below b k q d)
        (λ j l m. second-other w j (λ p h t. absurd (clash (same w p.who) t (rw (← s) (apart b o k j q p d h m)))))
        ∙ ap (λ (x : Option Rec). changes_of w (resolved a b (of_second a k x))) d
        ∙ ap (changes_of w) (second-says k q d)
        ∙ rw (ap (λ (v : Ident). lookup v a) s ∙ n, ap (same w) s ∙ same_self w)

-- Both halves

pub changes-of : (a b : Places) → Once a → Once b → (w : Ident) → changes_of w (resolved a b (entries a b)) ≡ between (lookup w a) (lookup w b)
unfolding entries
changes-of a b oa ob w =
    ap (changes_of w) (resolved-append a b (in_order (first_at a b) (length a)) (in_order (second_at a b) (length b)))
    ∙ of-append w (resolved a b (in_order (first_at a b) (length a))) (resolved a b (in_order (second_at a b) (length b)))
    ∙ go (lookup w a) (lookup w b) refl refl
  where
    go : (x y : Option Rec) → lookup w a ≡ x → lookup w b ≡ y
        → changes_of w (resolved a b (in_order (first_at a b) (length a))) ++ changes_of w (resolved a b (in_order (second_at a b) (length b))) ≡ between x y
    go none none d e = ap₂ (λ (l m : List Change). l ++ m) (first-new a b oa w d) (second-neither a b ob w e)
    go none (some q) d e = ap₂ (λ (l m : List Change). l ++ m) (first-new a b oa w d) (second-new a b ob w q d e)
    go (some r) y d e =
        ap₂ (λ (l m : List Change). l ++ m) (first_known a b oa w r d ∙ ap (between (some r)) e) (second-known a b ob w r d)
        ∙ append-nil (between (some r) y)
