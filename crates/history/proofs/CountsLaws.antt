-- Counting neighbours by a history's names and counting the records of a table give one number.
-- Each identity is named once, and nobody is a neighbour who was not named.
use Prim.Native.Nat.{ℕ, ◌+◌}
use mathlib.Core.Path.{◌≡◌, refl, sym, ap, ◌∙◌, fun_ext}
use mathlib.Core.Bool.{Bool, true, false}
use mathlib.Core.List.{List, [], ◌∷◌}
use mathlib.Core.Option.{Option, none, some}
use native.Mathlib.Omega.{arith}
use lib.ListN.{length}
use Rattle.tally.specs.Tests.{pick, both, either}
use Rattle.tally.specs.Counts.{one}
use Rattle.tally.proofs.TestsLaws.{both_end, both_false}
use Rattle.rules.specs.Identity.{Ident, same}
use Rattle.rules.specs.Events.{unread, says, frame, passed, lost, History, whose}
use Rattle.rules.specs.Model.{Rec, Places, is_some, lookup, tally}
use Rattle.rules.specs.Fit.{Once}
use Rattle.rules.proofs.IdentityLaws.{clash, same_true, same_self, differ-sym}
use Rattle.rules.proofs.EachLaws.{absent-lookup}
use Rattle.history.specs.Past.{among, named, passing, hearing, losing, older, latest}
use Rattle.history.specs.Demand.{Distinct}
use Rattle.history.proofs.PastLaws.{losing-none}

-- Names

pub named-distinct : (h : History) → Distinct (named h)
named-distinct [] = tt
named-distinct (frame p (unread k) ∷ h) = named-distinct h
named-distinct (frame p (says a) ∷ h) = go (among (whose p a) (named h)) refl (named-distinct h)
  where
    go : (b : Bool) → among (whose p a) (named h) ≡ b → Distinct (named h) → Distinct (pick b (named h) (whose p a ∷ named h))
    go true e d = d
    go false e d = (e, d)
named-distinct (passed s ∷ h) = named-distinct h
named-distinct (lost p ∷ h) = named-distinct h

neither : (a b : Bool) → either a b ≡ false → (a ≡ false) × (b ≡ false)
neither true b e = (e, absurd (clash true refl e))
neither false b e = (refl, e)

-- who is among the names after a frame was among them before, or is its own identity
named-frame : (w v : Ident) (l : List Ident) → among w (pick (among v l) l (v ∷ l)) ≡ false → (same w v ≡ false) × (among w l ≡ false)
named-frame w v l e = go (among v l) refl e
  where
    go : (b : Bool) → among v l ≡ b → among w (pick b l (v ∷ l)) ≡ false → (same w v ≡ false) × (among w l ≡ false)
    go false d z = neither (same w v) (among w l) z
    go true d z = (apart (same w v) refl, z)
      where
        apart : (y : Bool) → same w v ≡ y → y ≡ false
        apart true m = absurd (clash (among w l) (rw (same_true w v m) d) z)
        apart false m = refl

-- nothing is said of an identity that no frame named
pub unnamed : (n : ℕ) (h : History) (w : Ident) → among w (named h) ≡ false → latest n h w ≡ none
unfolding latest hearing
unnamed n [] w e = refl
unnamed n (frame p (unread k) ∷ h) w e = unnamed n h w e
unnamed n (frame p (says a) ∷ h) w e = let d = named-frame w (whose p a) (named h) e in rw d.0 (unnamed n h w d.1)
unnamed n (passed s ∷ h) w e = ap (older s) (unnamed n h w e)
unnamed n (lost p ∷ h) w e = ap (losing p w) (unnamed n h w e) ∙ losing-none p w

-- Counts

passing-none : (l : List Ident) → passing (λ w. false) l ≡ 0
passing-none [] = refl
passing-none (w ∷ l) = omega (arith, passing-none l)

pub passing-same : (f g : Ident → Bool) (l : List Ident) → ((w : Ident) → f w ≡ g w) → passing f l ≡ passing g l
passing-same f g l h = ap (λ (x : Ident → Bool). passing x l) (fun_ext h)

-- two tests that agree but for v
module _ (f g : Ident → Bool) (v : Ident) (h : (w : Ident) → same w v ≡ false → f w ≡ g w) where
  -- which is not in the list
  passing-out : (l : List Ident) → among v l ≡ false → passing f l ≡ passing g l
  passing-out [] o = refl
  passing-out (u ∷ l) o = let x = neither (same v u) (among v l) o in rw (h u (differ-sym v u x.0), passing-out l x.1)

  -- which is in the list once
  passing-one : (l : List Ident) → Distinct l → among v l ≡ true → passing f l + one (g v) ≡ passing g l + one (f v)
  passing-one [] d i = absurd (clash false i refl)
  passing-one (u ∷ l) d i = go (same v u) refl i (passing-one l d.1)
    where
      go : (b : Bool) → same v u ≡ b → either b (among v l) ≡ true → (among v l ≡ true → passing f l + one (g v) ≡ passing g l + one (f v))
          → one (f u) + passing f l + one (g v) ≡ one (g u) + passing g l + one (f v)
      go true e j ih =
          let z : v ≡ u = same_true v u e in
          let o : among v l ≡ false = rw z d.0 in
          let x : one (f u) ≡ one (f v) = ap (λ (y : Ident). one (f y)) (sym z) in
          let y : one (g u) ≡ one (g v) = ap (λ (y : Ident). one (g y)) (sym z) in
          omega (arith, passing-out l o, x, y)
      go false e j ih = rw (h u (differ-sym v u e)) (omega (arith, ih j))

-- a list without repeats, all of which another such list has, is as long as their number there
pub length-passing : (l m : List Ident) → Distinct l → Distinct m → ((w : Ident) → among w l ≡ true → among w m ≡ true) → length l ≡ passing (λ w. among w l) m
length-passing [] m d e h = sym (passing-none m)
length-passing (v ∷ l) m d e h =
    let a = passing-one (λ w. among w (v ∷ l)) (λ w. among w l) v (λ w z. rw z) m e (h v (rw (same_self v))) in
    let b = length-passing l m d.1 e (λ w z. h w (more (same w v) (among w l) z)) in
    let y : one (among v l) ≡ 0 = rw d.0 in
    let z : one (among v (v ∷ l)) ≡ 1 = rw (same_self v) in
    omega (arith, a, b, y, z)
  where
    more : (x y : Bool) → y ≡ true → either x y ≡ true
    more true y e = refl
    more false y e = e

-- A table's records, counted by names

-- passes q, and has a record in t
abbrev found : Places → (Ident → Bool) → Ident → Bool
found t q w = both (q w) (is_some (lookup w t))

pub tally-passing : (t : Places) (q : Ident → Bool) (l : List Ident) → Once t → Distinct l → ((w : Ident) → is_some (lookup w t) ≡ true → among w l ≡ true)
    → tally q t ≡ passing (found t q) l
tally-passing [] q l u d c = sym (passing-same (found [] q) (λ w. false) l (λ w. both_false (q w)) ∙ passing-none l)
tally-passing (none ∷ t) q l u d c = omega (arith, tally-passing t q l u.1 d c)
tally-passing (some r ∷ t) q l u d c =
    let one_more = passing-one (found (some r ∷ t) q) (found t q) r.who (λ w e. rw e) l d (c r.who (rw (same_self r.who))) in
    let ih = tally-passing t q l u.1 d (λ w e. c w (more (same w r.who) (lookup w t) e)) in
    let before : one (found t q r.who) ≡ 0 = rw (absent-lookup r.who t u.0, both_false) in
    let after : one (found (some r ∷ t) q r.who) ≡ one (q r.who) = rw (same_self r.who, both_end) in
    omega (arith, one_more, ih, before, after)
  where
    more : (b : Bool) (x : Option Rec) → is_some x ≡ true → is_some (pick b (some r) x) ≡ true
    more true x e = refl
    more false x e = e
