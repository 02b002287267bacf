-- Lists given place by place: what a table's own changes and tests say of its places, said of the list.
-- One place written is `set`, each place by itself is `each_record`; what holds in every place holds in the list.
use Prim.Native.Nat.{ℕ, zero, suc, ◌+◌, ◌<◌}
use mathlib.Core.Path.{◌≡◌, refl, ap, ap₂, ◌∙◌}
use mathlib.Core.Logic.{◌≢◌}
use mathlib.Core.List.{◌∷◌}
use mathlib.Core.Bool.{Bool, false}
use mathlib.Core.Option.{Option, none, some}
use native.Mathlib.Omega.{arith}
use lib.ListN.{set}
use Rattle.tally.specs.Tab.{tab}
use Rattle.tally.proofs.TabLaws.{get_or-tab, tab-same}
use Rattle.rules.specs.Identity.{Ident, same}
use Rattle.rules.specs.Model.{Rec, Places, hits, tally, on_record, each_record}
use Rattle.rules.specs.Fit.{InPlace, InAll, Absent, Once}
use Rattle.rules.proofs.EachLaws.{Free}
use Rattle.rules.proofs.PlacesLaws.{in_some, in-at}

abbrev cons : Option Rec → Places → Places
cons x t = x ∷ t

abbrev next : (ℕ → Option Rec) → ℕ → Option Rec
next f k = f (suc k)

-- Two tables, place by place

-- one place written: a new record, a refresh, a goodbye
pub tab-set : (m : ℕ) (f g : ℕ → Option Rec) (i : ℕ) → i < m → ((j : ℕ) → j < m → j ≢ i → g j ≡ f j) → tab m g ≡ set (tab m f) i (g i)
unfolding tab
tab-set zero f g i l h = absurd (omega arith)
tab-set (suc m) f g zero l h = ap (cons (g 0)) (tab-same m (next f) (next g) (λ i k. h (suc i) (omega arith) (omega arith)))
tab-set (suc m) f g (suc i) l h =
    ap₂ cons (h 0 (omega arith) (omega arith))
    (tab-set m (next f) (next g) i (omega arith) (λ j k d. h (suc j) (omega arith) (λ e. d (omega arith))))

-- each place by itself: seconds passed, link lost
pub tab-each : (F : Rec → Option Rec) (m : ℕ) (f g : ℕ → Option Rec) → ((i : ℕ) → i < m → g i ≡ on_record F (f i)) → tab m g ≡ each_record F (tab m f)
unfolding tab
tab-each F zero f g h = refl
tab-each F (suc m) f g h = ap₂ cons (h 0 (omega arith)) (tab-each F m (next f) (next g) (λ i l. h (suc i) (omega arith)))

-- One table: what holds in every place

-- a count that a loop makes, place by place
pub tally-tab : (g : Ident → Bool) (m : ℕ) (f : ℕ → Option Rec) → tally g (tab (suc m) f) ≡ tally g (tab m f) + hits g (f m)
unfolding tab
tally-tab g zero f = omega arith
tally-tab g (suc m) f = omega (arith, tally-tab g m (next f))

some_in : (P : Ident → Type 0) (x : Option Rec) → ((y : Rec) → x ≡ some y → P y.who) → InPlace P x
some_in P none h = tt
some_in P (some r) h = h r refl

-- with P of another identity, nobody of that identity is there; with P of a port below n, the ports are right
pub in-tab : (P : Ident → Type 0) (m : ℕ) (f : ℕ → Option Rec) → ((k : ℕ) (y : Rec) → k < m → f k ≡ some y → P y.who) → InAll P (tab m f)
unfolding tab
in-tab P zero f h = tt
in-tab P (suc m) f h = (some_in P (f 0) (λ y e. h 0 y (omega arith) e), in-tab P m (next f) (λ k y l e. h (suc k) y (omega arith) e))

-- no two of the m places have one identity
abbrev pub Apart : ℕ → (ℕ → Option Rec) → Type 0
Apart m f = (j k : ℕ) (x y : Rec) → j < k → k < m → f j ≡ some x → f k ≡ some y → same x.who y.who ≡ false

pub once-tab : (m : ℕ) (f : ℕ → Option Rec) → Apart m f → Once (tab m f)
unfolding tab
once-tab zero f h = tt
once-tab (suc m) f h = (
  some_in (λ v. Absent v (tab m (next f))) (f 0)
      (λ x e. in-tab (λ v. same x.who v ≡ false) m (next f) (λ k y l d. h 0 (suc k) x y (omega arith) (omega arith) e d)),
  once-tab m (next f) (λ j k x y l n e d. h (suc j) (suc k) x y (omega arith) (omega arith) e d),
)

pub tab-once : (m : ℕ) (f : ℕ → Option Rec) → Once (tab m f) → Apart m f
unfolding tab
tab-once zero f o j k x y l n e d = absurd (omega arith)
tab-once (suc m) f o j zero x y l n e d = absurd (omega arith)
tab-once (suc m) f o zero (suc k) x y l n e d =
    in-at (λ v. same x.who v ≡ false) (tab m (next f)) k y (in_some (λ v. Absent v (tab m (next f))) (f 0) x o.0 e)
    (get_or-tab m (next f) k none (omega arith) ∙ d)
tab-once (suc m) f o (suc j) (suc k) x y l n e d = tab-once m (next f) o.1 j k x y (omega arith) (omega arith) e d

-- a free place of the list is one of the places
pub free-tab : (m : ℕ) (f : ℕ → Option Rec) → Free (tab m f) → (k : ℕ) × (k < m) × (f k ≡ none)
unfolding tab
free-tab zero f h = absurd h
free-tab (suc m) f h = go (f 0) refl h (free-tab m (next f))
  where
    go : (x : Option Rec) → f 0 ≡ x → Free (x ∷ tab m (next f)) → (Free (tab m (next f)) → (k : ℕ) × (k < m) × (f (suc k) ≡ none))
        → (k : ℕ) × (k < suc m) × (f k ≡ none)
    go none e u r = (0, omega arith, e)
    go (some y) e u r = let z = r u in (suc z.0, omega (arith, z.1), z.2)
