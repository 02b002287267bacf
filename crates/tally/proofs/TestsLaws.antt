-- Laws of tests: what a conjunction that holds says of its parts, and one bound asked from either side.
-- `held` takes any list of tests apart in one step.
use Prim.{Unit, tt}
use Prim.Native.Nat.{ℕ, zero, suc, ◌≤◌}
use mathlib.Core.Path.{◌≡◌, refl}
use mathlib.Core.List.{List, [], ◌∷◌}
use mathlib.Core.Bool.{Bool, true, false, not}
use native.Mathlib.Omega.{arith}
use borrow.Author.Tests.{eqb-true, eqb-false, ltb-true, ltb-false, lt-ltb, le-ltb, lt-leb, le-leb}
use lib.Dec.{leb, ltb, eqb}
use lib.ListN.{get_or}
use Rattle.tally.specs.Tests.{both, either, all}

pub both_true : (a b : Bool) → both a b ≡ true → (a ≡ true) × (b ≡ true)
both_true true b e = (refl, e)
both_true false b e = (e, let z : ◌≡◌ {A = Bool} false true = e in cc)

pub both_hold : {a b : Bool} → a ≡ true → b ≡ true → both a b ≡ true
both_hold p q = rw (p, q)

-- the last test of a list stands alone
pub both_end : (a : Bool) → both a true ≡ a
both_end true = refl
both_end false = refl

pub both_false : (a : Bool) → both a false ≡ false
both_false true = refl
both_false false = refl

pub either-right : (a b : Bool) → b ≡ true → either a b ≡ true
either-right true b e = refl
either-right false b e = e

-- every test of the list holds
abbrev pub Held : List Bool → Type 0
Held [] = Unit {0}
Held (b ∷ l) = (b ≡ true) × Held l

pub held : (l : List Bool) → all l ≡ true → Held l
held [] e = tt
held (b ∷ l) e = let p = both_true b (all l) e in (p.0, held l p.1)

-- one test that fails decides, wherever it stands in the list
pub all-fails : (l : List Bool) (k : ℕ) → get_or l k true ≡ false → all l ≡ false
all-fails [] k e = let z : ◌≡◌ {A = Bool} true false = e in cc
all-fails (b ∷ l) zero e = rw e
all-fails (true ∷ l) (suc k) e = all-fails l k e
all-fails (false ∷ l) (suc k) e = refl

-- a bound asked from either side
pub not-below : (m n : ℕ) → leb n m ≡ not (ltb m n)
not-below m n = go (ltb m n) refl
  where
    go : (b : Bool) → ltb m n ≡ b → leb n m ≡ not b
    go true e = lt-leb n m (ltb-true m n e)
    go false e = le-leb n m (ltb-false m n e)

-- at least 1 is not 0
pub above-0 : (n : ℕ) → leb 1 n ≡ not (eqb n 0)
above-0 n = go (eqb n 0) refl
  where
    go : (b : Bool) → eqb n 0 ≡ b → leb 1 n ≡ not b
    go true e = lt-leb 1 n (omega (arith, eqb-true n 0 e))
    go false e = le-leb 1 n (omega (arith, eqb-false n 0 e))

-- what is no more than a bound is below it or is it
pub below-or-at : (h m : ℕ) → h ≤ m → ltb h m ≡ not (eqb h m)
below-or-at h m l = go (eqb h m) refl
  where
    go : (b : Bool) → eqb h m ≡ b → ltb h m ≡ not b
    go true e = le-ltb h m (omega (arith, eqb-true h m e))
    go false e = lt-ltb h m (omega (arith, eqb-false h m e))
