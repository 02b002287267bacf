-- Laws of a chain that asks every element of a list: std's words for it are those of the rules.
-- What stands in the front of an array is asked, and no more.
use Prim.Native.Nat.{ℕ, zero, suc}
use mathlib.Core.Path.{◌≡◌, refl}
use mathlib.Core.List.{List, [], ◌∷◌, map}
use mathlib.Core.Bool.{Bool, true, false}
use lib.ListN.{length, take}
use Rattle.std.specs.List.{list_all}
use Rattle.std.specs.Prelude.{◌&&◌}
use Rattle.tally.specs.Tests.{both, all}

and-both : (a b : Bool) → (a && b) ≡ both a b
and-both true b = refl
and-both false b = refl

-- all of a list, as std asks it and as the rules do
pub all-map : {A : Type 0} (f : A → Bool) (l : List A) → list_all f l ≡ all (map f l)
all-map f [] = refl
all-map f (x ∷ l) = rw (all-map f l) (and-both (f x) (all (map f l)))

pub map-twice : {A B C : Type 0} (f : A → B) (g : B → C) (l : List A) → map (λ x. g (f x)) l ≡ map g (map f l)
map-twice f g [] = refl
map-twice f g (x ∷ l) = rw (map-twice f g l) refl

-- as many as a front has are that front
pub take-front : {A : Type 0} (k : ℕ) (l : List A) → take (length (take k l)) l ≡ take k l
take-front zero l = refl
take-front (suc k) [] = refl
take-front (suc k) (x ∷ l) = rw (take-front k l) refl
