-- Things that stand one behind the other at the front of a list of octets; f says how many octets the first of them has.
-- An octet past the end counts as 0, so that a thing that is not there has a size too and shows as one that runs past the end.
use Rattle.std.specs.Prelude.{ℕ, zero, suc, ◌+◌, List, [], ◌∷◌, drop}

-- how many octets the first k have together
unfoldable pub span : (List ℕ → ℕ) → ℕ → List ℕ → ℕ
span f zero l = 0
span f (suc k) l = f l + span f k (drop (f l) l)

-- what g reads at the front of each of the first k
unfoldable pub each : {A : Type 0} → (List ℕ → ℕ) → (List ℕ → A) → ℕ → List ℕ → List A
each f g zero l = []
each f g (suc k) l = g l ∷ each f g k (drop (f l) l)
