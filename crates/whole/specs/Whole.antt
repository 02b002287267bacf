-- Whole strings of octets: all of them 0, and a string put at the front of a place with zeros behind it (N3, N4).
-- A string that is longer than the place is cut at the place's end.
use Rattle.std.specs.Prelude.{ℕ, ◌-◌, List, [], ◌∷◌, ◌++◌, Bool, true, length, take, replicate, eqb}
use Rattle.tally.specs.Tests.{both}

unfoldable pub zeros : List ℕ → Bool
zeros [] = true
zeros (x ∷ l) = both (eqb x 0) (zeros l)

-- in a place of n octets
unfoldable pub filled : List ℕ → ℕ → List ℕ
filled l n = take n l ++ replicate (n - length l) 0
