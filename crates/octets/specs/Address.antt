-- Addresses: the six octets at a place, when two strings of octets are the same, and what a group address is.
-- What lies past the end counts as 0.
use Rattle.std.specs.Prelude.{ℕ, ◌+◌, ◌%◌, List, [], ◌∷◌, Bool, true, false, get_or, eqb}
use Rattle.tally.specs.Tests.{both}

unfoldable pub six_at : List ℕ → ℕ → List ℕ
six_at s at = get_or s at 0 ∷ get_or s (at + 1) 0 ∷ get_or s (at + 2) 0 ∷ get_or s (at + 3) 0 ∷ get_or s (at + 4) 0 ∷ get_or s (at + 5) 0 ∷ []

unfoldable pub same_octets : List ℕ → List ℕ → Bool
same_octets [] [] = true
same_octets [] (y ∷ b) = false
same_octets (x ∷ a) [] = false
same_octets (x ∷ a) (y ∷ b) = both (eqb x y) (same_octets a b)

-- a group address has the lowest bit of its first octet set (F4)
unfoldable pub is_group : List ℕ → Bool
is_group a = eqb (get_or a 0 0 % 2) 1
