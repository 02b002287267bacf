-- Addresses in a row: when one of so many from a place on is the address asked for (A4).
-- What lies past the end counts as 0.
use Rattle.std.specs.Prelude.{ℕ, ◌+◌, ◌*◌, List, Bool}
use Rattle.tally.specs.Ranges.{some_below}
use Rattle.octets.specs.Address.{six_at, same_octets}

-- one of the count addresses from first on is a (A4)
abbrev pub among_of : List ℕ → ℕ → ℕ → List ℕ → Bool
among_of s first count a = some_below (λ i. same_octets (six_at s (first + 6 * i)) a) count
