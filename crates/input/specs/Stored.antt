-- A room for a file, and numbers as the stored files have them: octets with the high one first.
-- Of more than eight octets the last eight count, as in a word of 64 bits.
use Rattle.std.specs.Prelude.{ℕ, ◌+◌, ◌*◌, ◌%◌, ◌^◌, List, [], ◌∷◌, take, drop, replicate}

-- a room of n octets before anything is read into it; it does not compute, so that no proof counts its octets
unfoldable pub room_of : ℕ → List ℕ
room_of n = replicate n 0

-- the number so far, and octets behind it
abbrev pub counted_on : ℕ → List ℕ → ℕ
counted_on n [] = n
counted_on n (b ∷ l) = counted_on ((n * 256 % 2 ^ 64 + b) % 2 ^ 64) l

-- the number in n octets at a place
abbrev pub number_at : List ℕ → ℕ → ℕ → ℕ
number_at l at n = counted_on 0 (take n (drop at l))

-- the number in eight octets at a place, as two of four; where the file ends inside one, that one is of the octets that are there
abbrev pub wide_at : List ℕ → ℕ → ℕ
wide_at l at = (number_at l at 4 * 4294967296 % 2 ^ 64 + number_at (drop 4 (drop at l)) 0 4) % 2 ^ 64
