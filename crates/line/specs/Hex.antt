-- Octets as they are printed (J2): two capital hex digits each, in ASCII; those of a local chassis as they are.
-- An address and a port ID are joined by `-`; the stored answers have octets without it.
use Rattle.std.specs.Prelude.{ℕ, ◌+◌, ◌/◌, ◌%◌, List, [], ◌∷◌, ◌++◌, eqb, ltb}
use Rattle.tally.specs.Tests.{pick}

-- 0 to 9, then A to F, of a number below 16
abbrev pub digit_of : ℕ → ℕ
digit_of n = pick (ltb n 10) (48 + n) (55 + n)

abbrev pub hex_of : ℕ → List ℕ
hex_of b = digit_of (b / 16) ∷ digit_of (b % 16) ∷ []

unfoldable pub hexes : List ℕ → List ℕ
hexes [] = []
hexes (b ∷ x) = hex_of b ++ hexes x

-- for the stored answers of the tests: a full stop where there are none
abbrev pub hexes_or_stop : List ℕ → List ℕ
hexes_or_stop [] = 46 ∷ []
hexes_or_stop (b ∷ x) = hexes (b ∷ x)

-- each behind a `-`
unfoldable pub dashed : List ℕ → List ℕ
dashed [] = []
dashed (b ∷ x) = 45 ∷ (hex_of b ++ dashed x)

abbrev pub joined : List ℕ → List ℕ
joined [] = []
joined (b ∷ x) = hex_of b ++ dashed x

-- `local`, and a space
abbrev pub local_word : List ℕ
local_word = 0x6C ∷ 0x6F ∷ 0x63 ∷ 0x61 ∷ 0x6C ∷ 0x20 ∷ []

-- a chassis: with subtype 7 its octets are characters, with any other an address
unfoldable pub chassis_shown : ℕ → List ℕ → List ℕ
chassis_shown subtype octets = pick (eqb subtype 7) (local_word ++ octets) (joined octets)
