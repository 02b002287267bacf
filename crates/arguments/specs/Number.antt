-- The number that a word says (J3): decimal digits alone, at least one.
-- One that is too large is the greatest that a usize holds, and so is the answer to a word that is no number.
use Rattle.std.specs.Prelude.{ℕ, ◌+◌, ◌*◌, ◌-◌, min, List, [], ◌∷◌, map, Bool, leb}
use Rattle.tally.specs.Tests.{pick, both, all}

abbrev pub greatest : ℕ
greatest = 0xFFFF_FFFF_FFFF_FFFF

-- `0` to `9` in ASCII
abbrev pub is_digit : ℕ → Bool
is_digit b = both (leb 48 b) (leb b 57)

-- the number of any size that digits are, behind those that are v
unfoldable pub value_from : ℕ → List ℕ → ℕ
value_from v [] = v
value_from v (b ∷ l) = value_from (v * 10 + (b - 48)) l

-- what octets say behind digits that are v
unfoldable pub said_from : ℕ → List ℕ → ℕ
said_from v l = pick (all (map is_digit l)) (min (value_from v l) greatest) greatest

unfoldable pub number_in : List ℕ → ℕ
number_in [] = greatest
number_in (b ∷ l) = said_from 0 (b ∷ l)

-- one octet more, as the code goes
unfoldable pub with_digit : ℕ → ℕ → ℕ
with_digit n b = said_from n (b ∷ [])
