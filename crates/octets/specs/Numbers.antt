-- Several octets as one number, high octet first; and a number as two or four octets.
-- Seconds to live have two octets, interface types and port numbers up to four.
use Rattle.std.specs.Prelude.{ℕ, ◌+◌, ◌*◌, ◌/◌, ◌%◌, List, [], ◌∷◌}

abbrev pub pair_of : ℕ → ℕ → ℕ
pair_of hi lo = hi * 256 + lo

-- with v for the octets in front
unfoldable pub value_from : ℕ → List ℕ → ℕ
value_from v [] = v
value_from v (x ∷ l) = value_from (v * 256 + x) l

abbrev pub value_of : List ℕ → ℕ
value_of l = value_from 0 l

-- a number that does not fit loses its higher bits
abbrev pub two_octets : ℕ → List ℕ
two_octets n = n / 256 % 256 ∷ n % 256 ∷ []

abbrev pub four_octets : ℕ → List ℕ
four_octets n = n / 16777216 % 256 ∷ n / 65536 % 256 ∷ two_octets n
