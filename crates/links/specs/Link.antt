-- Link information (T7) and address list (T8): when they are well formed, and which addresses a link information names (A4).
-- n, m and k stand where the octets before them say. For link_ok, list_ok and names_of b is the whole information string, whose content starts at 4.
use Rattle.std.specs.Prelude.{ℕ, ◌+◌, ◌*◌, List, [], ◌∷◌, Bool, length, get_or, leb, eqb}
use Rattle.tally.specs.Tests.{both, all}
use Rattle.tally.specs.Ranges.{some_below}
use Rattle.octets.specs.Address.{six_at, same_octets}

-- n, m and k of link information whose content starts at a place (T7): the counts of octets of its two numbers, and of its addresses
abbrev pub type_count : ℕ → List ℕ → ℕ
type_count at b = get_or b at 0

abbrev pub number_count : ℕ → List ℕ → ℕ
number_count at b = get_or b (at + 1 + type_count at b) 0

abbrev pub address_count : ℕ → List ℕ → ℕ
address_count at b = get_or b (at + 2 + type_count at b + number_count at b) 0

abbrev pub four_ok : ℕ → Bool
four_ok n = both (leb 1 n) (leb n 4)

unfoldable pub link_ok : List ℕ → Bool
link_ok b =
    all (four_ok (type_count 4 b) ∷ four_ok (number_count 4 b) ∷ eqb (length b) (7 + type_count 4 b + number_count 4 b + 6 * address_count 4 b) ∷ [])

unfoldable pub list_ok : List ℕ → Bool
list_ok b = eqb (length b) (5 + 6 * get_or b 4 0)

-- one of the k addresses is a
unfoldable pub names_of : List ℕ → List ℕ → Bool
names_of b a = some_below (λ i. same_octets (six_at b (7 + type_count 4 b + number_count 4 b + 6 * i)) a) (address_count 4 b)
