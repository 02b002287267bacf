-- The layout of extension link information (T11), by its counts and its length. t is its content, which begins with n.
-- n, m, p, k, c, d and q stand where the octets before them say.
use Rattle.std.specs.Prelude.{ℕ, ◌+◌, ◌*◌, List, [], ◌∷◌, Bool, length, drop, get_or, leb, eqb}
use Rattle.tally.specs.Tests.{both, either, all}
use Rattle.tally.specs.Ranges.{some_below}
use Rattle.octets.specs.Address.{six_at, same_octets}
use Rattle.links.specs.Link.{type_count, number_count, four_ok}
use Rattle.extension.specs.Runs.{span}

-- an item is one octet of length, and that many octets
abbrev pub item_size : List ℕ → ℕ
item_size l = 1 + get_or l 0 0

-- where the item j stands, of those that begin at a place
abbrev pub item_place : List ℕ → ℕ → ℕ → ℕ
item_place t at j = at + span item_size j (drop at t)

-- an entry is an address of p octets, and its c items
abbrev pub entry_size : ℕ → ℕ → List ℕ → ℕ
entry_size p c l = p + span item_size c (drop p l)

-- where p stands, behind n, interface type, m and port number; k and c follow
abbrev pub width_place : List ℕ → ℕ
width_place t = 2 + type_count 0 t + number_count 0 t

abbrev pub width : List ℕ → ℕ
width t = get_or t (width_place t) 0

abbrev pub entry_count : List ℕ → ℕ
entry_count t = get_or t (width_place t + 1) 0

abbrev pub item_count : List ℕ → ℕ
item_count t = get_or t (width_place t + 2) 0

-- where the entries begin, and where the entry i stands; behind the last one is d, and then q
abbrev pub entries_from : List ℕ → ℕ
entries_from t = width_place t + 3

abbrev pub entry_place : List ℕ → ℕ → ℕ
entry_place t i = entries_from t + span (entry_size (width t) (item_count t)) i (drop (entries_from t) t)

abbrev pub port_from : List ℕ → ℕ
port_from t = entry_place t (entry_count t)

abbrev pub port_item_count : List ℕ → ℕ
port_item_count t = get_or t (port_from t) 0

abbrev pub pairing_count : List ℕ → ℕ
pairing_count t = get_or t (port_from t + 1) 0

-- where the pairing addresses begin, and where the one of a number stands
abbrev pub pairings_from : List ℕ → ℕ
pairings_from t = port_from t + 2

abbrev pub pairing_place : List ℕ → ℕ → ℕ
pairing_place t i = pairings_from t + i * width t

-- where the port's items stand, behind the pairing addresses
abbrev pub port_items_from : List ℕ → ℕ
port_items_from t = pairing_place t (pairing_count t)

-- a length of 0 is no address (T11)
abbrev pub width_ok : ℕ → ℕ → ℕ → Bool
width_ok p k q = either (leb 1 p) (both (eqb k 0) (eqb q 0))

-- it ends exactly behind the last item of the port
abbrev pub end_ok : List ℕ → Bool
end_ok t = eqb (length t) (item_place t (port_items_from t) (port_item_count t))

-- T11; that it says exactly the tables laid out is proved (specs/Table.antt)
unfoldable pub extension_ok : List ℕ → Bool
extension_ok t =
    all (four_ok (type_count 0 t)
    ∷ four_ok (number_count 0 t)
    ∷ width_ok (width t) (entry_count t) (pairing_count t)
    ∷ end_ok t
    ∷ [])

-- one of the k addresses is a, which has six octets; no address of another length is, and no pairing address (A4)
unfoldable pub extension_names : List ℕ → List ℕ → Bool
extension_names t a = both (eqb (width t) 6) (some_below (λ i. same_octets (six_at t (entry_place t i)) a) (entry_count t))
