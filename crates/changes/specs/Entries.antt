-- The entries that two tables give, a first and a second (D1, D2), and their octets (D3).
-- An entry is a kind and the number of a place.
use Rattle.std.specs.Prelude.{ℕ, zero, suc, List, [], ◌∷◌, ◌++◌, eqb, length, get_or}
use Rattle.std.proofs.Math.Option.{Option, none, some}
use Rattle.tally.specs.Tests.{pick, both}
use Rattle.octets.specs.Address.{same_octets}
use Rattle.rules.specs.Identity.{Ident, same}
use Rattle.rules.specs.Model.{Rec, Places, is_some, lookup}

pub record Entry : Type 0 where
  pub kind : ℕ
  pub place : ℕ

abbrev pub entry : ℕ → ℕ → Entry
entry kind place = record { kind = kind; place = place }

-- The kinds (D1)

abbrev pub left_kind : ℕ
left_kind = 1

abbrev pub joined_kind : ℕ
joined_kind = 2

abbrev pub seconds_kind : ℕ
seconds_kind = 3

abbrev pub altered_kind : ℕ
altered_kind = 4

-- the number of the place that has a record of w, or the number of places where w is new
abbrev pub place_of_who : Ident → Places → ℕ
place_of_who w [] = zero
place_of_who w (none ∷ t) = suc (place_of_who w t)
place_of_who w (some r ∷ t) = pick (same w r.who) zero (suc (place_of_who w t))

-- of a record that was in place i of the first table; the second has none of its identity, or another in place k
abbrev pub became : ℕ → Rec → ℕ → Option Rec → List Entry
became i r k none = entry left_kind i ∷ []
became i r k (some q) =
    pick (both (same_octets r.octets q.octets) (same_octets r.sender q.sender))
    (pick (eqb r.left q.left) [] (entry seconds_kind k ∷ []))
    (entry altered_kind k ∷ [])

-- what place i of the first table gives, beside the second table b
abbrev pub of_first : Places → ℕ → Option Rec → List Entry
of_first b i none = []
of_first b i (some r) = became i r (place_of_who r.who b) (lookup r.who b)

-- what place k of the second table gives, beside the first table a
abbrev pub of_second : Places → ℕ → Option Rec → List Entry
of_second a k none = []
of_second a k (some r) = pick (is_some (lookup r.who a)) [] (entry joined_kind k ∷ [])

-- what the places below n give, in their order
unfoldable pub in_order : (ℕ → List Entry) → ℕ → List Entry
in_order f zero = []
in_order f (suc n) = in_order f n ++ f n

-- the first table's places, then the second's (D2)
unfoldable pub entries : Places → Places → List Entry
entries a b = in_order (λ i. of_first b i (get_or a i none)) (length a) ++ in_order (λ k. of_second a k (get_or b k none)) (length b)

-- Octets (D3)

abbrev pub octets_of : List Entry → List ℕ
octets_of [] = []
octets_of (e ∷ l) = e.kind ∷ e.place ∷ octets_of l

-- the n entries at the front of octets, as far as there are
abbrev pub entries_in : ℕ → List ℕ → List Entry
entries_in zero o = []
entries_in (suc n) [] = []
entries_in (suc n) (k ∷ []) = []
entries_in (suc n) (k ∷ p ∷ o) = entry k p ∷ entries_in n o
