-- Computed: two small tables between which one left, one only moved, one has other seconds, one another sender, one other octets and other seconds, and two joined; and the way back.
-- The entries and their octets were written down from D1 to D3 before they were computed.
use Prim.Native.Nat.{ℕ}
use mathlib.Core.Path.{◌≡◌, refl}
use mathlib.Core.List.{[], ◌∷◌}
use mathlib.Core.Option.{none, some}
use Rattle.octets.specs.Address.{same_octets}
use Rattle.ids.specs.Id.{id, same_id}
use Rattle.rules.specs.Identity.{Ident, same}
use Rattle.rules.specs.Model.{Rec, Places}
use Rattle.changes.specs.Entries.{entry, left_kind, joined_kind, seconds_kind, altered_kind, in_order, entries, octets_of}

-- the neighbour of port 3 whose chassis ends in c, with this port ID
abbrev who : ℕ → ℕ → Ident
who c i = record { port = 3; chassis = id 4 (2 ∷ 0 ∷ 0 ∷ 0 ∷ 0 ∷ c ∷ []); port_id = id 7 (i ∷ []) }

-- its record: the seconds left, the last of its octets and of its sender's
abbrev heard : Ident → ℕ → ℕ → ℕ → Rec
heard w left last sender = record { who = w; left = left; octets = 1 ∷ last ∷ []; sender = 2 ∷ 0 ∷ 0 ∷ 0 ∷ 0 ∷ sender ∷ [] }

abbrev before : Places
before =
    some (heard (who 1 49) 60 0 1) ∷ some (heard (who 2 49) 60 0 2) ∷ some (heard (who 2 50) 60 0 2) ∷ some (heard (who 3 49) 60 0 3) ∷ none ∷ some (heard (who 5 49) 60 0 5)
    ∷ []

-- the first left; the second stands in the place of the fourth; the third, of the second's chassis, lost ten seconds; the fourth has another sender; the last has
-- other octets and other seconds
abbrev after : Places
after =
    some (heard (who 4 49) 120 0 4) ∷ some (heard (who 2 50) 50 0 2) ∷ some (heard (who 3 49) 60 0 9) ∷ some (heard (who 2 49) 60 0 2) ∷ some (heard (who 5 49) 120 1 5)
    ∷ some (heard (who 1 50) 120 0 1) ∷ []

pub there : entries before after
    ≡ entry left_kind 0 ∷ entry seconds_kind 1 ∷ entry altered_kind 2 ∷ entry altered_kind 4 ∷ entry joined_kind 0 ∷ entry joined_kind 5 ∷ []
unfolding entries in_order same same_id same_octets
there = refl

pub there-octets : octets_of (entries before after) ≡ 1 ∷ 0 ∷ 3 ∷ 1 ∷ 4 ∷ 2 ∷ 4 ∷ 4 ∷ 2 ∷ 0 ∷ 2 ∷ 5 ∷ []
unfolding entries in_order same same_id same_octets
there-octets = refl

pub and-back : entries after before
    ≡ entry left_kind 0 ∷ entry seconds_kind 2 ∷ entry altered_kind 3 ∷ entry altered_kind 5 ∷ entry left_kind 5 ∷ entry joined_kind 0 ∷ []
unfolding entries in_order same same_id same_octets
and-back = refl

-- the places alone differ
abbrev moved : Places
moved =
    none ∷ some (heard (who 3 49) 60 0 3) ∷ some (heard (who 1 49) 60 0 1) ∷ some (heard (who 5 49) 60 0 5) ∷ some (heard (who 2 50) 60 0 2)
    ∷ some (heard (who 2 49) 60 0 2) ∷ []

pub only-moved : entries before moved ≡ []
unfolding entries in_order same same_id same_octets
only-moved = refl
