-- The ID of a chassis or of a port: a subtype and octets; when it is right (L3, L4), and when two are the same (N2).
-- The code has the octets as a part of a text; `id_meant` says which ID that is.
use Rattle.std.specs.Prelude.{ℕ, ◌%◌, List, [], ◌∷◌, Bool, false, length, get_or, leb, eqb}
use Rattle.tally.specs.Tests.{pick, both, either, all}
use Rattle.tally.specs.Ranges.{all_below}
use Rattle.octets.specs.Address.{same_octets}
use Rattle.text.specs.Part.{text_of}
use Rattle.ids.specs.declared.IdPart.{IdPart}

pub record Id : Type 0 where
  pub subtype : ℕ
  pub octets : List ℕ

abbrev pub id : ℕ → List ℕ → Id
id subtype octets = record { subtype = subtype; octets = octets }

-- the ID whose octets are a part of the text s
abbrev pub id_meant : List ℕ → IdPart → Id
id_meant s p = id p.subtype (text_of s p.octets)

-- The chassis (L3)

-- an address has six octets or eight
abbrev pub address_ok : ℕ → Bool
address_ok n = either (eqb n 6) (eqb n 8)

-- 0 to 9, A to F
abbrev pub digit_ok : ℕ → Bool
digit_ok b = either (both (leb 48 b) (leb b 57)) (both (leb 65 b) (leb b 70))

-- a local address has 1 to 32 pairs of these characters
abbrev pub local_rules : List ℕ → List Bool
local_rules c = leb 2 (length c) ∷ leb (length c) 64 ∷ eqb (length c % 2) 0 ∷ all_below (λ i. digit_ok (get_or c i 0)) (length c) ∷ []

-- subtype 4 is an address, subtype 7 a local one
unfoldable pub chassis_ok : Id → Bool
chassis_ok d = pick (eqb d.subtype 4) (address_ok (length d.octets)) (pick (eqb d.subtype 7) (all (local_rules d.octets)) false)

-- The port ID (L4)

-- by its subtype and the number of its octets
abbrev pub port_rules : ℕ → ℕ → List Bool
port_rules subtype n = leb 1 subtype ∷ leb subtype 7 ∷ leb 1 n ∷ leb n 255 ∷ []

unfoldable pub port_ok : Id → Bool
port_ok d = all (port_rules d.subtype (length d.octets))

-- Two IDs (N2): octets of different number differ

unfoldable pub same_id : Id → Id → Bool
same_id a b = both (eqb a.subtype b.subtype) (same_octets a.octets b.octets)
