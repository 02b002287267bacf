-- A description as octets (X5), for a caller that has no structs of ours: how it is written down, and which description octets mean.
-- Numbers have two octets, high octet first; a part is its start and its length; presence is 0 or 1, and what is absent is 0.
use Rattle.std.specs.Prelude.{ℕ, ◌+◌, List, [], ◌∷◌, ◌++◌, Bool, length, get_or, eqb, ltb, Option, Some, None}
use Rattle.tally.specs.Tests.{pick, all}
use Rattle.octets.specs.Numbers.{pair_of, two_octets}
use Rattle.text.specs.Part.{part, nowhere, parts_in}
use Rattle.text.specs.declared.Part.{Part}
use Rattle.text.specs.declared.Parts.{Parts}
use Rattle.ids.specs.declared.IdPart.{IdPart}
use Rattle.system.specs.declared.Capabilities.{Capabilities}
use Rattle.system.specs.declared.System.{System}
use Rattle.reading.specs.declared.Link.{Link}
use Rattle.reading.specs.declared.Description.{Description}

-- how many octets a description has
abbrev pub size : ℕ
size = 85

-- Written down

abbrev pub part_octets : Part → List ℕ
part_octets p = two_octets p.start ++ two_octets p.len

abbrev pub id_octets : IdPart → List ℕ
id_octets i = i.subtype ∷ part_octets i.octets

-- presence, and a part; that of what is absent is 0
abbrev pub optional_octets : Option Part → List ℕ
optional_octets None = 0 ∷ part_octets nowhere
optional_octets (Some p) = 1 ∷ part_octets p

abbrev pub table_octets : Link → List ℕ
table_octets l = part_octets l.interface ++ (part_octets l.port ++ part_octets l.addresses)

abbrev pub link_octets : Option Link → List ℕ
link_octets None = 0 ∷ table_octets (record { interface = nowhere; port = nowhere; addresses = nowhere })
link_octets (Some l) = 1 ∷ table_octets l

abbrev pub sets_octets : Capabilities → List ℕ
sets_octets c = two_octets c.able ++ two_octets c.enabled

abbrev pub flags_octets : Option Capabilities → List ℕ
flags_octets None = 0 ∷ sets_octets (record { able = 0; enabled = 0 })
flags_octets (Some c) = 1 ∷ sets_octets c

-- how many parts, and room for four; a part that there is not is 0
abbrev pub parts_octets : List Part → List ℕ
parts_octets l =
    length l ∷ (part_octets (get_or l 0 nowhere) ++ (part_octets (get_or l 1 nowhere) ++ (part_octets (get_or l 2 nowhere) ++ part_octets (get_or l 3 nowhere))))

-- chassis, port ID and seconds, which stand in front
abbrev pub front_octets : Description → List ℕ
front_octets d = id_octets d.chassis ++ (id_octets d.port ++ two_octets d.seconds)

abbrev pub strings_octets : Description → List ℕ
strings_octets d =
    part_octets d.words ++ (part_octets d.category ++ (part_octets d.manufacturer ++ (part_octets d.model ++ part_octets d.number)))

abbrev pub optional_fields_octets : Description → List ℕ
optional_fields_octets d = link_octets d.link ++ (optional_octets d.extension ++ optional_octets d.list)

abbrev pub system_octets : System → List ℕ
system_octets x = part_octets x.name ++ (part_octets x.description ++ (flags_octets x.capabilities ++ parts_octets (parts_in x.management)))

unfoldable pub description_octets : Description → List ℕ
description_octets d = front_octets d ++ (strings_octets d ++ (optional_fields_octets d ++ system_octets d.system))

-- Meant by octets o, from a place on

abbrev pub number_from : List ℕ → ℕ → ℕ
number_from o at = pair_of (get_or o at 0) (get_or o (at + 1) 0)

abbrev pub part_from : List ℕ → ℕ → Part
part_from o at = part (number_from o at) (number_from o (at + 2))

abbrev pub id_from : List ℕ → ℕ → IdPart
id_from o at = record { subtype = get_or o at 0; octets = part_from o (at + 1) }

abbrev pub is_there : List ℕ → ℕ → Bool
is_there o at = eqb (get_or o at 0) 1

-- what is absent is not looked at
abbrev pub optional_from : List ℕ → ℕ → Option Part
optional_from o at = pick (is_there o at) (Some (part_from o (at + 1))) None

abbrev pub link_from : List ℕ → ℕ → Option Link
link_from o at =
    pick (is_there o at) (Some (record { interface = part_from o (at + 1); port = part_from o (at + 5); addresses = part_from o (at + 9) })) None

abbrev pub flags_from : List ℕ → ℕ → Option Capabilities
flags_from o at = pick (is_there o at) (Some (record { able = number_from o (at + 1); enabled = number_from o (at + 3) })) None

abbrev pub parts_from : List ℕ → ℕ → Parts
parts_from o at =
    record {
      count = get_or o at 0;
      parts = part_from o (at + 1) ∷ part_from o (at + 5) ∷ part_from o (at + 9) ∷ part_from o (at + 13) ∷ [];
    }

abbrev pub system_from : List ℕ → ℕ → System
system_from o at =
    record {
      name = part_from o at;
      description = part_from o (at + 4);
      capabilities = flags_from o (at + 8);
      management = parts_from o (at + 13);
    }

unfoldable pub description_in : List ℕ → Description
description_in o =
    record {
      chassis = id_from o 0;
      port = id_from o 5;
      seconds = number_from o 10;
      words = part_from o 12;
      category = part_from o 16;
      manufacturer = part_from o 20;
      model = part_from o 24;
      number = part_from o 28;
      link = link_from o 32;
      extension = optional_from o 45;
      list = optional_from o 50;
      system = system_from o 55;
    }

-- each presence is 0 or 1: link information, extension link information, address list, capabilities
unfoldable pub presences_ok : List ℕ → Bool
presences_ok o = all (ltb (get_or o 32 0) 2 ∷ ltb (get_or o 45 0) 2 ∷ ltb (get_or o 50 0) 2 ∷ ltb (get_or o 63 0) 2 ∷ [])
