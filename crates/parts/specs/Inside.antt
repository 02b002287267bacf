-- When every part of a description lies inside the text that is lent with it, in a text of n octets (W7).
-- An empty part must lie inside too; a part that begins at the end of the text does.
use Rattle.std.specs.Prelude.{ℕ, ◌-◌, List, [], ◌∷◌, map, Bool, true, leb, Option, Some, None}
use Rattle.tally.specs.Tests.{both, all}
use Rattle.text.specs.Part.{most_parts, parts_in}
use Rattle.text.specs.declared.Part.{Part}
use Rattle.text.specs.declared.Parts.{Parts}
use Rattle.system.specs.declared.System.{System}
use Rattle.reading.specs.declared.Link.{Link}
use Rattle.reading.specs.declared.Description.{Description}

abbrev pub part_inside : ℕ → Part → Bool
part_inside n p = both (leb p.start n) (leb p.len (n - p.start))

-- a count above four says of parts that there are not (W7)
abbrev pub parts_inside : ℕ → Parts → Bool
parts_inside n l = both (leb l.count most_parts) (all (map (part_inside n) (parts_in l)))

abbrev pub system_inside : ℕ → System → List Bool
system_inside n x = part_inside n x.name ∷ part_inside n x.description ∷ parts_inside n x.management ∷ []

abbrev pub link_inside : ℕ → Option Link → Bool
link_inside n None = true
link_inside n (Some l) = all (part_inside n l.interface ∷ part_inside n l.port ∷ part_inside n l.addresses ∷ [])

abbrev pub optional_inside : ℕ → Option Part → Bool
optional_inside n None = true
optional_inside n (Some p) = part_inside n p

abbrev pub part_rules : ℕ → Description → List Bool
part_rules n d =
    part_inside n d.chassis.octets
    ∷ part_inside n d.port.octets
    ∷ part_inside n d.words
    ∷ part_inside n d.category
    ∷ part_inside n d.manufacturer
    ∷ part_inside n d.model
    ∷ part_inside n d.number
    ∷ link_inside n d.link
    ∷ optional_inside n d.extension
    ∷ optional_inside n d.list
    ∷ all (system_inside n d.system)
    ∷ []

unfoldable pub all_inside : ℕ → Description → Bool
all_inside n d = all (part_rules n d)
