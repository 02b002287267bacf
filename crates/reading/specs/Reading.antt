-- The reading of an LLDPDU as the code answers it: numbers, and parts of the LLDPDU.
-- What it means, in lists of octets, is specs/Meaning.antt.
use Rattle.std.specs.Prelude.{ℕ, ◌+◌, ◌*◌, List, eqb, Result, Ok, Err, Option, Some, None}
use Rattle.tally.specs.Tests.{pick}
use Rattle.links.specs.Link.{type_count, number_count, address_count}
use Rattle.fields.specs.Field.{port_description, category, manufacturer, model_name, model_number, link, address_list, extension}
use Rattle.walk.specs.Walk.{Extent}
use Rattle.lldpdu.specs.Extent.{rest_of, extent_of}
use Rattle.lldpdu.specs.Outline.{outline_in}
use Rattle.text.specs.Part.{part, text_of}
use Rattle.text.specs.declared.Part.{Part}
use Rattle.found.specs.Found.{part_at, mark_of, nothing, gather, htip_in}
use Rattle.system.specs.System.{system_at}
use Rattle.refusal.specs.declared.Refusal.{Refusal}
use Rattle.lldpdu.specs.declared.outline.Outline.{Outline}
use Rattle.found.specs.declared.Mark.{Mark}
use Rattle.found.specs.declared.Found.{Found}
use Rattle.reading.specs.declared.Link.{Link}
use Rattle.reading.specs.declared.Description.{Description}
use Rattle.reading.specs.declared.Reading.{Reading}

-- n, the interface type, m, the port number, k and the addresses, from a place on (T7)
abbrev pub table_at : ℕ → ℕ → ℕ → ℕ → Link
table_at at n m k = record { interface = part (at + 1) n; port = part (at + 2 + n) m; addresses = part (at + 3 + n + m) (6 * k) }

-- with the counts that stand in its content c
abbrev pub table_in : List ℕ → ℕ → Link
table_in c at = table_at at (type_count 0 c) (number_count 0 c) (address_count 0 c)

-- the content is what the mark delimits; nothing else is read (L2)
unfoldable pub link_at : List ℕ → Mark → Option Link
link_at s m = pick (eqb m.times 0) None (Some (table_in (text_of s (part_at m)) m.start))

unfoldable pub optional_at : Mark → Option Part
optional_at m = pick (eqb m.times 0) None (Some (part_at m))

-- chassis, port ID and seconds are those of the outline o
abbrev pub description_at : List ℕ → Outline → Found → Description
description_at s o f =
    record {
      chassis = o.chassis;
      port = o.port;
      seconds = o.seconds;
      words = part_at (mark_of port_description f);
      category = part_at (mark_of category f);
      manufacturer = part_at (mark_of manufacturer f);
      model = part_at (mark_of model_name f);
      number = part_at (mark_of model_number f);
      link = link_at s (mark_of link f);
      extension = optional_at (mark_of extension f);
      list = optional_at (mark_of address_list f);
      system = system_at s f;
    }

abbrev pub found_in : List ℕ → Found
found_in s = gather nothing (rest_of s).tlvs

-- a refusal fixes the whole answer (Q2)
abbrev pub reading_at : Extent → List ℕ → Result Reading Refusal
reading_at (Err r) s = Err r
reading_at (Ok e) s = Ok (record { octets = e; htip = htip_in (found_in s); description = description_at s (outline_in e s) (found_in s) })

unfoldable pub reading_of : List ℕ → Result Reading Refusal
reading_of s = reading_at (extent_of s) s
