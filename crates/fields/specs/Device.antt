-- Device information (T2 to T6): when the field is well formed, by what its ID asks of the string (strings/specs).
-- b is the whole information string of the TLV, so that its length is L: three octets of organization, subtype, ID, s, string.
use Rattle.std.specs.Prelude.{ℕ, ◌+◌, List, [], ◌∷◌, length, get_or, leb, ltb, eqb}
use Rattle.tally.specs.Tests.{pick, all}
use Rattle.strings.specs.Wants.{wanted_of}
use Rattle.strings.specs.declared.Wanted.{Wanted}
use Rattle.strings.specs.declared.Wanted.TheVariants.{Text, Free, Vendor}
use Rattle.fields.specs.declared.Field.{Field}
use Rattle.fields.specs.declared.Field.TheVariants.{Skipped, Malformed, Says}

-- by L, the ID and s
abbrev pub on_wanted : Wanted → ℕ → ℕ → ℕ → Field
on_wanted (Text most) len id s = pick (all (eqb len (6 + s) ∷ leb 1 s ∷ leb s most ∷ [])) (Says id 6) Malformed
on_wanted Free len id s = pick (eqb len (6 + s)) Skipped Malformed
on_wanted Vendor len id s = Skipped

-- there must be an ID at all: L of at least 5
unfoldable pub device_of : List ℕ → Field
device_of b = pick (ltb (length b) 5) Malformed (on_wanted (wanted_of (get_or b 4 0)) (length b) (get_or b 4 0) (get_or b 5 0))
