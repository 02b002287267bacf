-- A part of a text, and its octets; a part that may be absent; then up to four parts, in order.
-- Of a part that reaches past the text there is as much as the text has.
use Rattle.std.specs.Prelude.{ℕ, ◌+◌, List, map, take, drop, set, replicate, ltb, Option as CodeOption, Some, None}
use Rattle.std.proofs.Math.Option.{Option, none, some}
use Rattle.tally.specs.Tests.{pick}
use Rattle.text.specs.declared.Part.{Part}
use Rattle.text.specs.declared.Parts.{Parts}

abbrev pub part : ℕ → ℕ → Part
part start len = record { start = start; len = len }

-- the octets of a part of the text s
abbrev pub text_of : List ℕ → Part → List ℕ
text_of s p = take p.len (drop p.start s)

abbrev pub nowhere : Part
nowhere = part 0 0

-- an absent part differs from an empty one (A3)
abbrev pub optional_text : List ℕ → CodeOption Part → Option (List ℕ)
optional_text s None = none
optional_text s (Some p) = some (text_of s p)

-- Several parts: those below the count, of the four that there is room for

abbrev pub most_parts : ℕ
most_parts = 4

abbrev pub empty_parts : Parts
empty_parts = record { count = 0; parts = replicate most_parts nowhere }

-- with one part more; a fifth is left out
unfoldable pub with_part : Parts → Part → Parts
with_part l p = pick (ltb l.count most_parts) (record { count = l.count + 1; parts = set l.parts l.count p }) l

abbrev pub parts_in : Parts → List Part
parts_in l = take l.count l.parts

-- the octets of each
abbrev pub texts_of : List ℕ → Parts → List (List ℕ)
texts_of s l = map (text_of s) (parts_in l)
