-- The layout of a capture (C1, C2): numbers of four octets in either order, the file header, the header of a record.
-- `low` says that the low octet of every number stands first. Where octets are missing, they read as 0.
use Rattle.std.specs.Prelude.{ℕ, ◌+◌, List, [], ◌∷◌, Bool, true, false, get_or, eqb}
use Rattle.tally.specs.Tests.{pick, both}
use Rattle.octets.specs.Numbers.{value_of}
use Rattle.capture.specs.declared.Layout.{Layout}
use Rattle.capture.specs.declared.Layout.TheVariants.{HighFirst, LowFirst, Foreign}

-- four octets as one number
abbrev pub ordered : Bool → ℕ → ℕ → ℕ → ℕ → ℕ
ordered low a b c d = pick low (value_of (d ∷ c ∷ b ∷ a ∷ [])) (value_of (a ∷ b ∷ c ∷ d ∷ []))

-- the number in the four octets at i
unfoldable pub word : Bool → List ℕ → ℕ → ℕ
word low l i = ordered low (get_or l i 0) (get_or l (i + 1) 0) (get_or l (i + 2) 0) (get_or l (i + 3) 0)

-- The file header (C1)

abbrev pub file_header : ℕ
file_header = 24

abbrev pub magic : ℕ
magic = 0xA1B2_C3D4

abbrev pub ethernet : ℕ
ethernet = 1

-- read in this order it has the magic and the link type, by all of its four octets (C2)
unfoldable pub opens : Bool → List ℕ → Bool
opens low l = both (eqb (word low l 0) magic) (eqb (word low l 20) ethernet)

unfoldable pub layout_of : List ℕ → Layout
layout_of l = pick (opens false l) HighFirst (pick (opens true l) LowFirst Foreign)

-- The header of a record (C1)

abbrev pub record_header : ℕ
record_header = 16

abbrev pub stamp : Bool → List ℕ → ℕ
stamp low l = word low l 0

abbrev pub captured : Bool → List ℕ → ℕ
captured low l = word low l 8

abbrev pub original : Bool → List ℕ → ℕ
original low l = word low l 12
