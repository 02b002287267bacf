-- The extent of an LLDPDU: the first three TLVs (L3 to L6), then the walk to End; refusals 4 to 6 front to back (R4 to R6, Q1).
-- Each TLV begins where the one before it ends, by the L of that one.
use Rattle.std.specs.Prelude.{ℕ, ◌+◌, ◌-◌, List, Bool, drop, get_or, eqb, Option, Some, None, Result, Ok, Err}
use Rattle.tally.specs.Tests.{pick, both}
use Rattle.octets.specs.Header.{length_in}
use Rattle.text.specs.Part.{part}
use Rattle.ids.specs.Id.{Id, id_meant, chassis_ok, port_ok}
use Rattle.ids.specs.declared.IdPart.{IdPart}
use Rattle.refusal.specs.declared.Refusal.{Refusal}
use Rattle.refusal.specs.declared.Refusal.TheVariants.{NotAsDue, RunsPast}
use Rattle.walk.specs.Walk.{Extent, head_of, Walked, walk}
use Rattle.walk.specs.declared.Head.{Head}

-- the number of octets, 0 where it is refused
abbrev pub octets_in : Extent → ℕ
octets_in (Ok e) = e
octets_in (Err r) = 0

-- Where the first three stand, whatever they are

-- L of the TLV at a place
abbrev pub length_at : List ℕ → ℕ → ℕ
length_at s at = length_in (get_or s at 0) (get_or s (at + 1) 0)

-- TLV 2 begins behind TLV 1, and TLV 3 behind TLV 2
unfoldable pub port_place : List ℕ → ℕ
port_place s = 2 + length_at s 0

unfoldable pub seconds_place : List ℕ → ℕ
seconds_place s = port_place s + 2 + length_at s (port_place s)

-- behind TLV 3, which has four octets where it is as it should be
abbrev pub rest_place : List ℕ → ℕ
rest_place s = seconds_place s + 4

-- the ID in the TLV at a place: its subtype, and the octets behind that (L3, L4); with L = 0 it has no octets, and so is never right
abbrev pub id_at : List ℕ → ℕ → IdPart
id_at s at = record { subtype = get_or s (at + 2) 0; octets = part (at + 3) (length_at s at - 1) }

abbrev pub id_in : List ℕ → ℕ → Id
id_in s at = id_meant s (id_at s at)

-- What they must be

-- L3, L4: the type, and the ID behind the header
abbrev pub is_chassis : List ℕ → ℕ → Bool
is_chassis s kind = both (eqb kind 1) (chassis_ok (id_in s 0))

abbrev pub is_port : List ℕ → ℕ → Bool
is_port s kind = both (eqb kind 2) (port_ok (id_in s (port_place s)))

-- L5: type and L
abbrev pub seconds_ok : ℕ → ℕ → Bool
seconds_ok kind len = both (eqb kind 3) (eqb len 2)

-- one of the first three TLVs: it runs past the end, 5; it is not as it should be, 4; else what follows decides
abbrev pub need : {A : Type 0} → Option Head → (ℕ → ℕ → Bool) → Result A Refusal → Result A Refusal
need None ok next = Err RunsPast
need (Some h) ok next = pick (ok h.kind h.len) next (Err NotAsDue)

-- the walk behind the first three
abbrev pub rest_of : List ℕ → Walked
rest_of s = walk (drop (rest_place s) s) 0 (rest_place s)

unfoldable pub behind_port : List ℕ → Extent
behind_port s = need (head_of (drop (seconds_place s) s)) seconds_ok (rest_of s).extent

unfoldable pub behind_chassis : List ℕ → Extent
behind_chassis s = need (head_of (drop (port_place s) s)) (λ kind len. is_port s kind) (behind_port s)

unfoldable pub extent_of : List ℕ → Extent
extent_of s = need (head_of (drop 0 s)) (λ kind len. is_chassis s kind) (behind_chassis s)
