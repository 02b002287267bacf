-- The outline of an LLDPDU: its octets, chassis, port ID and seconds (A1).
-- Nothing stands beside a refusal, so that it fixes the whole answer (Q2).
use Rattle.std.specs.Prelude.{ℕ, ◌+◌, List, get_or, Result, Ok, Err}
use Rattle.octets.specs.Numbers.{pair_of}
use Rattle.refusal.specs.declared.Refusal.{Refusal}
use Rattle.walk.specs.Walk.{Extent}
use Rattle.lldpdu.specs.Extent.{port_place, seconds_place, id_at, extent_of}
use Rattle.lldpdu.specs.declared.outline.Outline.{Outline}

-- seconds to live stand behind the two octets of TLV 3's header (L5)
abbrev pub seconds_in : List ℕ → ℕ
seconds_in s = pair_of (get_or s (seconds_place s + 2) 0) (get_or s (seconds_place s + 3) 0)

-- by the first three TLVs, with a number of octets
abbrev pub outline_in : ℕ → List ℕ → Outline
outline_in e s = record { octets = e; chassis = id_at s 0; port = id_at s (port_place s); seconds = seconds_in s }

abbrev pub outline_at : Extent → List ℕ → Result Outline Refusal
outline_at (Ok e) s = Ok (outline_in e s)
outline_at (Err r) s = Err r

unfoldable pub outline_of : List ℕ → Result Outline Refusal
outline_of s = outline_at (extent_of s) s

-- the extent of an outline, and its seconds, of which a refusal has 0
abbrev pub extent_in : Result Outline Refusal → Extent
extent_in (Ok o) = Ok o.octets
extent_in (Err r) = Err r

abbrev pub seconds_told : Result Outline Refusal → ℕ
seconds_told (Ok o) = o.seconds
seconds_told (Err r) = 0
