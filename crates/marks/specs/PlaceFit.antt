-- When a place is fit by itself (N5 b, c): free and empty, or used by a whole valid LLDPDU with time left, zeros behind it, and a sender that is no group address.
-- The length of the buffer, the shares, and that no identity occurs twice are asked of the whole table (fitness/specs/Fit.antt).
use Rattle.std.specs.Prelude.{ℕ, Bool, false, not, List, [], ◌∷◌, length, take, drop, leb, ltb, eqb, Ok, Err}
use Rattle.tally.specs.Tests.{pick, all}
use Rattle.octets.specs.Address.{same_octets, is_group}
use Rattle.whole.specs.Whole.{zeros}
use Rattle.walk.specs.Walk.{Extent}
use Rattle.lldpdu.specs.Extent.{extent_of}
use Rattle.lldpdu.specs.Outline.{outline_of, seconds_told}
use Rattle.numbers.specs.Sizes.{ports}
use Rattle.place.specs.State.{Place, size, six_zeros}

-- valid, and of exactly n octets
abbrev pub exactly : Extent → ℕ → Bool
exactly (Ok e) n = eqb e n
exactly (Err r) n = false

-- N5 (b), of port, seconds left, sender and octets
abbrev pub free_tests : ℕ → ℕ → List ℕ → List ℕ → List Bool
free_tests p left sender b = eqb p 0 ∷ eqb left 0 ∷ same_octets sender six_zeros.octets ∷ zeros b ∷ []

unfoldable pub ok_free : Place → Bool
ok_free x = all (free_tests x.port x.seconds x.sender x.body)

-- N5 (c): a whole valid LLDPDU l, with 1 to its seconds left
unfoldable pub whole : List ℕ → ℕ → Bool
whole l left = all (exactly (extent_of l) (length l) ∷ leb 1 left ∷ leb left (seconds_told (outline_of l)) ∷ [])

-- N5 (c): port, sender (F4), length, LLDPDU with its seconds, zeros behind it
abbrev pub used_tests : Place → List Bool
used_tests x =
    ltb x.port ports
    ∷ not (is_group x.sender)
    ∷ leb x.len size
    ∷ whole (take x.len x.body) x.seconds
    ∷ zeros (drop x.len x.body)
    ∷ []

unfoldable pub ok_used : Place → Bool
ok_used x = all (used_tests x)

unfoldable pub ok_place : Place → Bool
ok_place x = pick (eqb x.len 0) (ok_free x) (ok_used x)
