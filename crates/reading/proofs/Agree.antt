-- The outline and the reading of an LLDPDU agree.
-- It holds for every LLDPDU, valid or not.
use Prim.Native.Nat.{ℕ}
use mathlib.Core.Path.{◌≡◌, refl}
use mathlib.Core.List.{List}
use Rattle.lldpdu.specs.Extent.{extent_of}
use Rattle.lldpdu.specs.Outline.{outline_at, outline_of}
use Rattle.refusal.specs.declared.Refusal.{Refusal}
use Rattle.std.specs.Prelude.{Result, Ok, Err}
use Rattle.walk.specs.Walk.{Extent}
use Rattle.lldpdu.specs.declared.outline.Outline.{Outline}
use Rattle.reading.specs.Reading.{reading_at, reading_of}
use Rattle.reading.specs.declared.Reading.{Reading}

-- what an outline says of a reading
abbrev pub trimmed : Result Reading Refusal → Result Outline Refusal
trimmed (Ok r) =
    Ok (record {
      octets = r.octets;
      chassis = r.description.chassis;
      port = r.description.port;
      seconds = r.description.seconds;
    })
trimmed (Err why) = Err why

pub outline-agrees : (s : List ℕ) → trimmed (reading_of s) ≡ outline_of s
unfolding reading_of outline_of
outline-agrees s = go (extent_of s)
  where
    go : (x : Extent) → trimmed (reading_at x s) ≡ outline_at x s
    go (Err r) = refl
    go (Ok e) = refl
