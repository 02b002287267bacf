-- Octets behind the End TLV never matter (L8) to who sees an address.
-- A valid LLDPDU followed by anything else names the same.
use Prim.Native.Nat.{ℕ}
use mathlib.Core.Path.{◌≡◌, ap}
use mathlib.Core.List.{List, ◌++◌}
use lib.ListN.{take}
use Rattle.walk.specs.Walk.{Walked}
use Rattle.lldpdu.specs.Extent.{extent_of}
use Rattle.std.specs.Prelude.{Ok}
use Rattle.lldpdu.proofs.Stable.{front, extent-stable}
use Rattle.naming.specs.Naming.{first_naming, naming_of}

pub naming-stable : (s t : List ℕ) (e : ℕ) → extent_of s ≡ Ok e → (a : List ℕ) → naming_of (take e s ++ t) a ≡ naming_of s a
unfolding naming_of
naming-stable s t e v a = rw (extent-stable s t e v, v, ap (λ (w : Walked). first_naming a w.tlvs) (front s t e v).rest)
