-- Laws of identity as the code asks it: by the first two TLVs of an LLDPDU, by its outline, and by the numbers of a place (N2).
-- A free place and another port decide at once; else the LLDPDU that is kept does.
use Prim.Native.Nat.{ℕ}
use mathlib.Core.Path.{◌≡◌, refl, sym, ap, ◌∙◌}
use mathlib.Core.Bool.{not}
use mathlib.Core.List.{List}
use lib.Dec.{eqb}
use Rattle.tally.specs.Tests.{both}
use Rattle.tally.proofs.TestsLaws.{both_end}
use Rattle.ids.specs.Id.{Id, id_meant, same_id}
use Rattle.std.specs.Prelude.{Ok, Err}
use Rattle.walk.specs.Walk.{Extent}
use Rattle.lldpdu.specs.Extent.{port_place, id_in, extent_of}
use Rattle.lldpdu.specs.Outline.{outline_in, outline_at, outline_of}
use Rattle.lldpdu.specs.declared.outline.Outline.{Outline}
use Rattle.rules.specs.Identity.{same}
use Rattle.place.specs.State.{ident, chassis_in, port_id_in, whose_in, is_from, record_is}

-- the outline of a valid LLDPDU tells its identity
module _ (l : List ℕ) {o : Outline} (d : outline_of l ≡ Ok o) where
  valid-is : outline_in o.octets l ≡ o
  unfolding outline_of
  valid-is = go (extent_of l) d
    where
      go : (x : Extent) → outline_at x l ≡ Ok o → outline_in o.octets l ≡ o
      go (Ok e) q =
          let i : outline_in e l ≡ o = cc in
          ap (λ (x : Outline). outline_in x.octets l) (sym i) ∙ i
      go (Err r) q = absurd (cc)

  pub outline-ident : (p : ℕ) → ident p (id_meant l o.chassis) (id_meant l o.port) ≡ whose_in p l
  unfolding chassis_in port_id_in
  outline-ident p = ap (λ (x : Outline). ident p (id_meant l x.chassis) (id_meant l x.port)) (sym valid-is)

-- an LLDPDU, by its first two TLVs
pub from_by : (l : List ℕ) (c i : Id) → is_from l c i ≡ both (same_id (id_in l 0) c) (same_id (id_in l (port_place l)) i)
unfolding is_from same chassis_in port_id_in
from_by l c i = rw both_end

-- a place with n for a length that was heard on port q and keeps l, asked for an identity on port p
pub of_by : (n q : ℕ) (l : List ℕ) (p : ℕ) (c i : Id) → record_is n q l (ident p c i) ≡ both (not (eqb n 0)) (both (eqb q p) (is_from l c i))
unfolding is_from same
of_by n q l p c i = refl
