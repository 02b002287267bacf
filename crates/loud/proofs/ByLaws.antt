-- A place that is asked for a chassis on a port (N13), by its own numbers: each return of the code is one line here.
-- A free place and another port decide at once; else the LLDPDU that is kept does.
use Prim.Native.Nat.{ℕ}
use mathlib.Core.Path.{◌≡◌, sym}
use mathlib.Core.Logic.{◌≢◌}
use mathlib.Core.Bool.{false, not}
use mathlib.Core.List.{List}
use borrow.Author.Tests.{eq-eqb, ne_eqb}
use lib.Dec.{eqb}
use Rattle.tally.proofs.TestsLaws.{both_false}
use Rattle.ids.specs.Id.{Id, same_id}
use Rattle.lldpdu.specs.Extent.{id_in}
use Rattle.rules.specs.Shares.{chassis_is}
use Rattle.place.specs.State.{chassis_in, record_passes}

-- a place with n for a length that was heard on port q and keeps l, asked for chassis c on port p
module _ (n q : ℕ) (l : List ℕ) (p : ℕ) (c : Id) where
  pub by-free : n ≡ 0 → record_passes n q l (chassis_is p c) ≡ false
  by-free e = rw (eq-eqb n 0 e)

  pub by-other : q ≢ p → record_passes n q l (chassis_is p c) ≡ false
  by-other e = rw (ne_eqb q p e, both_false (not (eqb n 0)))

  pub by-chassis : n ≢ 0 → q ≡ p → same_id (id_in l 0) c ≡ record_passes n q l (chassis_is p c)
  unfolding chassis_in
  by-chassis u e = sym (rw (ne_eqb n 0 u, eq-eqb q p e))

pub ruleset otherwise = (by-free, by-other)
