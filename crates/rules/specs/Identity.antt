-- The identity of a record (N2): receiving port, chassis and port ID, each of the two with its subtype and its octets.
-- Two agents of one switch share a chassis and differ in port ID; so all of it counts.
use Rattle.std.specs.Prelude.{ℕ, [], ◌∷◌, Bool, eqb}
use Rattle.tally.specs.Tests.{all}
use Rattle.ids.specs.Id.{Id, same_id}

pub record Ident : Type 0 where
  pub port : ℕ
  pub chassis : Id
  pub port_id : Id

unfoldable pub same : Ident → Ident → Bool
same a b = all (eqb a.port b.port ∷ same_id a.chassis b.chassis ∷ same_id a.port_id b.port_id ∷ [])
