-- The shares (N12, N13): two sure places for each port, the others common, no more than six for one port, and no more than three of them for one chassis.
-- All of it is over the number n of ports and over a function that counts.
use Rattle.std.specs.Prelude.{ℕ, ◌-◌, ◌*◌, Bool, ltb, eqb}
use Rattle.tally.specs.Tests.{pick, both}
use Rattle.tally.specs.Counts.{sum}
use Rattle.ids.specs.Id.{Id, same_id}
use Rattle.rules.specs.Identity.{Ident}
use Rattle.rules.specs.declared.Room.{Room}
use Rattle.rules.specs.declared.Room.TheVariants.{Enough, Loud, Full, Taken}

abbrev pub sure : ℕ
sure = 2

abbrev pub most : ℕ
most = 6

-- what one chassis may hold on one port (N13)
abbrev pub per_chassis : ℕ
per_chassis = 3

abbrev pub common_for : ℕ → ℕ
common_for n = 2 * n

abbrev pub places_for : ℕ → ℕ
places_for n = 4 * n

-- how many common places are taken, where port q holds `held q` (N5 f)
unfoldable pub beyond : ℕ → (ℕ → ℕ) → ℕ
beyond n held = sum (λ q. held q - sure) n

-- a new record on port p, of a chassis that holds `own` there: R13 where these are three, R7 where the port holds six, R8 where it holds two to five
-- and the common places are taken
unfoldable pub share : ℕ → (ℕ → ℕ) → ℕ → ℕ → Room
share n held own p =
    pick (eqb own per_chassis) Loud
    (pick (ltb (held p) sure) Enough (pick (eqb (held p) most) Full (pick (eqb (beyond n held) (common_for n)) Taken Enough)))

abbrev pub port_is : ℕ → Ident → Bool
port_is q w = eqb w.port q

-- heard on port q from chassis c, by its subtype and its octets (N13)
abbrev pub chassis_is : ℕ → Id → Ident → Bool
chassis_is q c w = both (port_is q w) (same_id w.chassis c)

-- for a new identity w, where `number g` records have an identity that passes g
unfoldable pub room : ℕ → ((Ident → Bool) → ℕ) → Ident → Room
room n number w = share n (λ q. number (port_is q)) (number (chassis_is w.port w.chassis)) w.port
