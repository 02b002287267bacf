-- What a broken agent can do at most (N13): it invents port IDs, and all of its frames come on one port from one chassis.
-- Their port IDs, seconds, octets and senders are any; a frame that the reader refuses changes nothing, and may stand among them.
use Rattle.std.specs.Prelude.{ℕ, ◌+◌, ◌≤◌, ◌≡◌, ◌≢◌, false, [], ◌∷◌}
use Rattle.ids.specs.Id.{Id}
use Rattle.rules.specs.Identity.{Ident}
use Rattle.rules.specs.Events.{unread, says, Event, frame, passed, lost, History}
use Rattle.rules.specs.Shares.{per_chassis, chassis_is}
use Rattle.rules.specs.Model.{Places, lookup, holds_in, holds_of}

-- a frame on port p that names chassis c, or that the reader refuses
abbrev pub OfChassis : ℕ → Id → Event → Type 0
OfChassis p c (frame q (unread k)) = Unit {0}
OfChassis p c (frame q (says a)) = (q ≡ p) × (a.chassis ≡ c)
OfChassis p c (passed s) = ⊥
OfChassis p c (lost q) = ⊥

abbrev pub AllOfChassis : ℕ → Id → History → Type 0
AllOfChassis p c [] = Unit {0}
AllOfChassis p c (e ∷ later) = OfChassis p c e × AllOfChassis p c later

-- what such frames can make of a table t that then is u
pub record AtMost (t u : Places) (p : ℕ) (c : Id) : Type 0 where
  -- the chassis holds at most three
  pub three : holds_of u p c ≤ per_chassis
  -- the port holds more by what the chassis holds more, and by nothing else
  pub grown : holds_in u p + holds_of t p c ≡ holds_in t p + holds_of u p c
  -- every other port holds what it held
  pub elsewhere : (q : ℕ) → q ≢ p → holds_in u q ≡ holds_in t q
  -- everyone else has the record that it had, or still none
  pub others : (w : Ident) → chassis_is p c w ≡ false → lookup w u ≡ lookup w t
