-- What happens to a table: a frame on a port, seconds that pass, a link that is lost; and histories of these.
-- Of a frame only what the reader says of it counts.
use Rattle.std.specs.Prelude.{ℕ, List}
use Rattle.refusal.specs.declared.Refusal.{Refusal}
use Rattle.ids.specs.Id.{Id}
use Rattle.rules.specs.Identity.{Ident}

-- what a valid frame says, as far as a table asks: identity but for the port, seconds to live, the octets of its LLDPDU, and its source (N3)
pub record Announcement : Type 0 where
  pub chassis : Id
  pub port_id : Id
  pub seconds : ℕ
  pub octets : List ℕ
  pub sender : List ℕ

-- what the reader says of a frame: why it is refused, or what the frame says
pub data Heard : Type 0 where
  unread : Refusal → Heard
  says : Announcement → Heard

pub data Event : Type 0 where
  frame : ℕ → Heard → Event
  passed : ℕ → Event
  lost : ℕ → Event

-- newest first
abbrev pub History : Type 0
History = List Event

-- the identity of what is heard on a port
abbrev pub whose : ℕ → Announcement → Ident
whose p a = record { port = p; chassis = a.chassis; port_id = a.port_id }
