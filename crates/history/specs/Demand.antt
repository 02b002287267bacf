-- Demand 3 as one record: each field is a sentence of it, of the table t that the history h led to, with n ports; [ ] has a number that follows from n.
-- `reply n p x t` is what table t answers to what is heard on port p; `held n h p` is how many neighbours the history gives the port.
use Rattle.std.specs.Prelude.{ℕ, ◌+◌, ◌≤◌, ◌<◌, ◌≡◌, ◌≢◌, ◌↔◌, true, false, List, [], ◌∷◌, Ok, Err, eqb, length, get_or}
use Rattle.std.proofs.Math.Option.{none, some}
use Rattle.tally.specs.Tests.{pick}
use Rattle.refusal.specs.declared.Refusal.TheVariants as refusal
use Rattle.ids.specs.Id.{Id}
use Rattle.rules.specs.Identity.{Ident}
use Rattle.rules.specs.Events.{Announcement, Heard, says, History, whose}
use Rattle.rules.specs.Shares.{sure, most, per_chassis, common_for, beyond}
use Rattle.rules.specs.declared.Reply.TheVariants.{Recorded, Refreshed, Gone, UnknownGoodbye}
use Rattle.rules.specs.Model.{Rec, Places, holds_in, holds_of, reply}
use Rattle.rules.specs.Fit.{Once}
use Rattle.history.specs.Past.{among, held, held_of, answer}
use Rattle.history.specs.Words.{Last, Neighbour}

-- some place of the table has the record r
abbrev pub Has : Places → Rec → Type 0
Has t r = (k : ℕ) × (get_or t k none ≡ some r)

-- some place has a record of w
pub record Knows (t : Places) (w : Ident) : Type 0 where
  pub rec : Rec
  pub there : Has t rec
  pub own : rec.who ≡ w

-- "a valid new one with time to live": heard on a port that there is, of an identity that is no neighbour after h, with seconds above 0
pub record New (n : ℕ) (h : History) (p : ℕ) (a : Announcement) : Type 0 where
  pub port : p < n
  pub unknown : ¬ Neighbour n h (whose p a)
  pub lives : a.seconds ≢ 0

-- "the [2n] common places are taken"
abbrev pub CommonTaken : ℕ → History → Type 0
CommonTaken n h = beyond n (held n h) ≡ common_for n

-- asked for later: "this chassis already holds three on this port"
abbrev pub Loud : ℕ → History → ℕ → Announcement → Type 0
Loud n h p a = held_of n h p a.chassis ≡ per_chassis

-- no identity occurs twice in a list
abbrev pub Distinct : List Ident → Type 0
Distinct [] = Unit {0}
Distinct (v ∷ l) = (among v l ≡ false) × Distinct l

pub record Demand3 (n : ℕ) (h : History) (t : Places) : Type 0 where
  -- "After every call the table holds exactly those neighbours whose latest recorded announcement (first or repeat) has time left,
  -- with no goodbye and no lost link on its port since,
  pub exactly : (w : Ident) → Knows t w ↔ Neighbour n h w
  -- and it holds that announcement's octets."
  pub octets : (r : Rec) (a : Announcement) (since : ℕ) → Has t r → Last n h r.who a since → r.octets ≡ a.octets
  -- asked for later: "the latest recorded announcement's octets and its sender"
  pub sender : (r : Rec) (a : Announcement) (since : ℕ) → Has t r → Last n h r.who a since → r.sender ≡ a.sender
  -- with the seconds that are left of it
  pub seconds_left : (r : Rec) (a : Announcement) (since : ℕ) → Has t r → Last n h r.who a since → since + r.left ≡ a.seconds
  -- and in one place
  pub once : Once t
  -- every frame is answered as the history says
  pub answers : (p : ℕ) (x : Heard) → reply n p x t ≡ answer n h p x
  -- "A port with fewer than two neighbours always gets a valid new one with time to live recorded, whatever the other [n - 1] carried.":
  -- still so, since a chassis with three means a port with three
  pub sure_places : (p : ℕ) (a : Announcement) → New n h p a → held n h p < sure → reply n p (says a) t ≡ Ok Recorded
  -- "No port ever holds more than six.": with six it refuses with 13 where the chassis holds three there, else with 7
  pub six : (p : ℕ) → holds_in t p ≤ most
  pub seventh : (p : ℕ) (a : Announcement) → New n h p a → held n h p ≡ most
      → (Loud n h p a → reply n p (says a) t ≡ Err refusal.ChassisLoud) × (¬ Loud n h p a → reply n p (says a) t ≡ Err refusal.PortFull)
  -- "A port with two to five is refused such a one exactly when the [2n] common places are taken."; asked for later: "exactly on 13 or 8":
  -- with 13 where the chassis holds three there; where it does not, with 8 if the common places are taken, and else it is recorded
  pub common_places : (p : ℕ) (a : Announcement) → New n h p a → sure ≤ held n h p → held n h p < most
      → (Loud n h p a → reply n p (says a) t ≡ Err refusal.ChassisLoud)
      × ((¬ Loud n h p a → CommonTaken n h → reply n p (says a) t ≡ Err refusal.CommonTaken)
      × (¬ Loud n h p a → ¬ CommonTaken n h → reply n p (says a) t ≡ Ok Recorded))
  -- asked for later: "Let one chassis hold at most three records on one port."
  pub three : (p : ℕ) (c : Id) → held_of n h p c ≤ per_chassis
  -- "A known neighbour is never refused for room.", nor for its chassis, and neither is its goodbye
  pub known : (p : ℕ) (a : Announcement) → Neighbour n h (whose p a) → reply n p (says a) t ≡ Ok (pick (eqb a.seconds 0) Gone Refreshed)
  -- asked for later: only a new one with "TTL above 0" is refused for its chassis; so a goodbye of one that is no neighbour is answered as it was
  pub goodbye : (p : ℕ) (a : Announcement) → p < n → ¬ Neighbour n h (whose p a) → a.seconds ≡ 0 → reply n p (says a) t ≡ Ok UnknownGoodbye
  -- how many a port holds is the history's number, and that is the number of its neighbours: the length of any list of them
  pub how_many : (p : ℕ) → holds_in t p ≡ held n h p
  pub counted : (p : ℕ) (l : List Ident) → Distinct l → ((w : Ident) → (among w l ≡ true) ↔ ((w.port ≡ p) × Neighbour n h w)) → length l ≡ held n h p
  -- and so for how many of these are of one chassis
  pub how_many_of : (p : ℕ) (c : Id) → holds_of t p c ≡ held_of n h p c
  pub counted_of : (p : ℕ) (c : Id) (l : List Ident) → Distinct l
      → ((w : Ident) → (among w l ≡ true) ↔ ((w.port ≡ p) × ((w.chassis ≡ c) × Neighbour n h w))) → length l ≡ held_of n h p c
