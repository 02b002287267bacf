-- A frame on a port (N7): the answer, the four arrays and every octet of the buffer, refusals among them.
-- The room rule is that of rules/specs/Shares.antt, over the number of records that pass a test.
use Rattle.std.specs.Prelude.{ℕ, ◌≡◌, Bool, not, List, [], ◌∷◌, Ok, Err, take, ltb, leb, eqb}
use Rattle.tally.specs.Tests.{pick, both, all}
use Rattle.tally.specs.Due.{first_due}
use Rattle.refusal.specs.Refusal.{refusal_of}
use Rattle.refusal.specs.declared.Refusal.TheVariants.{Unfit, NoPort, NoFrame, PortFull, CommonTaken, ChassisLoud}
use Rattle.walk.specs.Walk.{Extent}
use Rattle.lldpdu.specs.Extent.{extent_of}
use Rattle.reader.specs.Frame.{source_of, lldpdu_of, on_frame, frame_rows}
use Rattle.rules.specs.Identity.{Ident}
use Rattle.rules.specs.Events.{Announcement, Heard, unread, says, whose}
use Rattle.rules.specs.Shares.{sure, most, per_chassis, beyond, chassis_is, room}
use Rattle.rules.specs.Answers.{Answered}
use Rattle.rules.specs.declared.Room.{Room}
use Rattle.rules.specs.declared.Room.TheVariants.{Enough, Loud, Full, Taken}
use Rattle.rules.specs.declared.Reply.TheVariants.{Recorded, Refreshed, Gone, UnknownGoodbye}
use Rattle.numbers.specs.Sizes.{ports, places, common}
use Rattle.numbers.specs.Numbers.{holds, first_free}
use Rattle.numbers.specs.declared.Table.{Table}
use Rattle.place.specs.State.{Place, State, put, free, keep, said, find, count_records}
use Rattle.fitness.specs.Fit.{fit}
use Rattle.hearing.specs.declared.Reception.{Reception}

-- the extent that the reader gives a frame
abbrev pub extent_on : List ℕ → Extent
extent_on f = on_frame (Err NoFrame) extent_of f

-- what is heard by it: the LLDPDU ends with its End, and the source of the frame is its sender (N3)
abbrev pub heard_in : Extent → List ℕ → List ℕ → Heard
heard_in (Err k) sender d = unread k
heard_in (Ok e) sender d = says (said sender (take e d))

unfoldable pub heard_of : List ℕ → Heard
heard_of f = heard_in (extent_on f) (source_of f) (lldpdu_of f)

-- what a call leaves: answer, numbers, senders and octets
pub record Told : Type 0 where
  pub outcome : Reception
  pub buf : List ℕ

abbrev pub reception : Table → Answered → Reception
reception t a = record { table = t; reply = a }

abbrev pub told : Reception → List ℕ → Told
told o b = record { outcome = o; buf = b }

abbrev pub telling : Answered → State → Told
telling a s = told (reception s.table a) s.buf

abbrev pub state_told : Told → State
state_told t = record { table = t.outcome.table; buf = t.buf }

-- what a place is to keep of an announcement that was heard on port p (N3)
abbrev pub kept : ℕ → Announcement → Place
kept p a = keep p a.seconds a.sender a.octets

-- the record at place k is heard again with n seconds to live, and x is what to keep
unfoldable pub heard_at : ℕ → ℕ → Place → State → Told
heard_at k n x s = pick (eqb n 0) (telling (Ok Gone) (put s k free)) (telling (Ok Refreshed) (put s k x))

-- what the room that there is makes of a new record
abbrev pub heard_by_room : Room → Place → State → Told
heard_by_room Loud x s = telling (Err ChassisLoud) s
heard_by_room Full x s = telling (Err PortFull) s
heard_by_room Taken x s = telling (Err CommonTaken) s
heard_by_room Enough x s = telling (Ok Recorded) (put s (first_free s.table) x)

unfoldable pub heard_new : ℕ → Ident → Place → State → Told
heard_new n w x s = pick (eqb n 0) (telling (Ok UnknownGoodbye) s) (heard_by_room (room ports (count_records s) w) x s)

unfoldable pub heard_saying : ℕ → Announcement → State → Told
heard_saying p a s =
    pick (ltb (find s (whose p a)) places)
    (heard_at (find s (whose p a)) a.seconds (kept p a) s)
    (heard_new a.seconds (whose p a) (kept p a) s)

abbrev pub on_heard : Heard → ℕ → State → Told
on_heard (unread k) p s = telling (Err k) s
on_heard (says a) p s = heard_saying p a s

unfoldable pub heard : ℕ → List ℕ → State → Told
heard p f s = pick (fit s) (pick (ltb p ports) (on_heard (heard_of f) p s) (telling (Err NoPort) s)) (telling (Err Unfit) s)

-- The refusal number, row by row in the order of Q1: R1 to R3, the TLVs front to back, and behind the End what a valid LLDPDU leads to

-- a new identity with seconds above 0, of a chassis that holds `own` on a port that holds h: 13 where the chassis holds three,
-- 7 where the port holds six, 8 where it holds two to five and the common places are taken
abbrev pub for_room : Bool → ℕ → ℕ → ℕ → List (Bool × ℕ)
for_room new own h taken =
    (both new (eqb own per_chassis), 13) ∷ (both new (eqb h most), 7) ∷ (all (new ∷ leb sure h ∷ ltb h most ∷ eqb taken common ∷ []), 8) ∷ []

abbrev pub is_new : State → ℕ → Announcement → Bool
is_new s p a = both (not (eqb a.seconds 0)) (leb places (find s (whose p a)))

abbrev pub room_rows : Heard → ℕ → State → List (Bool × ℕ)
room_rows (unread k) p s = []
room_rows (says a) p s = for_room (is_new s p a) (count_records s (chassis_is p a.chassis)) (holds s.table p) (beyond ports (holds s.table))

unfoldable pub refusal_on_frame : ℕ → List ℕ → State → ℕ
refusal_on_frame p f s = first_due ((not (fit s), 1) ∷ (leb ports p, 2) ∷ frame_rows f (room_rows (heard_of f) p s))

-- The contract of a frame on a port: this outcome and these octets and no others, with the refusal number that the rules give
pub record Hears (p : ℕ) (f : List ℕ) (s : State) (o : Reception) (b : List ℕ) : Type 0 where
  pub exact : told o b ≡ heard p f s
  pub refusal : refusal_of o.reply ≡ refusal_on_frame p f s
