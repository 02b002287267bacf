-- The answer to a frame (N7): what was done, or why it is refused.
-- A goodbye is never refused for room, and neither is a known neighbour.
use Rattle.std.specs.Prelude.{Bool, true, false, Result, Ok, Err}
use Rattle.refusal.specs.declared.Refusal.{Refusal}
use Rattle.refusal.specs.declared.Refusal.TheVariants.{PortFull, CommonTaken, ChassisLoud}
use Rattle.rules.specs.declared.Room.{Room}
use Rattle.rules.specs.declared.Room.TheVariants.{Enough, Loud, Full, Taken}
use Rattle.rules.specs.declared.Reply.{Reply}
use Rattle.rules.specs.declared.Reply.TheVariants.{Recorded, Refreshed, Gone, UnknownGoodbye}

abbrev pub Answered : Type 0
Answered = Result Reply Refusal

-- R13, R7 and R8
abbrev pub on_room : Room → Answered
on_room Enough = Ok Recorded
on_room Loud = Err ChassisLoud
on_room Full = Err PortFull
on_room Taken = Err CommonTaken

-- a goodbye? known? and the room for a new one
abbrev pub answer_to : Bool → Bool → Room → Answered
answer_to true true r = Ok Gone
answer_to true false r = Ok UnknownGoodbye
answer_to false true r = Ok Refreshed
answer_to false false r = on_room r
