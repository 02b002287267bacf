-- A refusal changes nothing (Q2): whatever the table and the octets are, fit or not, an answer that is a refusal leaves them as they were.
-- It is read off the definitions of the calls, case by case. Then the one refusal that is for who sent the frame (F4).
use Prim.Native.Nat.{ℕ, ◌<◌}
use mathlib.Core.Path.{◌≡◌, refl, sym, ◌∙◌}
use mathlib.Core.Bool.{Bool, true, false}
use mathlib.Core.List.{List}
use lib.Dec.{ltb, eqb}
use lib.ListN.{length}
use Rattle.std.specs.Prelude.{Ok, Err}
use Rattle.tally.specs.Tests.{pick}
use Rattle.octets.specs.Address.{is_group}
use Rattle.refusal.specs.declared.Refusal.{Refusal}
use Rattle.refusal.specs.declared.Refusal.TheVariants.{Unfit, NoPort, NoFrame, PortFull, CommonTaken, ChassisLoud}
use Rattle.lldpdu.specs.Outline.{outline_of}
use Rattle.reader.specs.Frame.{source_of}
use Rattle.reader.proofs.FrameLaws.{source-fails, on-bad}
use Rattle.rules.specs.Events.{Announcement, Heard, unread, says, whose}
use Rattle.rules.specs.Shares.{room}
use Rattle.rules.specs.declared.Room.{Room}
use Rattle.rules.specs.declared.Room.TheVariants.{Enough, Loud, Full, Taken}
use Rattle.rules.specs.Answers.{Answered}
use Rattle.rules.specs.declared.Reply.TheVariants as reply
use Rattle.numbers.specs.Sizes.{ports, places}
use Rattle.place.specs.State.{Place, State, octets, put, each, free, find, count_records, empty}
use Rattle.fitness.specs.Fit.{fit}
use Rattle.freeing.specs.Changes.{aged, lost}
use Rattle.freeing.specs.Calls.{After, answered, state_after, started, if_port, passed, link_lost}
use Rattle.hearing.specs.Frame.{heard_of, Told, telling, state_told, kept, heard_at, heard_by_room, heard_new, heard_saying, on_heard, heard}
use Rattle.hearing.proofs.ReplyLaws.{unread-tells, heard-by}

module _ (s : State) where
  -- The calls that answer with nothing but a refusal

  abbrev pub Unchanged : After → Type 0
  Unchanged a = (r : Refusal) → a.outcome.answer ≡ Err r → state_after a ≡ s

  done : (s' : State) → Unchanged (answered (Ok tt) s')
  done s' r e = cc

  unless : (b : Bool) (a : After) (k : Refusal) → Unchanged a → Unchanged (pick b a (answered (Err k) s))
  unless true a k h = h
  unless false a k h = λ r e. refl

  pub start-unchanged : Unchanged (started s)
  unfolding started
  start-unchanged = unless (eqb (length s.buf) octets) (answered (Ok tt) empty) Unfit (done empty)

  pub passed-unchanged : (seconds : ℕ) → Unchanged (passed seconds s)
  unfolding passed
  passed-unchanged seconds =
      let s' = each (aged seconds) places s in
      unless (fit s) (answered (Ok tt) s') Unfit (done s')

  pub lost-unchanged : (p : ℕ) → Unchanged (link_lost p s)
  unfolding link_lost
  lost-unchanged p =
      let s' = each (lost p) places s in
      unless (fit s) (if_port p s (answered (Ok tt) s')) Unfit (unless (ltb p ports) (answered (Ok tt) s') NoPort (done s'))

  -- A frame on a port

  abbrev pub Untold : Told → Type 0
  Untold t = (r : Refusal) → t.outcome.reply ≡ Err r → state_told t ≡ s

  -- the table stays, whatever is answered
  stays : (x : Answered) → Untold (telling x s)
  stays x r e = refl

  either_way : (b : Bool) (t u : Told) → Untold t → Untold u → Untold (pick b t u)
  either_way true t u g h = g
  either_way false t u g h = h

  -- a known neighbour is never refused
  at-unchanged : (k n : ℕ) (x : Place) → Untold (heard_at k n x s)
  unfolding heard_at
  at-unchanged k n x = go (eqb n 0)
    where
      go : (b : Bool) → Untold (pick b (telling (Ok reply.Gone) (put s k free)) (telling (Ok reply.Refreshed) (put s k x)))
      go true r e = cc
      go false r e = cc

  room-unchanged : (r : Room) (x : Place) → Untold (heard_by_room r x s)
  room-unchanged Loud x = stays (Err ChassisLoud)
  room-unchanged Full x = stays (Err PortFull)
  room-unchanged Taken x = stays (Err CommonTaken)
  room-unchanged Enough x = λ j e. cc

  saying-unchanged : (p : ℕ) (a : Announcement) → Untold (heard_saying p a s)
  unfolding heard_saying heard_new
  saying-unchanged p a =
      let k = find s (whose p a) in
      let r = room ports (count_records s) (whose p a) in
      either_way (ltb k places) (heard_at k a.seconds (kept p a) s) (heard_new a.seconds (whose p a) (kept p a) s)
      (at-unchanged k a.seconds (kept p a))
      (either_way (eqb a.seconds 0) (telling (Ok reply.UnknownGoodbye) s) (heard_by_room r (kept p a) s)
      (stays (Ok reply.UnknownGoodbye))
      (room-unchanged r (kept p a)))

  on-unchanged : (x : Heard) (p : ℕ) → Untold (on_heard x p s)
  on-unchanged (unread k) p = stays (Err k)
  on-unchanged (says a) p = saying-unchanged p a

  pub heard-unchanged : (p : ℕ) (f : List ℕ) → Untold (heard p f s)
  unfolding heard
  heard-unchanged p f =
      either_way (fit s) (pick (ltb p ports) (on_heard (heard_of f) p s) (telling (Err NoPort) s)) (telling (Err Unfit) s)
      (either_way (ltb p ports) (on_heard (heard_of f) p s) (telling (Err NoPort) s) (on-unchanged (heard_of f) p) (stays (Err NoPort)))
      (stays (Err Unfit))

  -- a frame from a group address (F4): 3, and the table as it was
  pub group-unheard : (p : ℕ) (f : List ℕ) → fit s ≡ true → p < ports → is_group (source_of f) ≡ true → heard p f s ≡ telling (Err NoFrame) s
  group-unheard p f e l g = sym (unread-tells f (sym (on-bad (Err NoFrame) outline_of f (source-fails f g))) p s refl ∙ heard-by p f s e l)
