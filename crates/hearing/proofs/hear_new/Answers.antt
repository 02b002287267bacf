-- `hearing::hear_new` meets its contract: an unknown goodbye, or what the room makes of a new record (new-goodbye, new-room).
-- A fit table with room has a free place (room_for), and the LLDPDU goes there (there-put).
use Prim.Native.Nat.{ℕ}
use mathlib.Core.Path.{◌≡◌, refl, sym, ap, ◌∙◌}
use mathlib.Core.List.{List}
use mathlib.Core.Logic.{◌≢◌}
use Rattle.std.specs.Prelude.{Ok, Err}
use Rattle.refusal.specs.declared.Refusal.TheVariants.{PortFull, CommonTaken, ChassisLoud}
use Rattle.ids.specs.Id.{Id}
use Rattle.rules.specs.Shares.{chassis_is, share}
use Rattle.rules.specs.declared.Room.{Room}
use Rattle.rules.specs.declared.Reply.TheVariants.{Recorded, UnknownGoodbye}
use Rattle.numbers.specs.Sizes.{ports}
use Rattle.numbers.specs.Numbers.{holds, first_free}
use Rattle.place.specs.State.{Place, State, state, put_there, keep, chassis_in, whose_in, count_records}
use Rattle.place.proofs.ThereLaws.{there-put}
use Rattle.fitness.proofs.FitLaws.{fit_length, room_for}
use Rattle.hearing.specs.Frame.{heard_by_room, heard_new}
use Rattle.hearing.proofs.ReplyLaws.{tells, new-goodbye, new-room}
use Rattle.hearing.proofs.hear_new.Goals as goal

-- the room that was asked for is that of the rules: the chassis of the outline is that of the octets l
asked : (s : State) (p : ℕ) (l : List ℕ) {i : Id} {own : ℕ} {r : Room}
    → i ≡ chassis_in l
    → own ≡ count_records s (chassis_is p i)
    → r ≡ share ports (holds s.table) own p
    → r ≡ share ports (holds s.table) (count_records s (chassis_is p (chassis_in l))) p
asked s p l d k e =
    e ∙ ap (λ (n : ℕ). share ports (holds s.table) n p) (k ∙ ap (λ (i : Id). count_records s (chassis_is p i)) d)

-- and so a return with what it makes of a new record is right
by-room : (n p : ℕ) (l : List ℕ) (x : Place) (s : State) {i : Id} {own : ℕ} {r q : Room}
    → n ≢ 0
    → i ≡ chassis_in l
    → own ≡ count_records s (chassis_is p i)
    → r ≡ share ports (holds s.table) own p
    → r ≡ q
    → heard_by_room q x s ≡ heard_new n (whose_in p l) x s
by-room n p l x s u d k e q = new-room n (whose_in p l) x s u (asked s p l d k e) q

pub returns-then-seconds-eq0 : goal.returns-then-seconds-eq0
returns-then-seconds-eq0 c =
    let a = c.args in
    tells {a = Ok UnknownGoodbye} c.reply_with.ensures refl
    ∙ new-goodbye a.seconds (whose_in a.p a.l.now) (keep a.p a.seconds a.sender a.l.now) (state a.t a.buffer.now) c.if-seconds-eq0.true

pub returns-in-Loud : goal.returns-in-Loud
returns-in-Loud c =
    let a = c.args in
    tells {a = Err ChassisLoud} c.reply_with-in-Loud.ensures refl
    ∙ by-room a.seconds a.p a.l.now (keep a.p a.seconds a.sender a.l.now) (state a.t a.buffer.now) c.if-seconds-eq0.false c.requires.1.1.1 c.chassis_held-own.ensures c.room_of.ensures c.in-Loud.is

pub returns-in-Full : goal.returns-in-Full
returns-in-Full c =
    let a = c.args in
    tells {a = Err PortFull} c.reply_with-in-Full.ensures refl
    ∙ by-room a.seconds a.p a.l.now (keep a.p a.seconds a.sender a.l.now) (state a.t a.buffer.now) c.if-seconds-eq0.false c.requires.1.1.1 c.chassis_held-own.ensures c.room_of.ensures c.in-Full.is

pub returns-in-Taken : goal.returns-in-Taken
returns-in-Taken c =
    let a = c.args in
    tells {a = Err CommonTaken} c.reply_with-in-Taken.ensures refl
    ∙ by-room a.seconds a.p a.l.now (keep a.p a.seconds a.sender a.l.now) (state a.t a.buffer.now) c.if-seconds-eq0.false c.requires.1.1.1 c.chassis_held-own.ensures c.room_of.ensures c.in-Taken.is

pub returns-in-Enough : goal.returns-in-Enough
unfolding keep
returns-in-Enough c =
    let a = c.args in
    let s = state a.t a.buffer.now in
    let x = keep a.p a.seconds a.sender a.l.now in
    let room = asked s a.p a.l.now c.requires.1.1.1 c.chassis_held-own.ensures c.room_of.ensures in
    let e = room_for s c.requires.0 (count_records s (chassis_is a.p (chassis_in a.l.now))) a.p c.requires.1.0 (sym room ∙ c.in-Enough.is) in
    let there = ap (λ (i : ℕ). put_there s i x) c.first_free.ensures ∙ there-put s (first_free a.t) x e (fit_length s c.requires.0) c.requires.1.1.0 in
    let kept : _ ≡ put_there s c.first_free.result x = c.store-u.ensures in
    tells {a = Ok Recorded} c.reply_with-in-Enough.ensures (kept ∙ there)
    ∙ new-room a.seconds (whose_in a.p a.l.now) x s c.if-seconds-eq0.false room c.in-Enough.is
