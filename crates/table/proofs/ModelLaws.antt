-- A frame on a port, on a fit table: the answer is the model's, and so is what the table is seen as afterwards (N7).
-- First what the reader says of a frame, then a known identity, then a new one, then the call.
use Prim.Native.Nat.{ℕ, ◌≤◌, ◌<◌}
use mathlib.Core.Path.{◌≡◌, refl, sym, ap, ◌∙◌, fun_ext}
use mathlib.Core.Logic.{◌≢◌}
use mathlib.Core.Bool.{Bool, true, false}
use mathlib.Core.List.{List}
use mathlib.Core.Option.{Option, none, some}
use native.Mathlib.Omega.{arith}
use borrow.Author.Tests.{eqb-true, eqb-false, ne_eqb, ltb-true, ltb-false, lt-ltb, le-ltb, not-true}
use lib.Dec.{ltb, eqb}
use lib.ListN.{length, get_or, set, take, drop, length-drop}
use Rattle.std.specs.Prelude.{Ok, Err}
use Rattle.tally.specs.Tests.{pick}
use Rattle.tally.proofs.TestsLaws.{both_true}
use Rattle.tally.proofs.CountsLaws.{first_passes, first-before}
use Rattle.refusal.specs.declared.Refusal.TheVariants.{NoPort, NoFrame, PortFull, CommonTaken, ChassisLoud}
use Rattle.walk.specs.Walk.{Extent}
use Rattle.lldpdu.specs.Extent.{extent_of}
use Rattle.lldpdu.proofs.ExtentLaws.{good}
use Rattle.lldpdu.proofs.Stable.{sized}
use Rattle.reader.specs.Frame as reader
use Rattle.reader.proofs.FrameLaws.{frame-size, frame-station, on-good, on-bad}
use Rattle.rules.specs.Identity.{Ident, same}
use Rattle.rules.specs.Events.{Announcement, Heard, says, whose}
use Rattle.rules.specs.Shares.{chassis_is, room}
use Rattle.rules.specs.Answers.{Answered, answer_to}
use Rattle.rules.specs.declared.Room.{Room}
use Rattle.rules.specs.declared.Room.TheVariants.{Enough, Loud, Full, Taken}
use Rattle.rules.specs.declared.Reply.TheVariants.{Recorded, Refreshed, Gone, UnknownGoodbye}
use Rattle.rules.specs.Model as model
use Rattle.rules.specs.Model.{Rec, is_some, lookup, tally, swap, recorded, act, reply, after_frame}
use Rattle.rules.specs.Fit.{Absent, Once}
use Rattle.rules.proofs.IdentityLaws.{same_true, differ-sym}
use Rattle.rules.proofs.EachLaws.{absent-lookup}
use Rattle.rules.proofs.FrameLaws.{no-reply, no-frame, unread-reply, unread-frame, reply-is, frame_is}
use Rattle.rules.proofs.PlacesLaws.{enter-set, swap-set, lookup-at}
use Rattle.rules.proofs.TabLaws.{in-tab}
use Rattle.numbers.specs.Sizes.{ports, places}
use Rattle.numbers.specs.Numbers.{is_free, first_free}
use Rattle.place.specs.State.{Place, State, Sized, size, at, put, used, free, said, who_at, is_of, find, count_records}
use Rattle.marks.specs.PlaceFit.{ok_place}
use Rattle.fitness.specs.Fit.{fit, Fit}
use Rattle.hearing.specs.Frame.{extent_on, heard_in, heard_of, Told, telling, state_told, kept, heard_at, heard_by_room, heard_new, heard_saying, on_heard, heard}
use Rattle.fitness.specs.View.{rec_of, place_of, view}
use Rattle.place.proofs.PutLaws.{put-sized}
use Rattle.fitness.proofs.ViewLaws.{place-free, place-used, Seen, seen, placed, get_or-view, view-long, count-view, view-fits}
use Rattle.fitness.proofs.FitLaws.{parts-fit, room_for}
use Rattle.hearing.proofs.ReplyLaws.{room-share}
use Rattle.fitness.proofs.KeepLaws.{kept-long, kept-extent, free-ok, free-long, keep-long}
use Rattle.fitness.proofs.WrittenLaws.{Good, Spoken, keep-place, keep-good, put_view, put-good}

-- What the reader says of a frame

valid-frame : (f : List ℕ) (e : ℕ) → extent_on f ≡ Ok e → reader.frame_ok f ≡ true
valid-frame f e v = go (reader.frame_ok f) refl
  where
    go : (b : Bool) → reader.frame_ok f ≡ b → reader.frame_ok f ≡ true
    go true q = q
    go false q = let z : Err NoFrame ≡ Ok e = sym (on-bad (Err NoFrame) extent_of f q) ∙ v in cc

-- a valid frame has no more octets behind its first 14 than a place holds, and no group address sent it
pub spoken : (f : List ℕ) (e : ℕ) → extent_on f ≡ Ok e → Spoken (said (reader.source_of f) (take e (drop 14 f)))
spoken f e v =
    let q = valid-frame f e v in
    let x = sym (on-good (Err NoFrame) extent_of f q) ∙ v in
    record {
      says = refl;
      station = frame-station f q;
      long = omega (arith, kept-long (drop 14 f) e x, (sized (good (drop 14 f) e x)).whole-inside, length-drop 14 f, (frame-size f q).1);
      extent = kept-extent (drop 14 f) e x;
    }

-- The outcome t of a call is the model's, and what lies inside its places is right

pub record Right (s : State) (p : ℕ) (x : Heard) (t : Told) : Type 0 where
  pub answer : t.outcome.reply ≡ reply ports p x (view s)
  pub seen : view (state_told t) ≡ after_frame ports p x (view s)
  pub sized : Sized places (state_told t)
  pub good : Good (state_told t)

-- An LLDPDU on a port below the last

module _ (s : State) (z : Sized places s) (f : Fit s) (p : ℕ) (low : p < ports) (a : Announcement) (c : Spoken a) where
  abbrev w : Ident
  w = whose p a

  abbrev answers : Told → Type 0
  answers t = Right s p (says a) t

  once : Once (view s)
  once = (view-fits s f).once

  -- nothing changes but the answer
  stays : (x : Answered) → reply ports p (says a) (view s) ≡ x → after_frame ports p (says a) (view s) ≡ view s → answers (telling x s)
  stays x e q = record { answer = sym e; seen = sym q; sized = z; good = f.good }

  -- place k is written
  writes : (x : Answered) (k : ℕ) → k < places → (y : Place) → length y.body ≡ size → ok_place y ≡ true → reply ports p (says a) (view s) ≡ x
      → after_frame ports p (says a) (view s) ≡ set (view s) k (place_of y) → answers (telling x (put s k y))
  writes x k l y long ok e q =
      record {
        answer = sym e;
        seen = put_view s z k l y long ∙ sym q;
        sized = put-sized places s z k l y long;
        good = put-good s z k l y long ok f.good;
      }

  -- the room by the table's own count is the room by the model's
  abbrev there : Room
  there = room ports (count_records s) w

  room-seen : there ≡ room ports (λ g. tally g (view s)) w
  room-seen = ap (λ (h : (Ident → Bool) → ℕ). room ports h w) (fun_ext (count-view s))

  -- the model's side: a goodbye or not, known or not, and the room
  module _ (b : Bool) (e : eqb a.seconds 0 ≡ b) (k : Bool) (i : is_some (lookup w (view s)) ≡ k) (rm : Room) (m : there ≡ rm) where
    told : reply ports p (says a) (view s) ≡ answer_to b k rm
    told = reply-is ports (view s) p a low k rm i (sym room-seen ∙ m) ∙ ap (λ (x : Bool). answer_to x k rm) e

    gives : after_frame ports p (says a) (view s) ≡ act (answer_to b k rm) (recorded p a) (view s)
    gives = frame_is ports (view s) p a low k rm i (sym room-seen ∙ m) ∙ ap (λ (x : Bool). act (answer_to x k rm) (recorded p a) (view s)) e

  -- the identity is known
  module _ (l : find s w < places) where
    abbrev here : Place
    here = at s (find s w)

    found : (used here ≡ true) × (same (who_at here) w ≡ true)
    unfolding find is_of
    found = both_true (used here) (same (who_at here) w) (first_passes (is_of s w) places 0 (omega (arith, l)))

    found-who : who_at here ≡ w
    found-who = same_true (who_at here) w found.1

    found_at : get_or (view s) (find s w) none ≡ some (rec_of here)
    found_at = get_or-view s (find s w) l ∙ place-used here (eqb-false here.len 0 (not-true (eqb here.len 0) found.0))

    known : is_some (lookup w (view s)) ≡ true
    known = ap (λ (v : Ident). is_some (lookup v (view s))) (sym found-who) ∙ ap is_some (lookup-at (rec_of here) (view s) (find s w) once found_at)

    swapped : (x : Option Rec) → model.each_record (swap w x) (view s) ≡ set (view s) (find s w) x
    swapped x = ap (λ (v : Ident). model.each_record (swap v x) (view s)) (sym found-who) ∙ swap-set (rec_of here) x (view s) (find s w) once found_at

    known-right : answers (heard_at (find s w) a.seconds (kept p a) s)
    unfolding heard_at
    known-right = go (eqb a.seconds 0) refl
      where
        go : (b : Bool) → eqb a.seconds 0 ≡ b → answers (pick b (telling (Ok Gone) (put s (find s w) free)) (telling (Ok Refreshed) (put s (find s w) (kept p a))))
        go true e =
            writes (Ok Gone) (find s w) l free free-long free-ok (told true e true known there refl)
            (gives true e true known there refl ∙ swapped none ∙ ap (set (view s) (find s w)) (sym (place-free free refl)))
        go false e =
            writes (Ok Refreshed) (find s w) l (kept p a) (keep-long p a.seconds a.sender a.octets) (keep-good p a c low (eqb-false a.seconds 0 e)) (told false e true known there refl)
            (gives false e true known there refl ∙ swapped (some (recorded p a)) ∙ ap (set (view s) (find s w)) (sym (keep-place p a c)))

  -- the identity is new
  module _ (l : places ≤ find s w) where
    unfound : (k : ℕ) → k < places → (at s k).len ≢ 0 → same (who_at (at s k)) w ≡ false
    unfolding find is_of
    unfound k m u = rw (ne_eqb (at s k).len 0 u) at (first-before (is_of s w) places 0 k (omega arith) (omega (arith, m, l)))

    nowhere : Absent w (view s)
    unfolding view
    nowhere = in-tab (λ v. same w v ≡ false) places (placed s) (λ k y m e. apart k y m (seen (at s k) y e))
      where
        apart : (k : ℕ) (y : Rec) → k < places → Seen (at s k) y → same w y.who ≡ false
        apart k y m h = ap (λ (r : Rec). same w r.who) h.is ∙ differ-sym (who_at (at s k)) w (unfound k m h.used)

    new : is_some (lookup w (view s)) ≡ false
    new = ap is_some (absent-lookup w (view s) nowhere)

    -- the lowest free place
    module _ (h : first_free s.table < places) where
      abbrev first : ℕ
      first = first_free s.table

      first-free : (at s first).len ≡ 0
      unfolding first_free at
      first-free = eqb-true (get_or s.table.length first 0) 0 (first_passes (is_free s.table) places 0 (omega (arith, h)))

      first-least : (j : ℕ) → j < first → (at s j).len ≢ 0
      unfolding first_free at
      first-least j m = eqb-false (get_or s.table.length j 0) 0 (first-before (is_free s.table) places 0 j (omega arith) m)

      taken : model.enter (recorded p a) (view s) ≡ set (view s) first (some (recorded p a))
      taken =
          enter-set (recorded p a) (view s) first (omega (arith, h, view-long s)) (get_or-view s first h ∙ place-free (at s first) first-free)
          (λ j m. ap is_some (get_or-view s j (omega (arith, m, h)) ∙ place-used (at s j) (first-least j m)))

    new-right : answers (heard_new a.seconds w (kept p a) s)
    unfolding heard_new
    new-right = zero_or (eqb a.seconds 0) refl
      where
        go : eqb a.seconds 0 ≡ false → (rm : Room) → there ≡ rm → answers (heard_by_room rm (kept p a) s)
        go e Loud m = stays (Err ChassisLoud) (told false e false new Loud m) (gives false e false new Loud m)
        go e Full m = stays (Err PortFull) (told false e false new Full m) (gives false e false new Full m)
        go e Taken m = stays (Err CommonTaken) (told false e false new Taken m) (gives false e false new Taken m)
        go e Enough m =
            let h = room_for s (parts-fit s f) (count_records s (chassis_is p a.chassis)) p low (sym (room-share s w) ∙ m) in
            writes (Ok Recorded) (first_free s.table) h (kept p a) (keep-long p a.seconds a.sender a.octets) (keep-good p a c low (eqb-false a.seconds 0 e))
            (told false e false new Enough m)
            (gives false e false new Enough m ∙ taken h ∙ ap (set (view s) (first_free s.table)) (sym (keep-place p a c)))

        zero_or : (b : Bool) → eqb a.seconds 0 ≡ b → answers (pick b (telling (Ok UnknownGoodbye) s) (heard_by_room there (kept p a) s))
        zero_or true e = stays (Ok UnknownGoodbye) (told true e false new there refl) (gives true e false new there refl)
        zero_or false e = go e there refl

  pub saying-right : answers (heard_saying p a s)
  unfolding heard_saying
  saying-right = go (ltb (find s w) places) refl
    where
      go : (b : Bool) → ltb (find s w) places ≡ b
          → answers (pick b (heard_at (find s w) a.seconds (kept p a) s) (heard_new a.seconds w (kept p a) s))
      go true e = known-right (ltb-true (find s w) places e)
      go false e = new-right (ltb-false (find s w) places e)

-- The call

module _ (s : State) (e : fit s ≡ true) (p : ℕ) (f : List ℕ) where
  pub in-ports : p < ports → heard p f s ≡ on_heard (heard_of f) p s
  unfolding heard
  in-ports h = rw (e, lt-ltb p ports h)

  -- a port above the last changes nothing, and neither does a frame that the reader refuses
  pub out-of-ports : ports ≤ p → heard p f s ≡ telling (Err NoPort) s
  unfolding heard
  out-of-ports h = rw (e, le-ltb p ports h)

module _ (s : State) (z : Sized places s) (f : Fit s) (p : ℕ) where
  no-port : (x : Heard) → ports ≤ p → Right s p x (telling (Err NoPort) s)
  no-port x h = record { answer = sym (no-reply ports (view s) p x h); seen = sym (no-frame ports (view s) p x h); sized = z; good = f.good }

  on-port : (frame : List ℕ) → p < ports → (x : Extent) → extent_on frame ≡ x
      → Right s p (heard_in x (reader.source_of frame) (drop 14 frame)) (on_heard (heard_in x (reader.source_of frame) (drop 14 frame)) p s)
  on-port frame h (Err k) v =
      record { answer = sym (unread-reply ports (view s) p k h); seen = sym (unread-frame ports (view s) p k); sized = z; good = f.good }
  on-port frame h (Ok e) v = saying-right s z f p h (said (reader.source_of frame) (take e (drop 14 frame))) (spoken frame e v)

  pub frame_right : (frame : List ℕ) → Right s p (heard_of frame) (heard p frame s)
  unfolding heard_of
  frame_right frame = go (ltb p ports) refl
    where
      go : (b : Bool) → ltb p ports ≡ b → Right s p (heard_of frame) (heard p frame s)
      go true e =
          let h = ltb-true p ports e in
          rw (in-ports s (parts-fit s f) p frame h) (on-port frame h (extent_on frame) refl)
      go false e =
          let h = ltb-false p ports e in
          rw (out-of-ports s (parts-fit s f) p frame h) (no-port (heard_of frame) h)
