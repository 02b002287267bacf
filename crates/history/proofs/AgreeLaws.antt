-- After every history the model's table is fit, and holds for each identity what the history says of it: `sound`.
-- One event at a time; a frame's answer is the history's because both count the same neighbours.
use Prim.Native.Nat.{ℕ, zero, suc, ◌+◌, ◌-◌}
use mathlib.Core.Path.{◌≡◌, refl, sym, ap, ◌∙◌, fun_ext}
use mathlib.Core.Logic.{◌≢◌}
use mathlib.Core.Bool.{Bool, true, false}
use mathlib.Core.List.{[], ◌∷◌}
use mathlib.Core.Option.{Option, none, some}
use native.Mathlib.Omega.{arith}
use borrow.Author.Tests.{eqb-false, ltb-true, ltb-false, lt-ltb, leb-true, leb-false}
use lib.Dec.{ltb, leb, eqb}
use lib.ListN.{replicate}
use Rattle.std.specs.Prelude.{Err}
use Rattle.tally.specs.Tests.{pick, both}
use Rattle.ids.specs.Id.{Id}
use Rattle.refusal.specs.declared.Refusal.TheVariants.{NoPort}
use Rattle.rules.specs.Identity.{Ident, same}
use Rattle.rules.specs.Events.{Announcement, Heard, unread, says, Event, frame, passed, lost, History, whose}
use Rattle.rules.specs.Shares.{places_for, port_is, chassis_is, room}
use Rattle.rules.specs.Answers.{answer_to}
use Rattle.rules.specs.declared.Room.{Room}
use Rattle.rules.specs.declared.Room.TheVariants.{Enough, Loud, Full, Taken}
use Rattle.rules.specs.Model.{Rec, Places, is_some, lookup, tally, holds_in, holds_of, on_record, tick, unplug, recorded, reply, after_frame, step, run}
use Rattle.rules.specs.Fit.{FitPlaces}
use Rattle.rules.proofs.IdentityLaws.{clash, same_true}
use Rattle.rules.proofs.EachLaws.{lookup-each}
use Rattle.rules.proofs.FrameLaws.{tick-keeps, unplug-keeps, is_none, after, frame-lookup, step-fit, start-fit}
use Rattle.history.specs.Past.{Latest, in_force, older, fresh, on_answer, among, named, count_by, answer_by, hearing, losing, latest, count_neighbours, held, held_of, answer}
use Rattle.history.proofs.PastLaws.{losing-none}
use Rattle.history.proofs.CountsLaws.{named-distinct, unnamed, passing-same, tally-passing}

-- what a table is to hold for an identity of which this was said last
unfoldable pub record_for : Ident → Option Latest → Option Rec
record_for w none = none
record_for w (some e) =
    pick (ltb e.since e.said.seconds) (some (record { who = w; left = e.said.seconds - e.since; octets = e.said.octets; sender = e.said.sender })) none

record-known : (w : Ident) (o : Option Latest) → is_some (record_for w o) ≡ in_force o
unfolding record_for
record-known w none = refl
record-known w (some e) = go (ltb e.since e.said.seconds) (record { who = w; left = e.said.seconds - e.since; octets = e.said.octets; sender = e.said.sender })
  where
    go : (b : Bool) (r : Rec) → is_some (pick b (some r) none) ≡ b
    go true r = refl
    go false r = refl

pub record Sound (n : ℕ) (h : History) (t : Places) : Type 0 where
  pub fit : FitPlaces n t
  pub agrees : (w : Ident) → lookup w t ≡ record_for w (latest n h w)

-- What follows from it: who is known, how many there are, and every answer

module _ (n : ℕ) (h : History) (t : Places) (s : Sound n h t) where
  pub known_same : (w : Ident) → is_some (lookup w t) ≡ in_force (latest n h w)
  known_same w = ap is_some (s.agrees w) ∙ record-known w (latest n h w)

  known-named : (w : Ident) → is_some (lookup w t) ≡ true → among w (named h) ≡ true
  known-named w e = go (among w (named h)) refl
    where
      go : (b : Bool) → among w (named h) ≡ b → b ≡ true
      go true d = refl
      go false d = absurd (clash (is_some (lookup w t)) e (known_same w ∙ ap in_force (unnamed n h w d)))

  -- any test on identities counts alike on both sides
  tally-count : (g : Ident → Bool) → tally g t ≡ count_neighbours n h g
  unfolding count_neighbours count_by
  tally-count g =
      tally-passing t g (named h) s.fit.once (named-distinct h) known-named
      ∙ passing-same (λ w. both (g w) (is_some (lookup w t))) (λ w. both (g w) (in_force (latest n h w))) (named h) (λ w. ap (both (g w)) (known_same w))

  pub holds-held : (q : ℕ) → holds_in t q ≡ held n h q
  unfolding held
  holds-held q = tally-count (port_is q)

  pub holds-of : (q : ℕ) (c : Id) → holds_of t q c ≡ held_of n h q c
  unfolding held_of
  holds-of q c = tally-count (chassis_is q c)

  pub same_answer : (p : ℕ) (x : Heard) → reply n p x t ≡ answer n h p x
  unfolding reply answer answer_by count_neighbours
  same_answer p (unread k) = refl
  same_answer p (says a) =
      let same-counts : (λ g. tally g t) ≡ count_neighbours n h = fun_ext tally-count in
      rw (known_same (whose p a))
      (ap (λ (f : (Ident → Bool) → ℕ). pick (ltb p n) (answer_to (eqb a.seconds 0) (in_force (latest n h (whose p a))) (room n f (whose p a))) (Err NoPort)) same-counts)

-- Seconds passed, link lost

tick-record : (s : ℕ) (w : Ident) (o : Option Latest) → on_record (tick s) (record_for w o) ≡ record_for w (older s o)
unfolding tick record_for
tick-record s w none = refl
tick-record s w (some e) = go (ltb e.since e.said.seconds) refl (ltb (e.since + s) e.said.seconds) refl (leb (e.said.seconds - e.since) s) refl
  where
    with-left : ℕ → Option Rec
    with-left k = some (record { who = w; left = k; octets = e.said.octets; sender = e.said.sender })

    go : (a : Bool) → ltb e.since e.said.seconds ≡ a → (b : Bool) → ltb (e.since + s) e.said.seconds ≡ b → (c : Bool) → leb (e.said.seconds - e.since) s ≡ c
        → on_record (tick s) (pick a (with-left (e.said.seconds - e.since)) none) ≡ pick b (with-left (e.said.seconds - (e.since + s))) none
    go true p true q true r = absurd (omega (arith, ltb-true (e.since + s) e.said.seconds q, leb-true (e.said.seconds - e.since) s r))
    go true p true q false r =
        let z : e.said.seconds - e.since - s ≡ e.said.seconds - (e.since + s) = omega arith in
        rw (r, z)
    go true p false q true r = rw r
    go true p false q false r = absurd (omega (arith, ltb-false (e.since + s) e.said.seconds q, leb-false (e.said.seconds - e.since) s r))
    go false p true q c r = absurd (omega (arith, ltb-false e.since e.said.seconds p, ltb-true (e.since + s) e.said.seconds q))
    go false p false q c r = refl

unplug-record : (p : ℕ) (w : Ident) (o : Option Latest) → on_record (unplug p) (record_for w o) ≡ record_for w (losing p w o)
unfolding unplug record_for
unplug-record p w none = ap (record_for w) (sym (losing-none p w))
unplug-record p w (some e) = go (eqb w.port p) refl (ltb e.since e.said.seconds) refl
  where
    rec : Rec
    rec = record { who = w; left = e.said.seconds - e.since; octets = e.said.octets; sender = e.said.sender }

    go : (a : Bool) → eqb w.port p ≡ a → (b : Bool) → ltb e.since e.said.seconds ≡ b → on_record (unplug p) (pick b (some rec) none) ≡ record_for w (pick a none (some e))
    go true d true q = rw d
    go true d false q = refl
    go false d true q = rw (d, q)
    go false d false q = rw q

-- A frame

fresh-record : (p : ℕ) (a : Announcement) → eqb a.seconds 0 ≡ false → record_for (whose p a) (fresh a) ≡ some (recorded p a)
unfolding record_for
fresh-record p a e =
    let d : a.seconds ≢ 0 = eqb-false a.seconds 0 e in
    let z : a.seconds - 0 ≡ a.seconds = omega arith in
    rw (lt-ltb 0 a.seconds (omega arith), z)

-- the frame's own identity: a port that there is? a goodbye? known? and the room
own-record : (p : ℕ) (a : Announcement) (o : Option Latest) (old : Option Rec) → old ≡ record_for (whose p a) o
    → (b g k : Bool) (rm : Room) → eqb a.seconds 0 ≡ g → is_some old ≡ k
    → after (pick b (answer_to g k rm) (Err NoPort)) (recorded p a) old ≡ record_for (whose p a) (on_answer (pick b (answer_to g k rm) (Err NoPort)) a o)
unfolding record_for
own-record p a o old z true true true rm e d = refl
own-record p a o old z true true false rm e d = is_none old d
own-record p a o old z true false true rm e d = sym (fresh-record p a e)
own-record p a o old z true false false Enough e d = sym (fresh-record p a e)
own-record p a o old z true false false Loud e d = z
own-record p a o old z true false false Full e d = z
own-record p a o old z true false false Taken e d = z
own-record p a o old z false g k rm e d = z

module _ (n : ℕ) (h : History) (t : Places) (s : Sound n h t) where
  own-agrees : (p : ℕ) (a : Announcement)
      → after (answer n h p (says a)) (recorded p a) (lookup (whose p a) t) ≡ record_for (whose p a) (on_answer (answer n h p (says a)) a (latest n h (whose p a)))
  unfolding answer answer_by
  own-agrees p a =
      let v = whose p a in
      own-record p a (latest n h v) (lookup v t) (s.agrees v) (ltb p n) (eqb a.seconds 0) (in_force (latest n h v)) (room n (count_by (latest n h) (named h)) v)
      refl (known_same n h t s v)

  frame-agrees : (p : ℕ) (x : Heard) (w : Ident) → lookup w (after_frame n p x t) ≡ record_for w (latest n (frame p x ∷ h) w)
  unfolding after_frame latest hearing answer
  frame-agrees p (unread k) w = s.agrees w
  frame-agrees p (says a) w = frame-lookup n t s.fit p a w ∙ rw (same_answer n h t s p (says a)) (go (same w (whose p a)) refl)
    where
      go : (b : Bool) → same w (whose p a) ≡ b
          → pick b (after (answer n h p (says a)) (recorded p a) (lookup (whose p a) t)) (lookup w t)
          ≡ record_for w (pick b (on_answer (answer n h p (says a)) a (latest n h w)) (latest n h w))
      go true d = rw (same_true w (whose p a) d) (own-agrees p a)
      go false d = s.agrees w

  -- one event
  pub sound-step : (e : Event) → Sound n (e ∷ h) (step n e t)
  unfolding latest
  sound-step (frame p x) = record { fit = step-fit n t s.fit (frame p x); agrees = frame-agrees p x }
  sound-step (passed k) =
      record {
        fit = step-fit n t s.fit (passed k);
        agrees = λ w. lookup-each (tick k) (tick-keeps k) w t s.fit.once ∙ ap (on_record (tick k)) (s.agrees w) ∙ tick-record k w (latest n h w);
      }
  sound-step (lost p) =
      record {
        fit = step-fit n t s.fit (lost p);
        agrees = λ w. lookup-each (unplug p) (unplug-keeps p) w t s.fit.once ∙ ap (on_record (unplug p)) (s.agrees w) ∙ unplug-record p w (latest n h w);
      }

-- From Start on

start-lookup : (m : ℕ) (w : Ident) → lookup w (replicate m none) ≡ none
start-lookup zero w = refl
start-lookup (suc m) w = start-lookup m w

-- every history
pub sound : (n : ℕ) (h : History) → Sound n h (run n h)
unfolding latest record_for
sound n [] = record { fit = start-fit n; agrees = start-lookup (places_for n) }
sound n (e ∷ h) = sound-step n h (run n h) (sound n h) e
