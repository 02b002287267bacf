-- What an event does to a fit table: it stays fit, and a frame changes what is found for its own identity alone.
-- `after` says what that identity then has, by the answer; `tick-keeps` and its like make the laws of `each_record` ready for use.
use Prim.Native.Nat.{ℕ, zero, suc, ◌+◌, ◌-◌, ◌≤◌, ◌<◌}
use mathlib.Core.Path.{◌≡◌, refl, ap, ◌∙◌}
use mathlib.Core.List.{[], ◌∷◌}
use mathlib.Core.Bool.{Bool, true, false}
use mathlib.Core.Option.{Option, none, some}
use native.Mathlib.Omega.{arith}
use borrow.Author.Tests.{ltb-true, lt-ltb, le-ltb, ne_eqb}
use lib.Dec.{ltb, leb, eqb}
use lib.ListN.{replicate, length-replicate}
use Rattle.std.specs.Prelude.{Ok, Err}
use Rattle.tally.specs.Tests.{pick}
use Rattle.tally.proofs.CountsLaws.{sum_same, sum-zero}
use Rattle.refusal.specs.declared.Refusal.{Refusal}
use Rattle.refusal.specs.declared.Refusal.TheVariants.{NoPort, PortFull, CommonTaken, ChassisLoud}
use Rattle.rules.specs.Identity.{Ident, same}
use Rattle.rules.specs.Events.{Announcement, Heard, unread, says, Event, frame, passed, lost, History, whose}
use Rattle.rules.specs.Shares.{sure, places_for, beyond, port_is, chassis_is, room}
use Rattle.rules.specs.declared.Room.{Room}
use Rattle.rules.specs.declared.Room.TheVariants.{Enough, Loud, Full, Taken}
use Rattle.rules.specs.Answers.{Answered, answer_to}
use Rattle.rules.specs.declared.Reply.TheVariants.{Recorded, Refreshed, Gone, UnknownGoodbye}
use Rattle.rules.specs.Model.{Rec, Places, is_some, lookup, hits, tally, holds_in, holds_of, on_record, each_record, tick, unplug, swap, recorded, act, reply, after_frame, step, run}
use Rattle.rules.specs.Fit.{InAll, Absent, Once, Ports, FitPlaces}
use Rattle.rules.proofs.IdentityLaws.{same_true, same_self, same-cast, differ-sym}
use Rattle.rules.proofs.EachLaws.{Of, Keeps, lookup_absent, lookup-of, lookup-each, swap-absent, tally-enter, lookup-enter}
use Rattle.rules.proofs.SharesLaws.{Fits, room_fits, room-free, fit-each, fit-enter}

-- The three changes of a record by itself

of-pick : (w : Ident) (b : Bool) (x y : Option Rec) → Of w x → Of w y → Of w (pick b x y)
of-pick w true x y p q = p
of-pick w false x y p q = q

pub tick-keeps : (s : ℕ) → Keeps (tick s)
unfolding tick
tick-keeps s r = of-pick r.who (leb r.left s) _ _ tt refl

pub unplug-keeps : (p : ℕ) → Keeps (unplug p)
unfolding unplug
unplug-keeps p r = of-pick r.who (eqb r.who.port p) _ _ tt refl

pub swap-keeps : (w : Ident) (x : Option Rec) → Of w x → Keeps (swap w x)
unfolding swap
swap-keeps w x o r = go (same w r.who) refl x o
  where
    go : (b : Bool) → same w r.who ≡ b → (y : Option Rec) → Of w y → Of r.who (pick b y (some r))
    go true e none z = tt
    go true e (some y) z = z ∙ same_true w r.who e
    go false e y z = refl

swap-hit : (w : Ident) (x y : Option Rec) → Of w y → is_some y ≡ true → on_record (swap w x) y ≡ x
unfolding swap
swap-hit w x none o e = cc
swap-hit w x (some r) o e = rw (o, same_self w)

swap-miss : (w v : Ident) (x y : Option Rec) → Of w y → same v w ≡ false → on_record (swap v x) y ≡ y
unfolding swap
swap-miss w v x none o e = refl
swap-miss w v x (some r) o e = rw (same-cast r.who w v o, e)

-- who is found, where what a known v has becomes y
pub lookup-swap : (v : Ident) (y : Option Rec) → Of v y → (t : Places) → Once t → is_some (lookup v t) ≡ true
    → (w : Ident) → lookup w (each_record (swap v y) t) ≡ pick (same w v) y (lookup w t)
lookup-swap v y o t u k w = lookup-each (swap v y) (swap-keeps v y o) w t u ∙ go (same w v) refl
  where
    go : (b : Bool) → same w v ≡ b → on_record (swap v y) (lookup w t) ≡ pick b y (lookup w t)
    go true e = rw (same_true w v e) (swap-hit v y (lookup v t) (lookup-of v t) k)
    go false e = swap-miss w v y (lookup w t) (lookup-of w t) (differ-sym w v e)

-- and what a test counts
pub tally-swap : (g : Ident → Bool) (w : Ident) (x : Option Rec) (t : Places) → Once t → is_some (lookup w t) ≡ true
    → tally g (each_record (swap w x) t) + hits g (lookup w t) ≡ tally g t + hits g x
unfolding swap
tally-swap g w x [] o k = cc
tally-swap g w x (none ∷ t) o k = omega (arith, tally-swap g w x t o.1 k)
tally-swap g w x (some r ∷ t) o k = go (same w r.who) refl k (tally-swap g w x t o.1)
  where
    go : (b : Bool) → same w r.who ≡ b → is_some (pick b (some r) (lookup w t)) ≡ true
        → (is_some (lookup w t) ≡ true → tally g (each_record (swap w x) t) + hits g (lookup w t) ≡ tally g t + hits g x)
        → hits g (pick b x (some r)) + tally g (each_record (swap w x) t) + hits g (pick b (some r) (lookup w t)) ≡ hits g (some r) + tally g t + hits g x
    go true e k ih = rw (swap-absent w x t (rw (same_true w r.who e) o.0)) (omega arith)
    go false e k ih = omega (arith, ih k)

-- a port that there is not has no record to lose
pub unplug-none : (n q : ℕ) (t : Places) → Ports n t → n ≤ q → each_record (unplug q) t ≡ t
unfolding unplug
unplug-none n q [] h l = refl
unplug-none n q (none ∷ t) h l = ap (λ (u : Places). none ∷ u) (unplug-none n q t h.1 l)
unplug-none n q (some r ∷ t) h l =
    rw (ne_eqb r.who.port q (omega (arith, h.0))) (ap (λ (u : Places). some r ∷ u) (unplug-none n q t h.1 l))

-- A frame

pub is_none : (x : Option Rec) → is_some x ≡ false → x ≡ none
is_none none e = refl
is_none (some r) e = cc

-- what a frame's own identity has afterwards
abbrev pub after : Answered → Rec → Option Rec → Option Rec
after (Ok Recorded) r old = some r
after (Ok Refreshed) r old = some r
after (Ok Gone) r old = none
after (Ok UnknownGoodbye) r old = old
after (Err k) r old = old

after-of : (x : Answered) (r : Rec) (old : Option Rec) → Of r.who old → Of r.who (after x r old)
after-of (Ok Recorded) r old o = refl
after-of (Ok Refreshed) r old o = refl
after-of (Ok Gone) r old o = tt
after-of (Ok UnknownGoodbye) r old o = o
after-of (Err k) r old o = o

-- a test that w fails does not count what w has
unhit : (g : Ident → Bool) (w : Ident) (x : Option Rec) → Of w x → g w ≡ false → hits g x ≡ 0
unhit g w none o e = refl
unhit g w (some r) o e = rw (o, e)

module _ (n : ℕ) (t : Places) (f : FitPlaces n t) (p : ℕ) (a : Announcement) where
  abbrev v : Ident
  v = whose p a

  abbrev rec : Rec
  rec = recorded p a

  unmoved : (w : Ident) → lookup w t ≡ pick (same w v) (lookup v t) (lookup w t)
  unmoved w = go (same w v) refl
    where
      go : (b : Bool) → same w v ≡ b → lookup w t ≡ pick b (lookup v t) (lookup w t)
      go true e = rw (same_true w v e)
      go false e = refl

  -- the answer x leads from t to a fit table, and changes what v has alone; what a test counts moves with that
  record Right (x : Answered) : Type 0 where
    fit : FitPlaces n (act x rec t)
    found : (w : Ident) → lookup w (act x rec t) ≡ pick (same w v) (after x rec (lookup v t)) (lookup w t)
    counted : (g : Ident → Bool) → tally g (act x rec t) + hits g (lookup v t) ≡ tally g t + hits g (after x rec (lookup v t))

  stays : (x : Answered) → act x rec t ≡ t → after x rec (lookup v t) ≡ lookup v t → Right x
  stays x e d = record { fit = rw e f; found = λ w. rw (e, d) (unmoved w); counted = λ g. rw (e, d) refl }

  acts : p < n → (g k : Bool) → is_some (lookup v t) ≡ k → (rm : Room) → room n (λ g. tally g t) v ≡ rm → Right (answer_to g k rm)
  acts l true true d rm m =
      record { fit = fit-each (swap v none) (swap-keeps v none tt) n t f; found = lookup-swap v none tt t f.once d; counted = λ g. tally-swap g v none t f.once d }
  acts l true false d rm m = stays (Ok UnknownGoodbye) refl refl
  acts l false true d rm m =
      record {
        fit = fit-each (swap v (some rec)) (swap-keeps v (some rec) refl) n t f;
        found = lookup-swap v (some rec) refl t f.once d;
        counted = λ g. tally-swap g v (some rec) t f.once d;
      }
  acts l false false d Enough m =
      let k : Fits n (holds_in t) (holds_of t p v.chassis) p = room_fits n (λ g. tally g t) v m in
      let o : Absent v t = lookup_absent v t (is_none (lookup v t) d) in
      let free = room-free n t (holds_of t p v.chassis) p f l k in
      record { fit = fit-enter rec n t f l k o; found = λ w. lookup-enter rec w t free o; counted = λ g. rw (is_none (lookup v t) d) (omega (arith, tally-enter rec g t free)) }
  acts l false false d Loud m = stays (Err ChassisLoud) refl refl
  acts l false false d Full m = stays (Err PortFull) refl refl
  acts l false false d Taken m = stays (Err CommonTaken) refl refl

  frames : Right (reply n p (says a) t)
  unfolding reply
  frames = go (ltb p n) refl
    where
      go : (b : Bool) → ltb p n ≡ b → Right (pick b (answer_to (eqb a.seconds 0) (is_some (lookup v t)) (room n (λ g. tally g t) v)) (Err NoPort))
      go true e = acts (ltb-true p n e) (eqb a.seconds 0) (is_some (lookup v t)) refl (room n (λ g. tally g t) v) refl
      go false e = stays (Err NoPort) refl refl

module _ (n : ℕ) (t : Places) (f : FitPlaces n t) where
  pub frame-fit : (p : ℕ) (x : Heard) → FitPlaces n (after_frame n p x t)
  unfolding after_frame
  frame-fit p (unread k) = f
  frame-fit p (says a) = (frames n t f p a).fit

  -- a frame changes what is found for its own identity, by its answer, and nothing else
  pub frame-lookup : (p : ℕ) (a : Announcement) (w : Ident)
      → lookup w (after_frame n p (says a) t)
      ≡ pick (same w (whose p a)) (after (reply n p (says a) t) (recorded p a) (lookup (whose p a) t)) (lookup w t)
  unfolding after_frame
  frame-lookup p a w = (frames n t f p a).found w

  -- what a test counts moves with that
  pub frame-count : (p : ℕ) (a : Announcement) (g : Ident → Bool)
      → tally g (after_frame n p (says a) t) + hits g (lookup (whose p a) t)
      ≡ tally g t + hits g (after (reply n p (says a) t) (recorded p a) (lookup (whose p a) t))
  unfolding after_frame
  frame-count p a g = (frames n t f p a).counted g

  -- and so a test that its identity fails counts as before
  pub frame-tally : (p : ℕ) (a : Announcement) (g : Ident → Bool) → g (whose p a) ≡ false → tally g (after_frame n p (says a) t) ≡ tally g t
  frame-tally p a g e =
      let w : Ident = whose p a in
      let x : Answered = reply n p (says a) t in
      omega (
        arith,
        frame-count p a g,
        unhit g w (lookup w t) (lookup-of w t) e,
        unhit g w (after x (recorded p a) (lookup w t)) (after-of x (recorded p a) (lookup w t) (lookup-of w t)) e,
      )

  -- every event keeps a fit table fit
  pub step-fit : (e : Event) → FitPlaces n (step n e t)
  step-fit (frame p x) = frame-fit p x
  step-fit (passed s) = fit-each (tick s) (tick-keeps s) n t f
  step-fit (lost p) = fit-each (unplug p) (unplug-keeps p) n t f

-- Start

none_in : (P : Ident → Type 0) (m : ℕ) → InAll P (replicate m none)
none_in P zero = tt
none_in P (suc m) = (tt, none_in P m)

none-once : (m : ℕ) → Once (replicate m none)
none-once zero = tt
none-once (suc m) = (tt, none-once m)

none-tally : (g : Ident → Bool) (m : ℕ) → tally g (replicate m none) ≡ 0
none-tally g zero = refl
none-tally g (suc m) = omega (arith, none-tally g m)

-- a table without records is fit
pub start-fit : (n : ℕ) → FitPlaces n (run n [])
unfolding beyond
start-fit n =
    let held : (q : ℕ) → holds_in (run n []) q ≡ 0 = λ q. none-tally (port_is q) (places_for n) in
    record {
      size = length-replicate (places_for n) none;
      once = none-once (places_for n);
      ports = none_in (λ v. v.port < n) (places_for n);
      six = λ q. omega (arith, held q);
      common = omega (arith, sum_same (λ q. holds_in (run n []) q - sure) (λ q. 0) n (λ q l. omega (arith, held q)), sum-zero n);
      three = λ q c. omega (arith, none-tally (chassis_is q c) (places_for n));
    }

-- and so is every table that a history leads to
pub run-fit : (n : ℕ) (h : History) → FitPlaces n (run n h)
run-fit n [] = start-fit n
run-fit n (e ∷ h) = step-fit n (run n h) (run-fit n h) e

-- A frame by what is known of it: the form in which a table that finds a place by a loop has it

module _ (n : ℕ) (t : Places) (p : ℕ) where
  -- a port that there is not
  pub no-reply : (x : Heard) → n ≤ p → reply n p x t ≡ Err NoPort
  unfolding reply
  no-reply (unread k) h = rw (le-ltb p n h)
  no-reply (says a) h = rw (le-ltb p n h)

  pub no-frame : (x : Heard) → n ≤ p → after_frame n p x t ≡ t
  unfolding after_frame
  no-frame (unread k) h = refl
  no-frame (says a) h = ap (λ (y : Answered). act y (recorded p a) t) (no-reply (says a) h)

  -- a frame that the reader refuses
  pub unread-reply : (k : Refusal) → p < n → reply n p (unread k) t ≡ Err k
  unfolding reply
  unread-reply k h = rw (lt-ltb p n h)

  pub unread-frame : (k : Refusal) → after_frame n p (unread k) t ≡ t
  unfolding after_frame
  unread-frame k = refl

  -- known or not, with the room that there is
  module _ (a : Announcement) (l : p < n) (b : Bool) (rm : Room) (e : is_some (lookup (whose p a) t) ≡ b) (r : room n (λ g. tally g t) (whose p a) ≡ rm) where
    pub reply-is : reply n p (says a) t ≡ answer_to (eqb a.seconds 0) b rm
    unfolding reply
    reply-is = rw (lt-ltb p n l, e, r)

    pub frame_is : after_frame n p (says a) t ≡ act (answer_to (eqb a.seconds 0) b rm) (recorded p a) t
    unfolding after_frame
    frame_is = ap (λ (y : Answered). act y (recorded p a) t) reply-is
