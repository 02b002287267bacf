-- What Past.antt computes is what Words.antt says: `in_words`, both ways.
-- An event is quiet for an identity, or clears what was said of it, or is its new announcement; a quiet one only lets time pass.
use Prim.Native.Nat.{ℕ, ◌+◌}
use mathlib.Core.Path.{◌≡◌, refl, sym, ap, ◌∙◌}
use mathlib.Core.Logic.{◌↔◌}
use mathlib.Core.Bool.{Bool, true, false}
use mathlib.Core.List.{[], ◌∷◌, ◌++◌}
use mathlib.Core.Option.{Option, none, some}
use borrow.Author.Tests.{eqb-false, ne_eqb, ltb-true, ltb-false, lt-ltb}
use lib.Dec.{ltb, eqb}
use Rattle.std.specs.Prelude.{Ok, Err}
use Rattle.tally.specs.Tests.{pick}
use Rattle.refusal.specs.declared.Refusal.TheVariants.{NoPort}
use Rattle.rules.specs.Identity.{Ident, same}
use Rattle.rules.specs.Events.{Announcement, unread, says, Event, frame, passed, lost, History, whose}
use Rattle.rules.specs.Shares.{room}
use Rattle.rules.specs.Answers.{Answered, answer_to}
use Rattle.rules.specs.declared.Room.{Room}
use Rattle.rules.specs.declared.Room.TheVariants.{Enough, Loud, Full, Taken}
use Rattle.rules.specs.declared.Reply.TheVariants.{Recorded, Refreshed, Gone, UnknownGoodbye}
use Rattle.rules.proofs.IdentityLaws.{clash, same_true, same_self}
use Rattle.history.specs.Past.{Latest, in_force, older, fresh, on_answer, named, count_by, answer_by, hearing, latest, present, answer}
use Rattle.history.specs.Words.{Accepted, Quiet, AllQuiet, seconds_of, seconds_over, Last, Neighbour}
use Rattle.history.proofs.PastLaws.{older-zero, frame-own, no-port}

-- What an answer makes of what was said before

accepted-fresh : (r : Answered) (a : Announcement) (old : Option Latest) → Accepted r → on_answer r a old ≡ fresh a
accepted-fresh (Ok Recorded) a old h = refl
accepted-fresh (Ok Refreshed) a old h = refl
accepted-fresh (Ok Gone) a old h = absurd h
accepted-fresh (Ok UnknownGoodbye) a old h = absurd h
accepted-fresh (Err k) a old h = absurd h

-- a port that there is? a goodbye? known? and the room
abbrev by_tests : Bool → Bool → Bool → Room → Answered
by_tests b g k rm = pick b (answer_to g k rm) (Err NoPort)

refused-stays : (b k : Bool) (rm : Room) (a : Announcement) (old : Option Latest) → ¬ Accepted (by_tests b false k rm) → on_answer (by_tests b false k rm) a old ≡ old
refused-stays true true rm a old h = absurd (h tt)
refused-stays true false Enough a old h = absurd (h tt)
refused-stays true false Loud a old h = refl
refused-stays true false Full a old h = refl
refused-stays true false Taken a old h = refl
refused-stays false k rm a old h = refl

goodbye-clears : (b k : Bool) (rm : Room) (a : Announcement) (old : Option Latest) → (b ≡ false → old ≡ none) → on_answer (by_tests b true k rm) a old ≡ none
goodbye-clears true true rm a old h = refl
goodbye-clears true false rm a old h = refl
goodbye-clears false k rm a old h = h refl

module _ (n : ℕ) where
  -- One event

  -- a quiet event only lets time pass
  quiet_step : (e : Event) (h : History) (w : Ident) → Quiet n w e h → latest n (e ∷ h) w ≡ older (seconds_of e) (latest n h w)
  unfolding latest hearing answer answer_by
  quiet_step (frame p (unread k)) h w q = sym (older-zero (latest n h w))
  quiet_step (frame p (says a)) h w q = go (same w (whose p a)) refl ∙ sym (older-zero (latest n h w))
    where
      go : (b : Bool) → same w (whose p a) ≡ b → pick b (on_answer (answer n h p (says a)) a (latest n h w)) (latest n h w) ≡ latest n h w
      go false d = refl
      go true d =
          let r = q (same_true w (whose p a) d) in
          let z = ne_eqb a.seconds 0 r.0 in
          rw z
          (refused-stays (ltb p n) (in_force (latest n h (whose p a))) (room n (count_by (latest n h) (named h)) (whose p a)) a (latest n h w)
          (rw z at r.1))
  quiet_step (passed s) h w q = refl
  quiet_step (lost r) h w q = rw (ne_eqb w.port r q) (sym (older-zero (latest n h w)))

  -- a recorded announcement is the latest from then on
  at_once : (h : History) (w : Ident) (a : Announcement) → whose w.port a ≡ w → Accepted (answer n h w.port (says a))
      → latest n (frame w.port (says a) ∷ h) w ≡ fresh a
  at_once h w a o r =
      ap (latest n (frame w.port (says a) ∷ h)) (sym o)
      ∙ frame-own n w.port a h
      ∙ accepted-fresh (answer n h w.port (says a)) a (latest n h (whose w.port a)) r

  data Effect (e : Event) (h : History) (w : Ident) : Type 0 where
    quietly : Quiet n w e h → Effect e h w
    cleared : latest n (e ∷ h) w ≡ none → Effect e h w
    announced : (a : Announcement) → e ≡ frame w.port (says a) → whose w.port a ≡ w → Accepted (answer n h w.port (says a)) → Effect e h w

  goodbye-own : (p : ℕ) (a : Announcement) (h : History) → eqb a.seconds 0 ≡ true → latest n (frame p (says a) ∷ h) (whose p a) ≡ none
  unfolding answer answer_by
  goodbye-own p a h g =
      frame-own n p a h
      ∙ rw g
      (goodbye-clears (ltb p n) (in_force (latest n h (whose p a))) (room n (count_by (latest n h) (named h)) (whose p a)) a (latest n h (whose p a))
      (λ d. no-port n h (whose p a) (ltb-false p n d)))

  effect-own : (p : ℕ) (a : Announcement) (h : History) → Effect (frame p (says a)) h (whose p a)
  effect-own p a h = go (eqb a.seconds 0) refl (answer n h p (says a)) refl
    where
      go : (g : Bool) → eqb a.seconds 0 ≡ g → (r : Answered) → answer n h p (says a) ≡ r → Effect (frame p (says a)) h (whose p a)
      go true g r z = cleared (goodbye-own p a h g)
      go false g (Ok Recorded) z = announced a refl refl (rw z tt)
      go false g (Ok Refreshed) z = announced a refl refl (rw z tt)
      go false g (Ok Gone) z = quietly (λ v. (eqb-false a.seconds 0 g, rw z (λ f. f)))
      go false g (Ok UnknownGoodbye) z = quietly (λ v. (eqb-false a.seconds 0 g, rw z (λ f. f)))
      go false g (Err k) z = quietly (λ v. (eqb-false a.seconds 0 g, rw z (λ f. f)))

  effect : (e : Event) (h : History) (w : Ident) → Effect e h w
  unfolding latest
  effect (frame p (unread k)) h w = quietly tt
  effect (frame p (says a)) h w = go (same w (whose p a)) refl
    where
      go : (b : Bool) → same w (whose p a) ≡ b → Effect (frame p (says a)) h w
      go true d = rw (same_true w (whose p a) d) (effect-own p a h)
      go false d = quietly (λ v. absurd (clash (same w (whose p a)) (rw v (same_self (whose p a))) d))
  effect (passed s) h w = quietly tt
  effect (lost q) h w = go (eqb w.port q) refl
    where
      go : (b : Bool) → eqb w.port q ≡ b → Effect (lost q) h w
      go true d = cleared (rw d)
      go false d = quietly (eqb-false w.port q d)

  -- A history

  -- what is computed, in words
  abbrev Told : History → Ident → Option Latest → Type 0
  Told h w none = Unit {0}
  Told h w (some e) = Last n h w e.said e.since

  extend : (e : Event) (h : History) (w : Ident) (o : Option Latest) → Quiet n w e h → Told h w o → Told (e ∷ h) w (older (seconds_of e) o)
  extend e h w none q l = tt
  extend e h w (some y) q l =
      record {
        before = l.before;
        later = e ∷ l.later;
        split = ap (λ (x : History). e ∷ x) l.split;
        own = l.own;
        recorded = l.recorded;
        quiet = (rw l.split at q, l.quiet);
        passed_since = ap (λ (x : ℕ). x + seconds_of e) l.passed_since;
      }

  to-words : (h : History) (w : Ident) → Told h w (latest n h w)
  unfolding latest
  to-words [] w = tt
  to-words (e ∷ h) w = go (effect e h w) (to-words h w)
    where
      go : Effect e h w → Told h w (latest n h w) → Told (e ∷ h) w (latest n (e ∷ h) w)
      go (quietly q) ih = rw (quiet_step e h w q) (extend e h w (latest n h w) q ih)
      go (cleared z) ih = rw z tt
      go (announced a z o r) ih =
          let y : latest n (e ∷ h) w ≡ fresh a = ap (λ (x : Event). latest n (x ∷ h) w) z ∙ at_once h w a o r in
          rw y (record { before = h; later = []; split = ap (λ (x : Event). x ∷ h) z; own = o; recorded = r; quiet = tt; passed_since = refl })

  from-words : (later before : History) (w : Ident) (a : Announcement) → whose w.port a ≡ w → Accepted (answer n before w.port (says a))
      → AllQuiet n w later (frame w.port (says a) ∷ before)
      → latest n (later ++ (frame w.port (says a) ∷ before)) w ≡ some (record { said = a; since = seconds_over later })
  from-words [] before w a o r q = at_once before w a o r
  from-words (e ∷ later) before w a o r q =
      quiet_step e (later ++ (frame w.port (says a) ∷ before)) w q.0 ∙ ap (older (seconds_of e)) (from-words later before w a o r q.1)

  -- the latest announcement of an identity, computed and in words
  pub in_words : (h : History) (w : Ident) (a : Announcement) (since : ℕ) → (latest n h w ≡ some (record { said = a; since = since })) ↔ Last n h w a since
  in_words h w a since = (
    λ e. rw e at (to-words h w),
    λ l. ap (λ (x : History). latest n x w) l.split
        ∙ from-words l.later l.before w a l.own l.recorded l.quiet
        ∙ ap (λ (x : ℕ). some (record { said = a; since = x })) l.passed_since,
  )

  -- a neighbour, computed and in words
  pub neighbour-present : (h : History) (w : Ident) → Neighbour n h w → present n h w ≡ true
  unfolding present
  neighbour-present h w b = ap in_force ((in_words h w b.said b.since).1 b.last) ∙ lt-ltb b.since b.said.seconds b.time_left

  pub present-neighbour : (h : History) (w : Ident) → present n h w ≡ true → Neighbour n h w
  unfolding present
  present-neighbour h w z = go (latest n h w) refl z
    where
      go : (o : Option Latest) → latest n h w ≡ o → in_force o ≡ true → Neighbour n h w
      go none e d = absurd (clash false d refl)
      go (some y) e d =
          record { said = y.said; since = y.since; last = (in_words h w y.said y.since).0 e; time_left = ltb-true y.since y.said.seconds d }
