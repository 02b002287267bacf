-- Each call on a fit table is a step of the model, and leaves a fit table (N6 to N9).
-- Start gives a fit table without records; from there on every table is fit, and is what the model says.
use Prim.Native.Nat.{ℕ, zero, suc, ◌+◌, ◌*◌, ◌≤◌, ◌<◌}
use mathlib.Core.Path.{◌≡◌, refl, sym, ap, ◌∙◌}
use mathlib.Core.Bool.{Bool, true, false}
use mathlib.Core.List.{List, [], ◌∷◌}
use mathlib.Core.Option.{Option, none}
use native.Mathlib.Omega.{arith}
use borrow.Author.Tests.{eq-eqb, lt-ltb, le-ltb, ltb-true, ltb-false}
use lib.Dec.{ltb}
use lib.ListN.{length, take, drop, replicate, length-replicate, get_or-replicate, length-drop}
use lib.Seq.{ext_get_or, get_or-take, get_or-drop, length-take-le}
use Rattle.std.specs.Prelude.{Ok, Err}
use Rattle.tally.specs.Tab.{tab}
use Rattle.tally.proofs.TabLaws.{tab-same}
use Rattle.refusal.specs.declared.Refusal.TheVariants.{NoPort}
use Rattle.rules.specs.Events as event
use Rattle.rules.specs.Events.{Event}
use Rattle.rules.specs.Model as model
use Rattle.rules.specs.Model.{Rec, Places, tick, unplug, run, reply}
use Rattle.rules.specs.Fit as model-fit
use Rattle.rules.proofs.FrameLaws as model-laws
use Rattle.rules.proofs.FrameLaws.{unplug-none, step-fit}
use Rattle.numbers.specs.Sizes.{ports, places}
use Rattle.numbers.specs.declared.Sender.{Sender}
use Rattle.place.specs.State.{State, Sized, size, octets, six_zeros, no_sender, at, each, free, empty}
use Rattle.marks.specs.PlaceFit.{ok_place}
use Rattle.fitness.specs.Fit.{fit, Fit}
use Rattle.freeing.specs.Changes.{aged, lost}
use Rattle.freeing.specs.Calls.{answered, state_after, started, passed, link_lost}
use Rattle.hearing.specs.Frame.{heard_of, state_told, heard}
use Rattle.fitness.specs.View.{place_of, view}
use Rattle.fitness.proofs.ViewLaws.{place-free, placed, view-fits, fit-view}
use Rattle.fitness.proofs.FitLaws.{parts-fit}
use Rattle.fitness.proofs.KeepLaws.{free-ok}
use Rattle.freeing.proofs.FreedLaws.{changed-long}
use Rattle.table.proofs.PassingLaws.{aged-ok, lost-ok, aged-place, lost-place}
use Rattle.fitness.proofs.WrittenLaws.{Good, each-sized, each-good, each-view}
use Rattle.table.proofs.ModelLaws.{frame_right}

-- what every call keeps
pub record Kept (s : State) : Type 0 where
  pub sized : Sized places s
  pub fit : Fit s

-- s' is where the event e leads from s
pub record Stepped (s : State) (e : Event) (s' : State) : Type 0 where
  pub kept : Kept s'
  pub seen : view s' ≡ model.step ports e (view s)

pub kept-fit : (s : State) → Kept s → fit s ≡ true
kept-fit s k = parts-fit s k.fit

pub view-fit : (s : State) → Kept s → model-fit.FitPlaces ports (view s)
view-fit s k = view-fits s k.fit

-- what is left to show of a table that a step leads to: the model's own step keeps the rest
stepped : (s s' : State) (e : Event) → Kept s → Sized places s' → Good s' → view s' ≡ model.step ports e (view s) → Stepped s e s'
stepped s s' e k z g q =
    record { kept = record { sized = z; fit = fit-view s' z.buf_long g (rw q (step-fit ports (view s) (view-fit s k) e)) }; seen = q }

-- Start

part-zero : (m a n : ℕ) → a + n ≤ m → take n (drop a (replicate {A = ℕ} m 0)) ≡ replicate {A = ℕ} n 0
part-zero m a n h =
    ext_get_or {A = ℕ} 0 (take n (drop a (replicate {A = ℕ} m 0))) (replicate {A = ℕ} n 0) (long ∙ sym (length-replicate {A = ℕ} n 0))
    (λ i l.
    let j : i < n = omega (arith, long) in
    get_or-take n (drop a (replicate {A = ℕ} m 0)) i 0 j
    ∙ get_or-drop a (replicate {A = ℕ} m 0) i 0
    ∙ get_or-replicate {A = ℕ} m (a + i) 0 0 (omega arith)
    ∙ sym (get_or-replicate {A = ℕ} n i 0 0 j))
  where
    long : length (take n (drop a (replicate {A = ℕ} m 0))) ≡ n
    long = length-take-le n (drop a (replicate {A = ℕ} m 0)) (omega (arith, length-drop a (replicate {A = ℕ} m 0), length-replicate {A = ℕ} m 0))

at-empty : (k : ℕ) → k < places → at empty k ≡ free
unfolding at
at-empty k l =
    let z = get_or-replicate {A = ℕ} places k 0 0 l in
    let b = part-zero octets (k * size) size (omega arith) in
    let s = get_or-replicate {A = Sender} places k six_zeros no_sender l in
    λ i. record { port = z i; seconds = z i; len = z i; sender = (s i).octets; body = b i }

empty-sized : Sized places empty
empty-sized =
    record {
      ports_long = length-replicate {A = ℕ} places 0;
      seconds_long = length-replicate {A = ℕ} places 0;
      lengths_long = length-replicate {A = ℕ} places 0;
      senders_long = length-replicate {A = Sender} places six_zeros;
      buf_long = length-replicate {A = ℕ} octets 0;
    }

tab-none : (m : ℕ) → tab {A = Option Rec} m (λ k. none) ≡ replicate m none
unfolding tab
tab-none zero = refl
tab-none (suc m) = ap (λ (t : Places). none ∷ t) (tab-none m)

pub empty-view : view empty ≡ run ports []
unfolding view
empty-view = tab-same places (λ k. none) (placed empty) (λ k l. ap place_of (at-empty k l) ∙ place-free free refl) ∙ tab-none places

pub empty-kept : Kept empty
empty-kept =
    let good : Good empty = λ k l. ap ok_place (at-empty k l) ∙ free-ok in
    record { sized = empty-sized; fit = fit-view empty empty-sized.buf_long good (rw empty-view (model-laws.start-fit ports)) }

-- whatever table and whatever octets it is given
pub record Started (s : State) : Type 0 where
  pub kept : Kept s
  pub seen : view s ≡ run ports []

pub start-fit : (s : State) → length s.buf ≡ octets → Started (state_after (started s))
unfolding started
start-fit s e = rw (eq-eqb (length s.buf) octets e) (record { kept = empty-kept; seen = empty-view })

-- A call on a fit table

module _ (s : State) (k : Kept s) where
  pub passed_is : (n : ℕ) → passed n s ≡ answered (Ok tt) (each (aged n) places s)
  unfolding passed
  passed_is n = rw (kept-fit s k)

  pub passed-step : (n : ℕ) → Stepped s (event.passed n) (state_after (passed n s))
  passed-step n =
      rw (passed_is n)
      (stepped s (each (aged n) places s) (event.passed n) k
      (each-sized s k.sized (aged n) (changed-long _))
      (each-good s k.sized (aged n) (changed-long _) (aged-ok n) k.fit.good)
      (each-view s k.sized (aged n) (changed-long _) (tick n) (aged-place n)))

  pub lost-is : (p : ℕ) → p < ports → link_lost p s ≡ answered (Ok tt) (each (lost p) places s)
  unfolding link_lost
  lost-is p l = rw (kept-fit s k, lt-ltb p ports l)

  pub lost-out : (p : ℕ) → ports ≤ p → link_lost p s ≡ answered (Err NoPort) s
  unfolding link_lost
  lost-out p l = rw (kept-fit s k, le-ltb p ports l)

  -- a port that there is not has no record to lose
  pub lost-step : (p : ℕ) → Stepped s (event.lost p) (state_after (link_lost p s))
  lost-step p = go (ltb p ports) refl
    where
      go : (b : Bool) → ltb p ports ≡ b → Stepped s (event.lost p) (state_after (link_lost p s))
      go true e =
          rw (lost-is p (ltb-true p ports e))
          (stepped s (each (lost p) places s) (event.lost p) k
          (each-sized s k.sized (lost p) (changed-long _))
          (each-good s k.sized (lost p) (changed-long _) (lost-ok p) k.fit.good)
          (each-view s k.sized (lost p) (changed-long _) (unplug p) (lost-place p)))
      go false e =
          let h = ltb-false p ports e in
          rw (lost-out p h) (record { kept = k; seen = sym (unplug-none ports p (view s) (view-fit s k).ports h) })

  pub frame_step : (p : ℕ) (f : List ℕ) → Stepped s (event.frame p (heard_of f)) (state_told (heard p f s))
  frame_step p f =
      let r = frame_right s k.sized k.fit p f in
      stepped s (state_told (heard p f s)) (event.frame p (heard_of f)) k r.sized r.good r.seen

  pub frame-answer : (p : ℕ) (f : List ℕ) → (heard p f s).outcome.reply ≡ reply ports p (heard_of f) (view s)
  frame-answer p f = (frame_right s k.sized k.fit p f).answer
