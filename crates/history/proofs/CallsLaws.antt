-- Demand 3 for any sequence of calls: the table that they lead to is fit, is the model's, and answers as the history says.
-- Each call is a step of the model by the table's own laws; what the model satisfies, the table then does.
use Prim.Native.Nat.{ℕ}
use mathlib.Core.Path.{◌≡◌, refl, sym, ap, ◌∙◌}
use mathlib.Core.Bool.{Bool, true, false}
use mathlib.Core.List.{List, ◌∷◌}
use borrow.Author.Tests.{ltb-true, ltb-false}
use lib.Dec.{ltb}
use Rattle.std.specs.Prelude.{Ok, Err}
use Rattle.tally.specs.Tests.{pick}
use Rattle.refusal.specs.declared.Refusal.TheVariants.{NoPort}
use Rattle.rules.specs.Events as event
use Rattle.rules.specs.Events.{Heard, Event, History}
use Rattle.rules.specs.Model.{step, run, reply}
use Rattle.rules.specs.Records.{records_in, SameRecords}
use Rattle.rules.specs.EitherOrder.{OtherOrder}
use Rattle.rules.proofs.EitherOrderLaws.{other-order, other-order-answers}
use Rattle.numbers.specs.Sizes.{ports}
use Rattle.numbers.specs.Numbers.{holds}
use Rattle.place.specs.State.{State}
use Rattle.fitness.specs.Fit.{fit}
use Rattle.freeing.specs.Calls.{passed, link_lost, After}
use Rattle.hearing.specs.Frame.{heard_of, heard}
use Rattle.questions.specs.Sight.{counted}
use Rattle.fitness.specs.View.{view}
use Rattle.fitness.proofs.ViewLaws.{holds-view}
use Rattle.table.proofs.StepLaws.{Kept, Stepped, kept-fit, start-fit, passed_is, passed-step, lost-is, lost-out, lost-step, frame_step, frame-answer}
use Rattle.history.specs.Past.{held, answer}
use Rattle.history.specs.Demand.{Demand3}
use Rattle.history.specs.Calls.{Called, begun, frame, waited, unplugged}
use Rattle.history.proofs.DemandLaws.{demand3}

-- a state that calls lead to: fit, and what the model says
pub record Reached (s : State) (h : History) : Type 0 where
  pub kept : Kept s
  pub seen : view s ≡ run ports h

next : {s s' : State} {h : History} (e : Event) → Reached s h → Stepped s e s' → Reached s' (e ∷ h)
next e r x = record { kept = x.kept; seen = x.seen ∙ ap (step ports e) r.seen }

pub reached : {s : State} {h : History} → Called s h → Reached s h
reached (begun s e) = let x = start-fit s e in record { kept = x.kept; seen = x.seen }
reached (frame {s} {h} c p f) = let r = reached c in next (event.frame p (heard_of f)) r (frame_step s r.kept p f)
reached (waited {s} {h} c n) = let r = reached c in next (event.passed n) r (passed-step s r.kept n)
reached (unplugged {s} {h} c p) = let r = reached c in next (event.lost p) r (lost-step s r.kept p)

module _ {s : State} {h : History} (c : Called s h) where
  -- so no call after a Start is refused with 1 (R1)
  pub always-fit : fit s ≡ true
  always-fit = kept-fit s (reached c).kept

  -- Demand 3, of the table
  pub demand3-table : Demand3 ports h (view s)
  demand3-table = rw (reached c).seen (demand3 ports h)

  -- the frame call answers as the model does on this table, so as `demand3-table` says sentence by sentence, and as the history says
  pub demand3-replies : (p : ℕ) (f : List ℕ) → (heard p f s).outcome.reply ≡ reply ports p (heard_of f) (view s)
  demand3-replies p f = frame-answer s (reached c).kept p f

  pub demand3-answers : (p : ℕ) (f : List ℕ) → (heard p f s).outcome.reply ≡ answer ports h p (heard_of f)
  demand3-answers p f = demand3-replies p f ∙ demand3-table.answers p (heard_of f)

  -- seconds passed and link lost are done, but for a port that there is not
  pub demand3-passed : (n : ℕ) → (passed n s).outcome.answer ≡ Ok tt
  demand3-passed n = ap (λ (a : After). a.outcome.answer) (passed_is s (reached c).kept n)

  pub demand3-lost : (p : ℕ) → (link_lost p s).outcome.answer ≡ pick (ltb p ports) (Ok tt) (Err NoPort)
  demand3-lost p = go (ltb p ports) refl
    where
      go : (b : Bool) → ltb p ports ≡ b → (link_lost p s).outcome.answer ≡ pick b (Ok tt) (Err NoPort)
      go true e = ap (λ (a : After). a.outcome.answer) (lost-is s (reached c).kept p (ltb-true p ports e))
      go false e = ap (λ (a : After). a.outcome.answer) (lost-out s (reached c).kept p (ltb-false p ports e))

  -- how many a port holds is how many neighbours the history gives it
  pub demand3-holds : (p : ℕ) → counted p s ≡ pick (ltb p ports) (Ok (held ports h p)) (Err NoPort)
  unfolding counted
  demand3-holds p = let e : holds s.table p ≡ held ports h p = sym (holds-view s p) ∙ demand3-table.how_many p in rw (always-fit, e)

-- Histories of which the one becomes the other where pairs of frames change places that come to the same (E5)

pub other-order-table : {s s' : State} {h h' : History} → Called s h → Called s' h' → OtherOrder ports h h' → SameRecords (records_in (view s)) (records_in (view s'))
other-order-table c c' o = rw ((reached c).seen, (reached c').seen) (other-order ports o)

-- what the history says of a further frame, with any number of ports
pub other-order-said : (n : ℕ) {h h' : History} → OtherOrder n h h' → (p : ℕ) (x : Heard) → answer n h p x ≡ answer n h' p x
other-order-said n {h} {h'} o p x = sym ((demand3 n h).answers p x) ∙ other-order-answers n o p x ∙ (demand3 n h').answers p x
