-- Two tables with the same records (E5), for the code: a frame, seconds passed, a lost link and how many get the same answer from both, and leave them with the same records.
-- Who sees is not among these: it answers by places.
use Prim.Native.Nat.{ℕ}
use borrow.Fn.Kinds.{Dens, res_t, ended_of}
use contract.Lifetimes.{Lfts}
use denote.Triple.Clauses.{AtExit}
use mathlib.Core.Path.{◌≡◌, refl, sym, ap, ap₂, subst, ◌∙◌}
use mathlib.Core.Bool.{Bool, true, false}
use mathlib.Core.List.{List}
use borrow.Author.Tests.{ltb-true, ltb-false}
use lib.Dec.{ltb}
use Rattle.rules.specs.Events as event
use Rattle.rules.specs.Events.{Event}
use Rattle.rules.specs.Shares.{port_is}
use Rattle.rules.specs.Model.{reply}
use Rattle.rules.specs.Records.{records_in, SameRecords}
use Rattle.rules.proofs.TwoTablesLaws.{same_count, same-reply, same_step}
use Rattle.rules.specs.Answers.{Answered}
use Rattle.numbers.specs.Sizes.{ports}
use Rattle.numbers.specs.Numbers.{holds}
use Rattle.place.specs.State.{State, state}
use Rattle.fitness.specs.View.{view}
use Rattle.fitness.proofs.ViewLaws.{holds-view}
use Rattle.freeing.specs.Calls.{After, after, state_after, passed, link_lost}
use Rattle.freeing.specs.declared.Outcome.{Outcome}
use Rattle.freeing.proofs.seconds_passed.Kinds as passed-kinds
use Rattle.freeing.proofs.seconds_passed.Reads as seconds-passed
use Rattle.freeing.proofs.link_lost.Kinds as lost-kinds
use Rattle.freeing.proofs.link_lost.Reads as link_lost
use Rattle.hearing.specs.Frame.{heard_of, Told, told, state_told, heard}
use Rattle.hearing.proofs.frame_on_port.Kinds as frame-kinds
use Rattle.hearing.proofs.frame_on_port.Reads as frame-on-port
use Rattle.questions.specs.Sight.{counted}
use Rattle.questions.proofs.how_many.Kinds as many-kinds
use Rattle.questions.proofs.how_many.Reads as how_many
use Rattle.table.proofs.StepLaws.{Kept, Stepped, kept-fit, view-fit, passed_is, passed-step, lost-is, lost-out, lost-step, frame_step, frame-answer}

-- A call of `frame_on_port`, with an outcome that its contract allows

pub record FrameCall : Type 0 where
  pub κs : Lfts 2
  pub a : Dens κs frame-kinds.ps
  pub r : (res_t frame-kinds.r κs).Denot
  pub x : AtExit (ended_of 2 frame-kinds.ps frame-kinds.r) κs
  pub post : frame-on-port.Post κs a r x

abbrev pub before : FrameCall → State
before c = state c.a.0 c.a.1.0.now

abbrev pub behind : FrameCall → State
behind c = state c.r.table c.x.1.0.now

abbrev pub port_of : FrameCall → ℕ
port_of c = c.a.1.1.0

abbrev pub octets_of : FrameCall → List ℕ
octets_of c = c.a.1.1.1.0.now

abbrev pub answer_of : FrameCall → Answered
answer_of c = c.r.reply

abbrev pub told_by : FrameCall → Told
told_by c = told c.r c.x.1.0.now

-- what the contract makes of it, on a table that every call keeps
pub record IsStep (c : FrameCall) : Type 0 where
  pub answer : answer_of c ≡ reply ports (port_of c) (heard_of (octets_of c)) (view (before c))
  pub step : Stepped (before c) (event.frame (port_of c) (heard_of (octets_of c))) (behind c)

pub is-step : (c : FrameCall) → Kept (before c) → IsStep c
is-step c k =
    let e : behind c ≡ state_told (heard (port_of c) (octets_of c) (before c)) = ap state_told c.post.exact in
    record {
      answer = ap (λ (t : Told). t.outcome.reply) c.post.exact ∙ frame-answer (before c) k (port_of c) (octets_of c);
      step = rw e (frame_step (before c) k (port_of c) (octets_of c));
    }

-- two tables that every call keeps, with the same records
pub record SameTables (s s' : State) : Type 0 where
  pub kept : Kept s
  pub kept-too : Kept s'
  pub records : SameRecords (records_in (view s)) (records_in (view s'))

module _ (s s' : State) (t : SameTables s s') where
  -- an event on both
  steps : (e : Event) (u u' : State) → Stepped s e u → Stepped s' e u' → SameTables u u'
  steps e u u' x x' =
      record {
        kept = x.kept;
        kept-too = x'.kept;
        records =
            rw (x.seen, x'.seen)
            (same_step ports (view s) (view s') (view-fit s t.kept) (view-fit s' t.kept-too) t.records e);
      }

  same-passed : (n : ℕ) → ((passed n s).outcome.answer ≡ (passed n s').outcome.answer) × SameTables (state_after (passed n s)) (state_after (passed n s'))
  same-passed n = (
    ap (λ (a : After). a.outcome.answer) (passed_is s t.kept n) ∙ sym (ap (λ (a : After). a.outcome.answer) (passed_is s' t.kept-too n)),
    steps (event.passed n) _ _ (passed-step s t.kept n) (passed-step s' t.kept-too n),
  )

  same-lost : (p : ℕ) → ((link_lost p s).outcome.answer ≡ (link_lost p s').outcome.answer) × SameTables (state_after (link_lost p s)) (state_after (link_lost p s'))
  same-lost p = (go (ltb p ports) refl, steps (event.lost p) _ _ (lost-step s t.kept p) (lost-step s' t.kept-too p))
    where
      go : (b : Bool) → ltb p ports ≡ b → (link_lost p s).outcome.answer ≡ (link_lost p s').outcome.answer
      go true e =
          ap (λ (a : After). a.outcome.answer) (lost-is s t.kept p (ltb-true p ports e))
          ∙ sym (ap (λ (a : After). a.outcome.answer) (lost-is s' t.kept-too p (ltb-true p ports e)))
      go false e =
          ap (λ (a : After). a.outcome.answer) (lost-out s t.kept p (ltb-false p ports e))
          ∙ sym (ap (λ (a : After). a.outcome.answer) (lost-out s' t.kept-too p (ltb-false p ports e)))

  same-counted : (p : ℕ) → counted p s ≡ counted p s'
  unfolding counted
  same-counted p =
      let e : holds s.table p ≡ holds s'.table p =
      sym (holds-view s p) ∙ same_count ports (view s) (view s') (view-fit s t.kept) (view-fit s' t.kept-too) t.records (port_is p) ∙ holds-view s' p in
      rw (kept-fit s t.kept, kept-fit s' t.kept-too, e) refl

-- The same of outcomes that the contracts allow: a call with the same words on two such tables

pub code-same-frame : (x x' : FrameCall) → SameTables (before x) (before x') → port_of x' ≡ port_of x → octets_of x' ≡ octets_of x
    → (answer_of x ≡ answer_of x') × SameTables (behind x) (behind x')
code-same-frame x x' t p f =
    let a = is-step x t.kept in
    let b = is-step x' t.kept-too in
    let e : Stepped (before x') (event.frame (port_of x) (heard_of (octets_of x))) (behind x') =
    subst (λ (v : Event). Stepped (before x') v (behind x')) (ap₂ (λ (q : ℕ) (g : List ℕ). event.frame q (heard_of g)) p f) b.step in (
      a.answer
          ∙ same-reply ports (view (before x)) (view (before x')) (view-fit (before x) t.kept) (view-fit (before x') t.kept-too) t.records (port_of x) (heard_of (octets_of x))
          ∙ ap₂ (λ (q : ℕ) (g : List ℕ). reply ports q (heard_of g) (view (before x'))) (sym p) (sym f)
          ∙ sym b.answer,
      steps (before x) (before x') t (event.frame (port_of x) (heard_of (octets_of x))) (behind x) (behind x') a.step e,
    )

-- what calls that free records leave, by their contracts
does : (o o' : Outcome) (b b' : List ℕ) (w w' : After) → after o b ≡ w → after o' b' ≡ w'
    → (w.outcome.answer ≡ w'.outcome.answer) × SameTables (state_after w) (state_after w') → (o.answer ≡ o'.answer) × SameTables (state o.table b) (state o'.table b')
does o o' b b' w w' e e' h =
    (ap (λ (z : After). z.outcome.answer) e ∙ h.0 ∙ sym (ap (λ (z : After). z.outcome.answer) e'), rw (ap state_after e, ap state_after e') h.1)

module _ (κs κs' : Lfts 1) where
  pub code-same-passed : (a : Dens κs passed-kinds.ps) (r : (res_t passed-kinds.r κs).Denot) (x : AtExit (ended_of 1 passed-kinds.ps passed-kinds.r) κs) → seconds-passed.Post κs a r x
      → (a' : Dens κs' passed-kinds.ps) (r' : (res_t passed-kinds.r κs').Denot) (x' : AtExit (ended_of 1 passed-kinds.ps passed-kinds.r) κs') → seconds-passed.Post κs' a' r' x'
      → SameTables (state a.0 a.1.0.now) (state a'.0 a'.1.0.now) → a'.1.1.0 ≡ a.1.1.0
      → (r.answer ≡ r'.answer) × SameTables (state r.table x.1.0.now) (state r'.table x'.1.0.now)
  code-same-passed a r x post a' r' x' post' t n =
      does r r' x.1.0.now x'.1.0.now _ _ post.exact (post'.exact ∙ rw n refl) (same-passed (state a.0 a.1.0.now) (state a'.0 a'.1.0.now) t a.1.1.0)

  pub code-same-lost : (a : Dens κs lost-kinds.ps) (r : (res_t lost-kinds.r κs).Denot) (x : AtExit (ended_of 1 lost-kinds.ps lost-kinds.r) κs) → link_lost.Post κs a r x
      → (a' : Dens κs' lost-kinds.ps) (r' : (res_t lost-kinds.r κs').Denot) (x' : AtExit (ended_of 1 lost-kinds.ps lost-kinds.r) κs') → link_lost.Post κs' a' r' x'
      → SameTables (state a.0 a.1.0.now) (state a'.0 a'.1.0.now) → a'.1.1.0 ≡ a.1.1.0
      → (r.answer ≡ r'.answer) × SameTables (state r.table x.1.0.now) (state r'.table x'.1.0.now)
  code-same-lost a r x post a' r' x' post' t p =
      does r r' x.1.0.now x'.1.0.now _ _ post.exact (post'.exact ∙ rw p refl) (same-lost (state a.0 a.1.0.now) (state a'.0 a'.1.0.now) t a.1.1.0)

  pub code-same-how-many : (a : Dens κs many-kinds.ps) (r : (res_t many-kinds.r κs).Denot) (x : AtExit (ended_of 1 many-kinds.ps many-kinds.r) κs) → how_many.Post κs a r x
      → (a' : Dens κs' many-kinds.ps) (r' : (res_t many-kinds.r κs').Denot) (x' : AtExit (ended_of 1 many-kinds.ps many-kinds.r) κs') → how_many.Post κs' a' r' x'
      → SameTables (state a.0 a.1.0.now) (state a'.0 a'.1.0.now) → a'.1.1.0 ≡ a.1.1.0 → r ≡ r'
  code-same-how-many a r x post a' r' x' post' t p =
      post.exact
      ∙ same-counted (state a.0 a.1.0.now) (state a'.0 a'.1.0.now) t a.1.1.0
      ∙ sym (post'.exact ∙ ap (λ (q : ℕ). counted q (state a'.0 a'.1.0.now)) p)
