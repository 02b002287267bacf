-- Demand 3 for the code: it holds of every run that the contracts of the public functions allow, from `start` on.
-- The contracts are the toolchain's own reading of the source (`Post`); nothing here looks at the code behind them.
use Prim.Native.Nat.{ℕ, ◌+◌, ◌≤◌, ◌<◌}
use borrow.Fn.Kinds.{Dens, res_t, ended_of}
use contract.Lifetimes.{Lfts}
use denote.Triple.Clauses.{AtExit}
use mathlib.Core.Path.{◌≡◌, sym, ap, ◌∙◌}
use mathlib.Core.Logic.{◌≢◌, ◌↔◌}
use mathlib.Core.List.{List, [], ◌∷◌, ◌++◌}
use native.Mathlib.Omega.{arith}
use borrow.Author.Tests.{eq-eqb}
use lib.Dec.{ltb, eqb}
use lib.ListN.{length}
use Rattle.std.specs.Prelude.{Ok, Err, Some, None}
use Rattle.tally.specs.Tests.{pick}
use Rattle.refusal.specs.Refusal.{refusal_of}
use Rattle.refusal.specs.declared.Refusal.TheVariants as refusal
use Rattle.ids.specs.Id.{Id}
use Rattle.naming.specs.declared.Number.{Number}
use Rattle.rules.specs.Events as event
use Rattle.rules.specs.Events.{Announcement, Heard, says, History, whose}
use Rattle.rules.specs.Shares.{sure, most, per_chassis}
use Rattle.rules.specs.declared.Reply.TheVariants.{Recorded, Refreshed, Gone, UnknownGoodbye}
use Rattle.rules.specs.Model.{Places, holds_in, holds_of, reply}
use Rattle.numbers.specs.Sizes.{ports}
use Rattle.place.specs.State.{State, octets, state}
use Rattle.fitness.specs.Refusals.{refusal_when_unfit}
use Rattle.freeing.specs.Calls.{After, state_after, started}
use Rattle.hearing.specs.Frame.{heard_of, Told, state_told}
use Rattle.fitness.specs.View.{view}
use Rattle.freeing.proofs.start.Kinds as start-kinds
use Rattle.freeing.proofs.start.Reads as start
use Rattle.hearing.proofs.frame_on_port.Kinds as frame-kinds
use Rattle.hearing.proofs.frame_on_port.Reads as frame-on-port
use Rattle.freeing.proofs.seconds_passed.Kinds as passed-kinds
use Rattle.freeing.proofs.seconds_passed.Reads as seconds-passed
use Rattle.freeing.proofs.link_lost.Kinds as lost-kinds
use Rattle.freeing.proofs.link_lost.Reads as link_lost
use Rattle.questions.proofs.how_many.Kinds as many-kinds
use Rattle.questions.proofs.how_many.Reads as how_many
use Rattle.questions.proofs.who_sees.Kinds as sees-kinds
use Rattle.questions.proofs.who_sees.Reads as who-sees
use Rattle.history.specs.Past.{held, answer}
use Rattle.history.specs.Words.{Neighbour}
use Rattle.history.specs.Demand.{New, CommonTaken, Loud, Demand3}
use Rattle.history.specs.Broken.{AllOfChassis, AtMost}
use Rattle.history.specs.Calls.{Called, begun, frame, waited, unplugged, NeighbourNames, Lowest}
use Rattle.fitness.proofs.FitLaws.{fit_parts}
use Rattle.hearing.proofs.ReplyLaws.{fit-not-1}
use Rattle.history.proofs.BrokenLaws.{at_most}
use Rattle.history.proofs.CallsLaws.{reached, always-fit, demand3-table, demand3-replies, demand3-answers, demand3-passed, demand3-lost, demand3-holds}
use Rattle.history.proofs.SeesLaws.{demand3-sees, demand3-unseen}

-- A run: each call is made on the table and the octets that the call before left, and may return whatever its contract allows.
-- The parameters are the table, the buffer, then a port and a frame, seconds, or a port.
pub data Ran : State → History → Type 0 where
  ran-start : (κs : Lfts 1) (a : Dens κs start-kinds.ps) (r : (res_t start-kinds.r κs).Denot) (x : AtExit (ended_of 1 start-kinds.ps start-kinds.r) κs)
      → length a.1.0.now ≡ octets → start.Post κs a r x → Ran (state r.table x.1.0.now) []
  ran-frame : {h : History} (κs : Lfts 2) (a : Dens κs frame-kinds.ps) (r : (res_t frame-kinds.r κs).Denot) (x : AtExit (ended_of 2 frame-kinds.ps frame-kinds.r) κs)
      → Ran (state a.0 a.1.0.now) h → frame-on-port.Post κs a r x
      → Ran (state r.table x.1.0.now) (event.frame a.1.1.0 (heard_of a.1.1.1.0.now) ∷ h)
  ran-passed : {h : History} (κs : Lfts 1) (a : Dens κs passed-kinds.ps) (r : (res_t passed-kinds.r κs).Denot) (x : AtExit (ended_of 1 passed-kinds.ps passed-kinds.r) κs)
      → Ran (state a.0 a.1.0.now) h → seconds-passed.Post κs a r x → Ran (state r.table x.1.0.now) (event.passed a.1.1.0 ∷ h)
  ran-lost : {h : History} (κs : Lfts 1) (a : Dens κs lost-kinds.ps) (r : (res_t lost-kinds.r κs).Denot) (x : AtExit (ended_of 1 lost-kinds.ps lost-kinds.r) κs)
      → Ran (state a.0 a.1.0.now) h → link_lost.Post κs a r x → Ran (state r.table x.1.0.now) (event.lost a.1.1.0 ∷ h)

arrives : {s s' : State} {h : History} → s' ≡ s → Called s h → Called s' h
arrives e c = rw e c

pub ran-called : {s : State} {h : History} → Ran s h → Called s h
ran-called (ran-start κs a r x l post) = arrives (ap state_after post.exact) (begun (state a.0 a.1.0.now) l)
ran-called (ran-frame κs a r x c post) = arrives (ap state_told post.exact) (frame (ran-called c) a.1.1.0 a.1.1.1.0.now)
ran-called (ran-passed κs a r x c post) = arrives (ap state_after post.exact) (waited (ran-called c) a.1.1.0)
ran-called (ran-lost κs a r x c post) = arrives (ap state_after post.exact) (unplugged (ran-called c) a.1.1.0)

-- Demand 3, of the table after any run
pub demand3-code : {s : State} {h : History} → Ran s h → Demand3 ports h (view s)
demand3-code c = demand3-table (ran-called c)

-- A broken agent: a run goes on from s to s', and there nothing came but frames of chassis c on port p
module _ {s s' : State} {h : History} (later : History) (p : ℕ) (c : Id) (r : Ran s h) (r' : Ran s' (later ++ h)) (a : AllOfChassis p c later) where
  pub code-at-most : AtMost (view s) (view s') p c
  code-at-most = rw ((reached (ran-called r)).seen, (reached (ran-called r')).seen) (at_most p c ports h later a)

  -- so where the port held none of it, three places of that port are all it took
  pub code-broken-agent : holds_of (view s) p c ≡ 0 → holds_in (view s') p ≤ holds_in (view s) p + per_chassis
  code-broken-agent z = omega (arith, code-at-most.three, code-at-most.grown, z)

-- One frame more: `frame_on_port` was called after a run and returned r
module _ {h : History} (κs : Lfts 2) (a : Dens κs frame-kinds.ps) (r : (res_t frame-kinds.r κs).Denot) (x : AtExit (ended_of 2 frame-kinds.ps frame-kinds.r) κs)
    (c : Ran (state a.0 a.1.0.now) h) (post : frame-on-port.Post κs a r x) where
  abbrev port : ℕ
  port = a.1.1.0

  abbrev octets_heard : List ℕ
  octets_heard = a.1.1.1.0.now

  pub code-answers : r.reply ≡ answer ports h port (heard_of octets_heard)
  code-answers = ap (λ (t : Told). t.outcome.reply) post.exact ∙ demand3-answers (ran-called c) port octets_heard

  -- never with 1: after a Start the table is fit (R1)
  pub code-frame-not-1 : r.reply ≢ Err refusal.Unfit
  code-frame-not-1 e = fit-not-1 port octets_heard (state a.0 a.1.0.now) (always-fit (ran-called c)) (sym post.refusal ∙ ap refusal_of e)

  -- a valid frame, sentence by sentence
  module _ (said : Announcement) (e : heard_of octets_heard ≡ says said) where
    as-model : r.reply ≡ reply ports port (says said) (view (state a.0 a.1.0.now))
    as-model =
        ap (λ (t : Told). t.outcome.reply) post.exact
        ∙ demand3-replies (ran-called c) port octets_heard
        ∙ ap (λ (y : Heard). reply ports port y (view (state a.0 a.1.0.now))) e

    pub code-sure : New ports h port said → held ports h port < sure → r.reply ≡ Ok Recorded
    code-sure m l = as-model ∙ (demand3-code c).sure_places port said m l

    pub code-seventh-loud : New ports h port said → held ports h port ≡ most → Loud ports h port said → r.reply ≡ Err refusal.ChassisLoud
    code-seventh-loud m l o = as-model ∙ ((demand3-code c).seventh port said m l).0 o

    pub code-seventh : New ports h port said → held ports h port ≡ most → ¬ Loud ports h port said → r.reply ≡ Err refusal.PortFull
    code-seventh m l o = as-model ∙ ((demand3-code c).seventh port said m l).1 o

    module _ (m : New ports h port said) (l : sure ≤ held ports h port) (u : held ports h port < most) where
      pub code-loud : Loud ports h port said → r.reply ≡ Err refusal.ChassisLoud
      code-loud o = as-model ∙ ((demand3-code c).common_places port said m l u).0 o

      pub code-taken : ¬ Loud ports h port said → CommonTaken ports h → r.reply ≡ Err refusal.CommonTaken
      code-taken o t = as-model ∙ ((demand3-code c).common_places port said m l u).1.0 o t

      pub code-untaken : ¬ Loud ports h port said → ¬ CommonTaken ports h → r.reply ≡ Ok Recorded
      code-untaken o t = as-model ∙ ((demand3-code c).common_places port said m l u).1.1 o t

    pub code-known : Neighbour ports h (whose port said) → r.reply ≡ Ok (pick (eqb said.seconds 0) Gone Refreshed)
    code-known b = as-model ∙ (demand3-code c).known port said b

    pub code-goodbye : port < ports → ¬ Neighbour ports h (whose port said) → said.seconds ≡ 0 → r.reply ≡ Ok UnknownGoodbye
    code-goodbye l u z = as-model ∙ (demand3-code c).goodbye port said l u z

-- `start` was called with a buffer of the right length, as it is after a run: it is done
pub code-started : (κs : Lfts 1) (a : Dens κs start-kinds.ps) (r : (res_t start-kinds.r κs).Denot) (x : AtExit (ended_of 1 start-kinds.ps start-kinds.r) κs)
    → length a.1.0.now ≡ octets → start.Post κs a r x → r.answer ≡ Ok tt
unfolding started
code-started κs a r x l post = ap (λ (y : After). y.outcome.answer) post.exact ∙ rw (eq-eqb (length a.1.0.now) octets l)

pub ran-octets : {s : State} {h : History} → Ran s h → length s.buf ≡ octets
ran-octets {s} c = (fit_parts s (always-fit (ran-called c))).long

-- `seconds_passed` and `link_lost` were called after a run: they are done, but for a port that there is not
pub code-passed : {h : History} (κs : Lfts 1) (a : Dens κs passed-kinds.ps) (r : (res_t passed-kinds.r κs).Denot) (x : AtExit (ended_of 1 passed-kinds.ps passed-kinds.r) κs)
    → Ran (state a.0 a.1.0.now) h → seconds-passed.Post κs a r x → r.answer ≡ Ok tt
code-passed κs a r x c post = ap (λ (y : After). y.outcome.answer) post.exact ∙ demand3-passed (ran-called c) a.1.1.0

pub code-lost : {h : History} (κs : Lfts 1) (a : Dens κs lost-kinds.ps) (r : (res_t lost-kinds.r κs).Denot) (x : AtExit (ended_of 1 lost-kinds.ps lost-kinds.r) κs)
    → Ran (state a.0 a.1.0.now) h → link_lost.Post κs a r x → r.answer ≡ pick (ltb a.1.1.0 ports) (Ok tt) (Err refusal.NoPort)
code-lost κs a r x c post = ap (λ (y : After). y.outcome.answer) post.exact ∙ demand3-lost (ran-called c) a.1.1.0

-- `how_many` was asked after a run
pub code_holds : {h : History} (κs : Lfts 1) (a : Dens κs many-kinds.ps) (r : (res_t many-kinds.r κs).Denot) (x : AtExit (ended_of 1 many-kinds.ps many-kinds.r) κs)
    → Ran (state a.0 a.1.0.now) h → how_many.Post κs a r x → r ≡ pick (ltb a.1.1.0 ports) (Ok (held ports h a.1.1.0)) (Err refusal.NoPort)
code_holds κs a r x c post = post.exact ∙ demand3-holds (ran-called c) a.1.1.0

-- `who_sees` was asked after a run, of an address from a place on
module _ {h : History} (κs : Lfts 1) (a : Dens κs sees-kinds.ps) (r : (res_t sees-kinds.r κs).Denot) (x : AtExit (ended_of 1 sees-kinds.ps sees-kinds.r) κs)
    (c : Ran (state a.0 a.1.0.now) h) (post : who-sees.Post κs a r x) where
  abbrev address : List ℕ
  address = a.1.1.0

  abbrev from : ℕ
  from = a.1.1.1.0

  abbrev table : Places
  table = view (state a.0 a.1.0.now)

  pub code-sees : (k : ℕ) (i p : Number) → (r ≡ Ok (Some (record { place = k; interface = i; port = p }))) ↔ Lowest h table address from k (i, p)
  code-sees k i p =
      let d = demand3-sees (ran-called c) address from k i p in
      (λ e. d.0 (sym post.exact ∙ e), λ l. post.exact ∙ d.1 l)

  -- never refused: there is no port, and after a Start the table is fit (R1)
  pub code-sees-unrefused : refusal_of r ≡ 0
  unfolding refusal_when_unfit
  code-sees-unrefused = post.refusal ∙ rw (always-fit (ran-called c))

  pub code-unseen : (r ≡ Ok None) ↔ ((k : ℕ) (y : Number × Number) → from ≤ k → ¬ NeighbourNames h table address k y)
  code-unseen =
      let d = demand3-unseen (ran-called c) address from in
      (λ e. d.0 (sym post.exact ∙ e), λ g. post.exact ∙ d.1 g)
