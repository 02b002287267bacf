-- Demand 3 for a caller in C: it holds of every run that the contracts of the exports allow, from a start on.
-- The contracts are the toolchain's own reading of the source (`Post`); each call is a call of history/specs/Calls.antt, and nothing is proved again.
use Prim.{tt}
use Prim.Native.Nat.{ℕ, ◌≤◌}
use borrow.Fn.Kinds.{Dens, res_t, ended_of}
use contract.Lifetimes.{Lfts}
use denote.Triple.Clauses.{AtExit}
use mathlib.Core.Path.{◌≡◌, refl, sym, ap, ◌∙◌}
use mathlib.Core.Logic.{◌⊎◌, inl, inr}
use mathlib.Core.Bool.{true}
use mathlib.Core.List.{List, [], ◌∷◌}
use native.Mathlib.Omega.{arith}
use borrow.Author.Tests.{eq-eqb}
use lib.Dec.{ltb}
use lib.ListN.{length, get_or, replicate}
use Rattle.std.specs.Prelude.{Option, Some, None, Result, Ok, Err}
use Rattle.tally.specs.Tests.{pick}
use Rattle.refusal.specs.Refusal.{refusal_of}
use Rattle.refusal.specs.declared.Refusal.{Refusal}
use Rattle.refusal.specs.declared.Refusal.TheVariants.{NoPort}
use Rattle.naming.specs.declared.Number.{Number}
use Rattle.rules.specs.Events as event
use Rattle.rules.specs.Events.{History}
use Rattle.rules.specs.Answers.{Answered}
use Rattle.rules.specs.Model.{Places}
use Rattle.rules.specs.Records.{records_in, SameRecords}
use Rattle.rules.specs.EitherOrder.{OtherOrder}
use Rattle.numbers.specs.Sizes.{ports}
use Rattle.place.specs.State.{State, octets}
use Rattle.fitness.specs.View.{view}
use Rattle.freeing.specs.Calls.{Answer, refusal_at_start}
use Rattle.hearing.specs.Frame.{heard_of}
use Rattle.questions.specs.Sight.{sight}
use Rattle.questions.specs.declared.Sight.{Sight}
use Rattle.questions.proofs.LowestLaws.{sight-as-from}
use Rattle.history.specs.Past.{held, answer}
use Rattle.history.specs.Demand.{Demand3}
use Rattle.history.specs.Calls.{Called, begun, frame, waited, unplugged, NeighbourNames, Lowest}
use Rattle.history.proofs.CallsLaws.{always-fit, other-order-table, demand3-table, demand3-answers, demand3-passed, demand3-lost, demand3-holds}
use Rattle.history.proofs.SeesLaws.{demand3-sees, demand3-unseen}
use Rattle.octet_table.specs.Lent.{lent, lengths_ok}
use Rattle.octet_answers.specs.Answers.{Back, sight_long, reply_octets, count_octets, place_octets, sight_octets}
use Rattle.exports.specs.Calls.{state_in, frame_right, framing, count_right, counting, see_right, seeing}
use Rattle.exports.proofs.tambolune_start.Kinds as start-kinds
use Rattle.exports.proofs.tambolune_start.Reads as start
use Rattle.exports.proofs.tambolune_frame_on_port.Kinds as frame-kinds
use Rattle.exports.proofs.tambolune_frame_on_port.Reads as frame-on-port
use Rattle.exports.proofs.tambolune_seconds_passed.Kinds as passed-kinds
use Rattle.exports.proofs.tambolune_seconds_passed.Reads as seconds-passed
use Rattle.exports.proofs.tambolune_link_lost.Kinds as lost-kinds
use Rattle.exports.proofs.tambolune_link_lost.Reads as link_lost
use Rattle.exports.proofs.tambolune_how_many.Kinds as many-kinds
use Rattle.exports.proofs.tambolune_how_many.Reads as how_many
use Rattle.exports.proofs.tambolune_who_sees.Kinds as sees-kinds
use Rattle.exports.proofs.tambolune_who_sees.Reads as who-sees

-- A run: each call is made on the slices that the call before left, all of the right length, and may leave whatever its contract allows.
-- The table's slices are the first five parameters; a port and a frame with its answer, seconds or a port stand behind them. Seconds are of any size.
pub data Ran : State → History → Type 0 where
  ran-start : (κs : Lfts 5) (a : Dens κs start-kinds.ps) (r : (res_t start-kinds.r κs).Denot) (x : AtExit (ended_of 5 start-kinds.ps start-kinds.r) κs)
      → lengths_ok (lent a.0.now a.1.0.now a.1.1.0.now a.1.1.1.0.now) ≡ true → length a.1.1.1.1.0.now ≡ octets → start.Post κs a r x
      → Ran (state_in (lent x.0.now x.1.0.now x.1.1.0.now x.1.1.1.0.now) x.1.1.1.1.0.now) []
  ran-frame : {h : History} (κs : Lfts 7) (a : Dens κs frame-kinds.ps) (r : (res_t frame-kinds.r κs).Denot) (x : AtExit (ended_of 7 frame-kinds.ps frame-kinds.r) κs)
      → Ran (state_in (lent a.0.now a.1.0.now a.1.1.0.now a.1.1.1.0.now) a.1.1.1.1.0.now) h
      → frame_right (lent a.0.now a.1.0.now a.1.1.0.now a.1.1.1.0.now) a.1.1.1.1.1.1.1.0.now ≡ true → frame-on-port.Post κs a r x
      → Ran (state_in (lent x.0.now x.1.0.now x.1.1.0.now x.1.1.1.0.now) x.1.1.1.1.0.now)
      (event.frame a.1.1.1.1.1.0 (heard_of a.1.1.1.1.1.1.0.now) ∷ h)
  ran-passed : {h : History} (κs : Lfts 5) (a : Dens κs passed-kinds.ps) (r : (res_t passed-kinds.r κs).Denot) (x : AtExit (ended_of 5 passed-kinds.ps passed-kinds.r) κs)
      → Ran (state_in (lent a.0.now a.1.0.now a.1.1.0.now a.1.1.1.0.now) a.1.1.1.1.0.now) h
      → lengths_ok (lent a.0.now a.1.0.now a.1.1.0.now a.1.1.1.0.now) ≡ true → seconds-passed.Post κs a r x
      → Ran (state_in (lent x.0.now x.1.0.now x.1.1.0.now x.1.1.1.0.now) x.1.1.1.1.0.now) (event.passed a.1.1.1.1.1.0 ∷ h)
  ran-lost : {h : History} (κs : Lfts 5) (a : Dens κs lost-kinds.ps) (r : (res_t lost-kinds.r κs).Denot) (x : AtExit (ended_of 5 lost-kinds.ps lost-kinds.r) κs)
      → Ran (state_in (lent a.0.now a.1.0.now a.1.1.0.now a.1.1.1.0.now) a.1.1.1.1.0.now) h
      → lengths_ok (lent a.0.now a.1.0.now a.1.1.0.now a.1.1.1.0.now) ≡ true → link_lost.Post κs a r x
      → Ran (state_in (lent x.0.now x.1.0.now x.1.1.0.now x.1.1.1.0.now) x.1.1.1.1.0.now) (event.lost a.1.1.1.1.1.0 ∷ h)

arrives : {s s' : State} {h : History} → s' ≡ s → Called s h → Called s' h
arrives e c = rw e c

pub ran-called : {s : State} {h : History} → Ran s h → Called s h
ran-called (ran-start κs a r x l b post) = arrives (post.means l) (begun (state_in (lent a.0.now a.1.0.now a.1.1.0.now a.1.1.1.0.now) a.1.1.1.1.0.now) b)
ran-called (ran-frame κs a r x c l post) = arrives (post.means l) (frame (ran-called c) a.1.1.1.1.1.0 a.1.1.1.1.1.1.0.now)
ran-called (ran-passed κs a r x c l post) = arrives (post.means l) (waited (ran-called c) a.1.1.1.1.1.0)
ran-called (ran-lost κs a r x c l post) = arrives (post.means l) (unplugged (ran-called c) a.1.1.1.1.1.0)

-- Demand 3, of the table that the slices mean
pub demand3-c : {s : State} {h : History} → Ran s h → Demand3 ports h (view s)
demand3-c c = demand3-table (ran-called c)

-- runs that differ in the order of pairs of frames that come to the same lead to the same records (E5)
pub c-other-order : {s s' : State} {h h' : History} → Ran s h → Ran s' h' → OtherOrder ports h h' → SameRecords (records_in (view s)) (records_in (view s'))
c-other-order c c' o = other-order-table (ran-called c) (ran-called c') o

-- One call more, after a run: what it returns, and what its answer then holds

-- of a frame: the code of what the history says, or its refusal
module _ {h : History} (κs : Lfts 7) (a : Dens κs frame-kinds.ps) (r : (res_t frame-kinds.r κs).Denot) (x : AtExit (ended_of 7 frame-kinds.ps frame-kinds.r) κs)
    (c : Ran (state_in (lent a.0.now a.1.0.now a.1.1.0.now a.1.1.1.0.now) a.1.1.1.1.0.now) h)
    (right : frame_right (lent a.0.now a.1.0.now a.1.1.0.now a.1.1.1.0.now) a.1.1.1.1.1.1.1.0.now ≡ true)
    (post : frame-on-port.Post κs a r x) where
  abbrev said : Answered
  said = answer ports h a.1.1.1.1.1.0 (heard_of a.1.1.1.1.1.1.0.now)

  pub c_frame : (r ≡ refusal_of said) × (x.1.1.1.1.1.1.1.0.now ≡ reply_octets said a.1.1.1.1.1.1.1.0.now)
  unfolding framing
  c_frame =
      let e = rw right at post.gives.exact in
      let d = demand3-answers (ran-called c) a.1.1.1.1.1.0 a.1.1.1.1.1.1.0.now in (
        ap (λ (b : Back). b.returned) e ∙ ap (λ (y : Answered). refusal_of y) d,
        ap (λ (b : Back). get_or b.slices 5 []) e ∙ ap (λ (y : Answered). reply_octets y a.1.1.1.1.1.1.1.0.now) d,
      )

-- of a start with a buffer of the right length: nothing is refused
pub c-started : (κs : Lfts 5) (a : Dens κs start-kinds.ps) (r : (res_t start-kinds.r κs).Denot) (x : AtExit (ended_of 5 start-kinds.ps start-kinds.r) κs)
    → lengths_ok (lent a.0.now a.1.0.now a.1.1.0.now a.1.1.1.0.now) ≡ true → length a.1.1.1.1.0.now ≡ octets → start.Post κs a r x → r ≡ 0
unfolding refusal_at_start
c-started κs a r x right b post = post.gives.refusal ∙ rw (right, eq-eqb (length a.1.1.1.1.0.now) octets b) refl

-- of seconds, however many: nothing is refused
pub c-passed : {h : History} (κs : Lfts 5) (a : Dens κs passed-kinds.ps) (r : (res_t passed-kinds.r κs).Denot) (x : AtExit (ended_of 5 passed-kinds.ps passed-kinds.r) κs)
    → Ran (state_in (lent a.0.now a.1.0.now a.1.1.0.now a.1.1.1.0.now) a.1.1.1.1.0.now) h
    → lengths_ok (lent a.0.now a.1.0.now a.1.1.0.now a.1.1.1.0.now) ≡ true → seconds-passed.Post κs a r x → r ≡ 0
c-passed κs a r x c right post =
    ap (λ (b : Back). b.returned) (rw right at post.gives.exact) ∙ ap (λ (y : Answer). refusal_of y) (demand3-passed (ran-called c) a.1.1.1.1.1.0)

-- of a lost link: 2 for a port that there is not
pub c-lost : {h : History} (κs : Lfts 5) (a : Dens κs lost-kinds.ps) (r : (res_t lost-kinds.r κs).Denot) (x : AtExit (ended_of 5 lost-kinds.ps lost-kinds.r) κs)
    → Ran (state_in (lent a.0.now a.1.0.now a.1.1.0.now a.1.1.1.0.now) a.1.1.1.1.0.now) h
    → lengths_ok (lent a.0.now a.1.0.now a.1.1.0.now a.1.1.1.0.now) ≡ true → link_lost.Post κs a r x
    → r ≡ refusal_of {A = Unit {0}} (pick (ltb a.1.1.1.1.1.0 ports) (Ok tt) (Err NoPort))
c-lost κs a r x c right post =
    ap (λ (b : Back). b.returned) (rw right at post.gives.exact) ∙ ap (λ (y : Answer). refusal_of y) (demand3-lost (ran-called c) a.1.1.1.1.1.0)

-- of how many a port holds: as many as the history gives it
module _ {h : History} (κs : Lfts 6) (a : Dens κs many-kinds.ps) (r : (res_t many-kinds.r κs).Denot) (x : AtExit (ended_of 6 many-kinds.ps many-kinds.r) κs)
    (c : Ran (state_in (lent a.0.now a.1.0.now a.1.1.0.now a.1.1.1.0.now) a.1.1.1.1.0.now) h)
    (right : count_right (lent a.0.now a.1.0.now a.1.1.0.now a.1.1.1.0.now) a.1.1.1.1.1.1.0.now ≡ true)
    (post : how_many.Post κs a r x) where
  abbrev holds : Result ℕ Refusal
  holds = pick (ltb a.1.1.1.1.1.0 ports) (Ok (held ports h a.1.1.1.1.1.0)) (Err NoPort)

  pub c-holds : (r ≡ refusal_of holds) × (x.1.1.1.1.1.1.0.now ≡ count_octets holds a.1.1.1.1.1.1.0.now)
  unfolding counting
  c-holds =
      let e = rw right at post.exact in
      let d = demand3-holds (ran-called c) a.1.1.1.1.1.0 in (
        ap (λ (b : Back). b.returned) e ∙ ap refusal_of d,
        ap (λ (b : Back). get_or b.slices 0 []) e ∙ ap (λ (y : Result ℕ Refusal). count_octets y a.1.1.1.1.1.1.0.now) d,
      )

-- of who sees an address: the lowest place of a neighbour that names it, or nobody where there is none
module _ {h : History} (κs : Lfts 7) (a : Dens κs sees-kinds.ps) (r : (res_t sees-kinds.r κs).Denot) (x : AtExit (ended_of 7 sees-kinds.ps sees-kinds.r) κs)
    (c : Ran (state_in (lent a.0.now a.1.0.now a.1.1.0.now a.1.1.1.0.now) a.1.1.1.1.0.now) h)
    (right : see_right (lent a.0.now a.1.0.now a.1.1.0.now a.1.1.1.0.now) a.1.1.1.1.1.0.now a.1.1.1.1.1.1.1.0.now ≡ true)
    (post : who-sees.Post κs a r x) where
  abbrev state : State
  state = state_in (lent a.0.now a.1.0.now a.1.1.0.now a.1.1.1.0.now) a.1.1.1.1.0.now

  abbrev address : List ℕ
  address = a.1.1.1.1.1.0.now

  abbrev from : ℕ
  from = a.1.1.1.1.1.1.0

  abbrev table : Places
  table = view state

  seen-is : (v : Result (Option Sight) Refusal) → sight address from state ≡ v
      → (r ≡ refusal_of v) × (x.1.1.1.1.1.1.1.0.now ≡ sight_octets v a.1.1.1.1.1.1.1.0.now)
  unfolding seeing
  seen-is v d =
      let e = rw right at post.exact in (
        ap (λ (b : Back). b.returned) e ∙ ap refusal_of d,
        ap (λ (b : Back). get_or b.slices 0 []) e ∙ ap (λ (y : Result (Option Sight) Refusal). sight_octets y a.1.1.1.1.1.1.1.0.now) d,
      )

  pub c-sees : (k : ℕ) (i p : Number) → Lowest h table address from k (i, p) → (r ≡ 0) × (x.1.1.1.1.1.1.1.0.now ≡ place_octets k i p)
  c-sees k i p l = seen-is (Ok (Some (record { place = k; interface = i; port = p }))) ((demand3-sees (ran-called c) address from k i p).1 l)

  pub c-unseen : ((k : ℕ) (y : Number × Number) → from ≤ k → ¬ NeighbourNames h table address k y) → (r ≡ 0) × (x.1.1.1.1.1.1.1.0.now ≡ replicate sight_long 0)
  c-unseen f = seen-is (Ok None) ((demand3-unseen (ran-called c) address from).1 f)

  -- one of the two is always so
  pub c-sees-which : ((k : ℕ) × (i : Number) × (p : Number) × Lowest h table address from k (i, p)) ⊎ ((k : ℕ) (y : Number × Number) → from ≤ k → ¬ NeighbourNames h table address k y)
  c-sees-which = go (sight address from state) refl
    where
      go : (v : Result (Option Sight) Refusal) → sight address from state ≡ v
          → ((k : ℕ) × (i : Number) × (p : Number) × Lowest h table address from k (i, p)) ⊎ ((k : ℕ) (y : Number × Number) → from ≤ k → ¬ NeighbourNames h table address k y)
      go (Ok (Some v)) e = inl (v.place, v.interface, v.port, (demand3-sees (ran-called c) address from v.place v.interface v.port).0 e)
      go (Ok None) e = inr ((demand3-unseen (ran-called c) address from).0 e)
      go (Err r) e = let u = sym (sight-as-from state (always-fit (ran-called c)) address from) ∙ e in absurd (let z : ◌≡◌ {A = ℕ} 0 1 = cc in omega arith)
