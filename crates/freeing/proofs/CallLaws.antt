-- Laws of the calls that answer done or a refusal: the contract of each return, as the code has it.
-- A test's value gives both the outcome and the refusal number, in the order of Q1.
use Prim.Native.Nat.{ℕ, ◌≤◌, ◌<◌}
use mathlib.Core.Path.{◌≡◌, refl, ap, ap₂, ◌∙◌}
use mathlib.Core.List.{List}
use mathlib.Core.Logic.{◌≢◌}
use mathlib.Core.Bool.{true, false}
use borrow.Author.Tests.{eq-eqb, ne_eqb, lt-ltb, le-ltb, le-leb, lt-leb}
use lib.ListN.{length, replicate}
use Rattle.std.specs.Prelude.{Ok, Err}
use Rattle.refusal.specs.Refusal.{number_of, refusal_of}
use Rattle.refusal.specs.declared.Refusal.{Refusal}
use Rattle.refusal.specs.declared.Refusal.TheVariants.{Unfit, NoPort}
use Rattle.numbers.specs.Sizes.{ports, places}
use Rattle.numbers.specs.declared.Table.{Table}
use Rattle.place.specs.State.{State, octets, state, empty, each}
use Rattle.fitness.specs.Fit.{fit}
use Rattle.freeing.specs.Changes.{aged, lost}
use Rattle.fitness.specs.Refusals.{refusal_when_unfit, refusal_on_port}
use Rattle.freeing.specs.Calls.{refused_outcome, after, answered, Does, started, refusal_at_start, passed, link_lost}
use Rattle.freeing.specs.declared.Outcome.{Outcome}

abbrev pub done : Table → Outcome
done t = record { table = t; answer = Ok tt }

-- a call that is done, and one that is refused
does-done : {t : Table} {b : List ℕ} {r : State} → state t b ≡ r → Does (done t) b (answered (Ok tt) r) 0
does-done e = record { exact = ap (answered (Ok tt)) e; refusal = refl }

module _ (s : State) where
  does-refuse : {o : Outcome} {r : Refusal} → o ≡ refused_outcome s.table r → Does o s.buf (answered (Err r) s) (number_of r)
  does-refuse e = record { exact = ap (λ (x : Outcome). after x s.buf) e; refusal = ap (λ (x : Outcome). refusal_of x.answer) e }

  pub start-refused : {o : Outcome} → length s.buf ≢ octets → o ≡ refused_outcome s.table Unfit → Does o s.buf (started s) (refusal_at_start s)
  unfolding started refusal_at_start
  start-refused l e = rw (ne_eqb _ _ l) (does-refuse e)

  pub start-done : {t : Table} {b : List ℕ} → length s.buf ≡ octets → t ≡ empty.table → b ≡ replicate (length s.buf) 0 → Does (done t) b (started s) (refusal_at_start s)
  unfolding started refusal_at_start
  start-done l et e = rw (eq-eqb _ _ l) (does-done (ap₂ state et (e ∙ ap (λ (n : ℕ). replicate n 0) l)))

  module _ (n : ℕ) where
    pub passed-unfit : {o : Outcome} → fit s ≡ false → o ≡ refused_outcome s.table Unfit → Does o s.buf (passed n s) (refusal_when_unfit s)
    unfolding passed refusal_when_unfit
    passed-unfit f e = rw f (does-refuse e)

    pub passed-done : {t : Table} {b : List ℕ} → fit s ≡ true → state t b ≡ each (aged n) places s → Does (done t) b (passed n s) (refusal_when_unfit s)
    unfolding passed refusal_when_unfit
    passed-done f e = rw f (does-done e)

  module _ (p : ℕ) where
    pub lost-unfit : {o : Outcome} → fit s ≡ false → o ≡ refused_outcome s.table Unfit → Does o s.buf (link_lost p s) (refusal_on_port p s)
    unfolding link_lost refusal_on_port
    lost-unfit f e = rw f (does-refuse e)

    pub lost-port : {o : Outcome} → fit s ≡ true → ports ≤ p → o ≡ refused_outcome s.table NoPort → Does o s.buf (link_lost p s) (refusal_on_port p s)
    unfolding link_lost refusal_on_port
    lost-port f l e = rw (f, le-ltb p ports l, le-leb ports p l) (does-refuse e)

    pub lost-done : {t : Table} {b : List ℕ} → fit s ≡ true → p < ports → state t b ≡ each (lost p) places s → Does (done t) b (link_lost p s) (refusal_on_port p s)
    unfolding link_lost refusal_on_port
    lost-done f l e = rw (f, lt-ltb p ports l, lt-leb ports p l) (does-done e)
