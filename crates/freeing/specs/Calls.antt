-- The calls that answer done or a refusal: Start (N6), seconds passed (N8), link lost (N9).
-- Each gives the answer, the four arrays and every octet of the buffer; and its refusal number by R1, R2 and Q1.
use Rattle.std.specs.Prelude.{ℕ, ◌≡◌, not, List, [], ◌∷◌, Result, Ok, Err, length, eqb, ltb}
use Rattle.tally.specs.Tests.{pick}
use Rattle.tally.specs.Due.{first_due}
use Rattle.refusal.specs.Refusal.{refusal_of}
use Rattle.refusal.specs.declared.Refusal.{Refusal}
use Rattle.refusal.specs.declared.Refusal.TheVariants.{Unfit, NoPort}
use Rattle.numbers.specs.Sizes.{ports, places}
use Rattle.numbers.specs.declared.Table.{Table}
use Rattle.place.specs.State.{State, octets, empty, each}
use Rattle.fitness.specs.Fit.{fit}
use Rattle.freeing.specs.Changes.{aged, lost}
use Rattle.freeing.specs.declared.Outcome.{Outcome}

-- done, or refused
abbrev pub Answer : Type 0
Answer = Result (Unit {0}) Refusal

abbrev pub refused_outcome : Table → Refusal → Outcome
refused_outcome t r = record { table = t; answer = Err r }

-- what a call leaves: answer, numbers, senders and octets
pub record After : Type 0 where
  pub outcome : Outcome
  pub buf : List ℕ

abbrev pub after : Outcome → List ℕ → After
after o b = record { outcome = o; buf = b }

abbrev pub answered : Answer → State → After
answered a s = after (record { table = s.table; answer = a }) s.buf

abbrev pub state_after : After → State
state_after a = record { table = a.outcome.table; buf = a.buf }

-- The contract of such a call: this outcome and these octets and no others, with the refusal number that the rules give
pub record Does (o : Outcome) (b : List ℕ) (want : After) (due : ℕ) : Type 0 where
  pub exact : after o b ≡ want
  pub refusal : refusal_of o.answer ≡ due

unfoldable pub started : State → After
started s = pick (eqb (length s.buf) octets) (answered (Ok tt) empty) (answered (Err Unfit) s)

unfoldable pub refusal_at_start : State → ℕ
refusal_at_start s = first_due ((not (eqb (length s.buf) octets), 1) ∷ [])

-- a fit table answers, any other is refused with 1 (R1); then a port above the last with 2 (R2)
abbrev pub if_fit : State → After → After
if_fit s a = pick (fit s) a (answered (Err Unfit) s)

abbrev pub if_port : ℕ → State → After → After
if_port p s a = pick (ltb p ports) a (answered (Err NoPort) s)

unfoldable pub passed : ℕ → State → After
passed n s = if_fit s (answered (Ok tt) (each (aged n) places s))

unfoldable pub link_lost : ℕ → State → After
link_lost p s = if_fit s (if_port p s (answered (Ok tt) (each (lost p) places s)))
