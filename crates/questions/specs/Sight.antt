-- The two questions: how many a port holds (N10), and who sees an address (N11).
-- A sight is found by the reader in the LLDPDU that the place keeps.
use Rattle.std.specs.Prelude.{ℕ, zero, suc, ◌-◌, ◌≡◌, not, List, Result, Ok, Err, Some, None, ltb, eqb}
use Rattle.std.specs.Prelude.{Option as CodeOption}
use Rattle.std.proofs.Math.Option.{Option, none, some}
use Rattle.tally.specs.Tests.{pick}
use Rattle.refusal.specs.Refusal.{refusal_of}
use Rattle.refusal.specs.declared.Refusal.{Refusal}
use Rattle.refusal.specs.declared.Refusal.TheVariants.{Unfit, NoPort}
use Rattle.lldpdu.specs.Extent.{extent_of}
use Rattle.naming.specs.Naming as naming
use Rattle.naming.specs.declared.Number.{Number}
use Rattle.naming.specs.declared.Naming.{Naming}
use Rattle.numbers.specs.Sizes.{ports, places}
use Rattle.numbers.specs.Numbers.{holds}
use Rattle.place.specs.State.{Place, State, at, used, lldpdu_at}
use Rattle.fitness.specs.Fit.{fit}
use Rattle.fitness.specs.Refusals.{refusal_when_unfit, refusal_on_port}
use Rattle.questions.specs.declared.Sight.{Sight}

-- How many a port holds

-- the number held, where the answer is one
abbrev pub held_in : Result ℕ Refusal → Option ℕ
held_in (Ok n) = some n
held_in (Err r) = none

unfoldable pub counted : ℕ → State → Result ℕ Refusal
counted p s = pick (fit s) (pick (ltb p ports) (Ok (holds s.table p)) (Err NoPort)) (Err Unfit)

-- The contract: this answer and no other, with the refusal and the number that the rules give
pub record Counted (p : ℕ) (s : State) (r : Result ℕ Refusal) : Type 0 where
  pub exact : r ≡ counted p s
  pub refusal : refusal_of r ≡ refusal_on_port p s
  pub held : held_in r ≡ pick (eqb (refusal_on_port p s) 0) (some (holds s.table p)) none

-- Who sees an address

-- the place with its two numbers, where there is one
abbrev pub place_seen : CodeOption Sight → Option (ℕ × (Number × Number))
place_seen None = none
place_seen (Some x) = some (x.place, (x.interface, x.port))

abbrev pub sight_in : Result (CodeOption Sight) Refusal → Option (ℕ × (Number × Number))
sight_in (Err r) = none
sight_in (Ok x) = place_seen x

-- an LLDPDU that the reader refuses names nobody
abbrev pub named : Result (CodeOption Naming) Refusal → CodeOption Naming
named (Err r) = None
named (Ok x) = x

-- what the reader finds at a place that has n for a length and keeps l
abbrev pub naming_in : List ℕ → ℕ → List ℕ → CodeOption Naming
naming_in a n l = pick (not (eqb n 0)) (named (naming.naming_of l a)) None

abbrev pub naming_in_place : List ℕ → Place → CodeOption Naming
naming_in_place a x = naming_in a x.len (lldpdu_at x)

abbrev pub on_naming : CodeOption Naming → ℕ → CodeOption Sight → CodeOption Sight
on_naming None k rest = rest
on_naming (Some n) k rest = Some (record { place = k; interface = n.interface; port = n.port })

-- the first of the m places from k on
unfoldable pub sight_from : State → List ℕ → ℕ → ℕ → CodeOption Sight
sight_from s a k zero = None
sight_from s a k (suc m) = on_naming (naming_in_place a (at s k)) k (sight_from s a (suc k) m)

unfoldable pub sight : List ℕ → ℕ → State → Result (CodeOption Sight) Refusal
sight a from s = pick (fit s) (Ok (sight_from s a from (places - from))) (Err Unfit)

-- the same by the rules alone: the reader's rule for one LLDPDU (A4), asked place by place
abbrev pub seen_in_place : List ℕ → Place → Option (Number × Number)
seen_in_place a x = pick (used x) (naming.seen_at (extent_of (lldpdu_at x)) (lldpdu_at x) a) none

abbrev pub on_seen : Option (Number × Number) → ℕ → Option (ℕ × (Number × Number)) → Option (ℕ × (Number × Number))
on_seen none k rest = rest
on_seen (some n) k rest = some (k, n)

unfoldable pub seen_from : State → List ℕ → ℕ → ℕ → Option (ℕ × (Number × Number))
seen_from s a k zero = none
seen_from s a k (suc m) = on_seen (seen_in_place a (at s k)) k (seen_from s a (suc k) m)

-- The contract: this answer and no other, with the refusal, the place and the numbers that the rules give
pub record Sees (a : List ℕ) (from : ℕ) (s : State) (r : Result (CodeOption Sight) Refusal) : Type 0 where
  pub exact : r ≡ sight a from s
  pub refusal : refusal_of r ≡ refusal_when_unfit s
  pub seen : sight_in r ≡ pick (fit s) (seen_from s a from (places - from)) none
