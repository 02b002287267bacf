-- Laws of the two questions: each contract from its one equation, and one turn of the search over the places.
-- What is found at a place is the reader's answer on the LLDPDU that it keeps.
use Prim.Native.Nat.{ℕ, suc, ◌+◌, ◌-◌, ◌≤◌, ◌<◌}
use mathlib.Core.Path.{◌≡◌, refl, ap, ◌∙◌}
use mathlib.Core.List.{List}
use mathlib.Core.Option.{none, some}
use mathlib.Core.Logic.{◌≢◌}
use mathlib.Core.Bool.{Bool, true, false, not}
use native.Mathlib.Numerals.{add-one}
use native.Mathlib.Omega.{arith}
use borrow.Author.Tests.{eq-eqb, ne_eqb, lt-ltb, le-ltb}
use lib.Dec.{eqb, ltb}
use lib.ListN.{length}
use Rattle.std.specs.Prelude.{Option, Result, Ok, Err, Some, None}
use Rattle.tally.specs.Tests.{pick}
use Rattle.tally.proofs.TestsLaws.{held, not-below}
use Rattle.refusal.specs.Refusal.{refusal_of}
use Rattle.refusal.specs.declared.Refusal.{Refusal}
use Rattle.refusal.specs.declared.Refusal.TheVariants.{Unfit, NoPort}
use Rattle.lldpdu.specs.Extent.{rest_of, extent_of}
use Rattle.naming.specs.Naming as naming
use Rattle.naming.specs.declared.Naming.{Naming}
use Rattle.numbers.specs.Sizes.{ports, places}
use Rattle.numbers.specs.Numbers.{holds}
use Rattle.place.specs.State.{State, at, lldpdu_at, lldpdu_in}
use Rattle.place.proofs.ThereLaws.{there-lldpdu}
use Rattle.marks.specs.PlaceFit.{used_tests, ok_used, ok_place}
use Rattle.fitness.specs.Fit.{fit}
use Rattle.fitness.proofs.FitLaws.{fit_parts}
use Rattle.fitness.proofs.KeepLaws.{whole_parts}
use Rattle.fitness.specs.Refusals.{refusal_when_unfit, refusal_on_port}
use Rattle.questions.specs.Sight.{held_in, counted, Counted, sight_in, naming_in, naming_in_place, on_naming, sight_from, sight, seen_from, Sees}
use Rattle.questions.specs.declared.Sight.{Sight}
use Rattle.questions.proofs.LowestLaws.{sight-seen}

-- How many a port holds

module _ (p : ℕ) (s : State) where
  counted-refusal : refusal_of (counted p s) ≡ refusal_on_port p s
  unfolding counted refusal_on_port
  counted-refusal = rw (not-below p ports) (go (fit s) (ltb p ports))
    where
      go : (f l : Bool) → refusal_of (pick f (pick l (Ok (holds s.table p)) (Err NoPort)) (Err Unfit)) ≡ pick (not f) 1 (pick (not l) 2 0)
      go true true = refl
      go true false = refl
      go false l = refl

  counted-held : held_in (counted p s) ≡ pick (eqb (refusal_on_port p s) 0) (some (holds s.table p)) none
  unfolding counted refusal_on_port
  counted-held = rw (not-below p ports) (go (fit s) (ltb p ports))
    where
      go : (f l : Bool) → held_in (pick f (pick l (Ok (holds s.table p)) (Err NoPort)) (Err Unfit))
          ≡ pick (eqb (pick (not f) 1 (pick (not l) 2 0)) 0) (some (holds s.table p)) none
      go true true = refl
      go true false = refl
      go false l = refl

  pub counted-exactly : {r : Result ℕ Refusal} → r ≡ counted p s → Counted p s r
  counted-exactly e = record { exact = e; refusal = ap refusal_of e ∙ counted-refusal; held = ap held_in e ∙ counted-held }

  pub counted-unfit : fit s ≡ false → Err Unfit ≡ counted p s
  unfolding counted
  counted-unfit f = rw f

  pub counted-port : fit s ≡ true → ports ≤ p → Err NoPort ≡ counted p s
  unfolding counted
  counted-port f l = rw (f, le-ltb p ports l)

  pub counted-holds : {n : ℕ} → fit s ≡ true → p < ports → n ≡ holds s.table p → Ok n ≡ counted p s
  unfolding counted
  counted-holds f l e = rw (f, lt-ltb p ports l) (ap Ok e)

-- Who sees an address: a place

module _ (a : List ℕ) (n : ℕ) (l : List ℕ) where
  pub naming-free : n ≡ 0 → None ≡ naming_in a n l
  naming-free e = rw (eq-eqb n 0 e)

  -- the code has the LLDPDU as k, and it is valid
  pub naming-used : {r : Option Naming} {k : List ℕ} → n ≢ 0 → r ≡ naming.first_naming a (rest_of k).tlvs → k ≡ l → extent_of l ≡ Ok (length l) → r ≡ naming_in a n l
  unfolding naming.naming_of
  naming-used u e d v = rw (ne_eqb n 0 u, v) (e ∙ ap (λ (k : List ℕ). naming.first_naming a (rest_of k).tlvs) d)

-- what a used place of a fit table keeps is valid
pub kept-valid : (s : State) → fit s ≡ true → (k : ℕ) → k < places → (at s k).len ≢ 0
    → extent_of (lldpdu_in s.buf k (at s k).len) ≡ Ok (length (lldpdu_in s.buf k (at s k).len))
unfolding ok_place ok_used
kept-valid s f k l u =
    let h = held (used_tests (at s k)) (rw (ne_eqb (at s k).len 0 u) at ((fit_parts s f).good k l)) in
    rw (there-lldpdu s k l) (whole_parts (lldpdu_at (at s k)) (at s k).seconds h.1.1.1.0).extent

pub naming-there : (s : State) (a : List ℕ) (k : ℕ) → k < places → naming_in a (at s k).len (lldpdu_in s.buf k (at s k).len) ≡ naming_in_place a (at s k)
naming-there s a k h = ap (naming_in a (at s k).len) (there-lldpdu s k h)

-- a place that does not name the address is passed over
pub passed_over : (n : Option Naming) (k : ℕ) (rest : Option Sight) → ((x : Naming) → n ≢ Some x) → on_naming n k rest ≡ rest
passed_over None k rest h = refl
passed_over (Some x) k rest h = absurd (h x refl)

-- Who sees an address: the places in turn

module _ (s : State) (a : List ℕ) where
  pub sight-step : (i m : ℕ) {n : Option Naming} → i < m → naming_in_place a (at s i) ≡ n → sight_from s a i (m - i) ≡ on_naming n i (sight_from s a (i + 1) (m - (i + 1)))
  unfolding sight_from
  sight-step i m l e = let h : m - i ≡ suc (m - (i + 1)) = omega arith in rw (h, e, add-one)

  pub sight-end : (i m : ℕ) → m ≤ i → sight_from s a i (m - i) ≡ None
  unfolding sight_from
  sight-end i m l = let h : m - i ≡ 0 = omega arith in rw h

-- Who sees an address: the call

module _ (a : List ℕ) (from : ℕ) (s : State) where
  sight-refusal : refusal_of (sight a from s) ≡ refusal_when_unfit s
  unfolding sight refusal_when_unfit
  sight-refusal = go (fit s)
    where
      go : (b : Bool) → refusal_of (pick b (Ok (sight_from s a from (places - from))) (Err Unfit)) ≡ pick (not b) 1 0
      go true = refl
      go false = refl

  sight-is-seen : sight_in (sight a from s) ≡ pick (fit s) (seen_from s a from (places - from)) none
  unfolding sight
  sight-is-seen = go (fit s)
    where
      go : (b : Bool) → sight_in (pick b (Ok (sight_from s a from (places - from))) (Err Unfit)) ≡ pick b (seen_from s a from (places - from)) none
      go true = sight-seen s a (places - from) from
      go false = refl

  pub sees-exactly : {r : Result (Option Sight) Refusal} → r ≡ sight a from s → Sees a from s r
  sees-exactly e = record { exact = e; refusal = ap refusal_of e ∙ sight-refusal; seen = ap sight_in e ∙ sight-is-seen }

  pub sight-unfit : fit s ≡ false → Err Unfit ≡ sight a from s
  unfolding sight
  sight-unfit f = rw f

  pub sight-fit : {x : Option Sight} → fit s ≡ true → x ≡ sight_from s a from (places - from) → Ok x ≡ sight a from s
  unfolding sight
  sight-fit f e = rw f (ap Ok e)
