-- The two questions never disagree with the records (N10, N11).
-- Who sees an address: the lowest place from the given one on whose LLDPDU names it by the reader's rule. How many: the records of that port.
use Prim.Native.Nat.{ℕ, zero, suc, ◌+◌, ◌-◌, ◌≤◌, ◌<◌}
use mathlib.Core.Path.{◌≡◌, refl, sym, ap, ◌∙◌}
use mathlib.Core.Logic.{⊎_elim}
use mathlib.Core.Bool.{Bool, true, false, not}
use mathlib.Core.List.{List}
use mathlib.Core.Option.{Option, none, some, none-ne-some}
use native.Mathlib.Nat.{eq-or-lt_of_le}
use native.Mathlib.Omega.{arith}
use borrow.Author.Tests.{lt-ltb}
use lib.Dec.{eqb}
use lib.ListN.{get_or}
use Rattle.std.specs.Prelude.{Result, Ok, Err, Some, None}
use Rattle.std.specs.Prelude.{Option as CodeOption}
use Rattle.tally.specs.Tests.{pick}
use Rattle.refusal.specs.declared.Refusal.{Refusal}
use Rattle.lldpdu.specs.Extent.{extent_of}
use Rattle.naming.specs.Naming as naming
use Rattle.naming.proofs.NamingLaws.{naming-numbers}
use Rattle.naming.specs.declared.Number.{Number}
use Rattle.naming.specs.declared.Naming.{Naming}
use Rattle.rules.specs.Shares.{port_is}
use Rattle.rules.specs.Model.{Rec}
use Rattle.numbers.specs.Sizes.{ports, places}
use Rattle.place.specs.State.{Place, State, at, used, lldpdu_at, count_records}
use Rattle.fitness.specs.Fit.{fit}
use Rattle.questions.specs.Sight.{counted, place_seen, named, naming_in_place, on_naming, sight_from, sight, seen_in_place, on_seen, seen_from}
use Rattle.fitness.specs.View.{rec_of, place_of, view}
use Rattle.questions.specs.declared.Sight.{Sight}
use Rattle.fitness.proofs.ViewLaws.{get_or-view, count-holds}

-- What the reader finds at a place, by the rules alone

named-numbers : (r : Result (CodeOption Naming) Refusal) → naming.numbers_named (named r) ≡ naming.numbers_of r
named-numbers (Ok n) = refl
named-numbers (Err r) = refl

pub naming-seen : (a : List ℕ) (x : Place) → naming.numbers_named (naming_in_place a x) ≡ seen_in_place a x
naming-seen a x = go (used x)
  where
    go : (b : Bool)
        → naming.numbers_named (pick b (named (naming.naming_of (lldpdu_at x) a)) None) ≡ pick b (naming.seen_at (extent_of (lldpdu_at x)) (lldpdu_at x) a) none
    go true = named-numbers (naming.naming_of (lldpdu_at x) a) ∙ naming-numbers (lldpdu_at x) a
    go false = refl

-- it is asked of the record that the model has there
abbrev pub seen_in_record : List ℕ → Option Rec → Option (Number × Number)
seen_in_record a none = none
seen_in_record a (some r) = naming.seen_at (extent_of r.octets) r.octets a

pub seen-record : (s : State) (a : List ℕ) (k : ℕ) → k < places → seen_in_place a (at s k) ≡ seen_in_record a (get_or (view s) k none)
unfolding place_of
seen-record s a k l = go (eqb (at s k).len 0) ∙ ap (seen_in_record a) (sym (get_or-view s k l))
  where
    x : Place
    x = at s k

    go : (b : Bool) → pick (not b) (naming.seen_at (extent_of (lldpdu_at x)) (lldpdu_at x) a) none ≡ seen_in_record a (pick b none (some (rec_of x)))
    go true = refl
    go false = refl

-- The answer from what is found, and back

abbrev pub sight_of : Option (ℕ × (Number × Number)) → CodeOption Sight
sight_of none = None
sight_of (some (k, (i, p))) = Some (record { place = k; interface = i; port = p })

on-naming : (n : CodeOption Naming) (k : ℕ) (rest : Option (ℕ × (Number × Number))) → on_naming n k (sight_of rest) ≡ sight_of (on_seen (naming.numbers_named n) k rest)
on-naming None k rest = refl
on-naming (Some n) k rest = refl

in-of : (x : Option (ℕ × (Number × Number))) → place_seen (sight_of x) ≡ x
in-of none = refl
in-of (some (k, (i, p))) = refl

-- the place and the numbers of what is found, or else what is given
abbrev place_in : ℕ → Option (ℕ × (Number × Number)) → ℕ
place_in k none = k
place_in k (some x) = x.0

abbrev numbers_in : Number × Number → Option (ℕ × (Number × Number)) → Number × Number
numbers_in n none = n
numbers_in n (some x) = x.1

module _ (s : State) (a : List ℕ) where
  pub sight-is : (m k : ℕ) → sight_from s a k m ≡ sight_of (seen_from s a k m)
  unfolding sight_from seen_from
  sight-is zero k = refl
  sight-is (suc m) k =
      ap (on_naming (naming_in_place a (at s k)) k) (sight-is m (suc k))
      ∙ on-naming (naming_in_place a (at s k)) k (seen_from s a (suc k) m)
      ∙ ap (λ (x : Option (Number × Number)). sight_of (on_seen x k (seen_from s a (suc k) m))) (naming-seen a (at s k))

  pub sight-seen : (m k : ℕ) → place_seen (sight_from s a k m) ≡ seen_from s a k m
  sight-seen m k = ap place_seen (sight-is m k) ∙ in-of (seen_from s a k m)

  -- Which place it is

  -- k is the lowest of the m places from `from` on at which a is named, with the numbers n
  pub record LowestSeen (from m k : ℕ) (n : Number × Number) : Type 0 where
    pub least : from ≤ k
    pub inside : k < from + m
    pub names : seen_in_place a (at s k) ≡ some n
    pub before : (j : ℕ) → from ≤ j → j < k → seen_in_place a (at s j) ≡ none

  -- at none of them
  abbrev pub Unnamed : ℕ → ℕ → Type 0
  Unnamed from m = (j : ℕ) → from ≤ j → j < from + m → seen_in_place a (at s j) ≡ none

  -- what holds of a place and of those above it holds from that place on
  from-here : (P : ℕ → Type 0) (from to : ℕ) → P from → ((j : ℕ) → suc from ≤ j → j < to → P j) → (j : ℕ) → from ≤ j → j < to → P j
  from-here P from to h r j l u = ⊎_elim (λ (e : from ≡ j). rw (← e) h) (λ (m : from < j). r j m u) (eq-or-lt_of_le l)

  found-lowest : (m from k : ℕ) (n : Number × Number) → seen_from s a from m ≡ some (k, n) → LowestSeen from m k n
  unfolding seen_from
  found-lowest zero from k n e = absurd (none-ne-some (k, n) e)
  found-lowest (suc m) from k n e = go (seen_in_place a (at s from)) refl (found-lowest m (suc from) k n) e
    where
      go : (x : Option (Number × Number)) → seen_in_place a (at s from) ≡ x → (seen_from s a (suc from) m ≡ some (k, n) → LowestSeen (suc from) m k n)
          → on_seen x from (seen_from s a (suc from) m) ≡ some (k, n) → LowestSeen from (suc m) k n
      go none d ih q =
          let r = ih q in
          record {
            least = omega (arith, r.least);
            inside = omega (arith, r.inside);
            names = r.names;
            before = from-here (λ j. seen_in_place a (at s j) ≡ none) from k d r.before;
          }
      go (some y) d ih q =
          let f : from ≡ k = ap (place_in from) q in
          let g : y ≡ n = ap (numbers_in y) q in
          record {
            least = omega arith;
            inside = omega arith;
            names = ap (λ (j : ℕ). seen_in_place a (at s j)) (sym f) ∙ d ∙ ap some g;
            before = λ j l u. absurd (omega arith);
          }

  lowest-found : (m from k : ℕ) (n : Number × Number) → LowestSeen from m k n → seen_from s a from m ≡ some (k, n)
  unfolding seen_from
  lowest-found zero from k n l = absurd (omega (arith, l.least, l.inside))
  lowest-found (suc m) from k n l =
      ⊎_elim
      (λ (e : from ≡ k). ap (λ (j : ℕ). on_seen (seen_in_place a (at s j)) j (seen_from s a (suc from) m)) e ∙ rw l.names)
      (λ (u : from < k).
      ap (λ (x : Option (Number × Number)). on_seen x from (seen_from s a (suc from) m)) (l.before from (omega arith) u)
      ∙ lowest-found m (suc from) k n
      (record { least = u; inside = omega (arith, l.inside); names = l.names; before = λ j h v. l.before j (omega arith) v }))
      (eq-or-lt_of_le l.least)

  found_none : (m from : ℕ) → seen_from s a from m ≡ none → Unnamed from m
  unfolding seen_from
  found_none zero from e = λ j l u. absurd (omega arith)
  found_none (suc m) from e = go (seen_in_place a (at s from)) refl (found_none m (suc from)) e
    where
      go : (x : Option (Number × Number)) → seen_in_place a (at s from) ≡ x → (seen_from s a (suc from) m ≡ none → Unnamed (suc from) m)
          → on_seen x from (seen_from s a (suc from) m) ≡ none → Unnamed from (suc m)
      go none d ih q = from-here (λ j. seen_in_place a (at s j) ≡ none) from (from + suc m) d (λ j l u. ih q j l (omega arith))
      go (some y) d ih q = absurd (none-ne-some (from, y) (sym q))

  none_found : (m from : ℕ) → Unnamed from m → seen_from s a from m ≡ none
  unfolding seen_from
  none_found zero from h = refl
  none_found (suc m) from h =
      ap (λ (x : Option (Number × Number)). on_seen x from (seen_from s a (suc from) m)) (h from (omega arith) (omega arith))
      ∙ none_found m (suc from) (λ j l u. h j (omega arith) (omega arith))

  -- the answer names a place exactly where it is the lowest, and nobody exactly where there is none
  module _ (from m : ℕ) where
    pub at-lowest : (k : ℕ) (i p : Number) → sight_from s a from m ≡ Some (record { place = k; interface = i; port = p }) → LowestSeen from m k (i, p)
    at-lowest k i p e = found-lowest m from k (i, p) (sym (sight-seen m from) ∙ ap place_seen e)

    pub lowest-at : (k : ℕ) (i p : Number) → LowestSeen from m k (i, p) → sight_from s a from m ≡ Some (record { place = k; interface = i; port = p })
    lowest-at k i p l = sight-is m from ∙ ap sight_of (lowest-found m from k (i, p) l)

    pub nobody-none : sight_from s a from m ≡ None → Unnamed from m
    nobody-none e = found_none m from (sym (sight-seen m from) ∙ ap place_seen e)

    pub none-nobody : Unnamed from m → sight_from s a from m ≡ None
    none-nobody h = sight-is m from ∙ ap sight_of (none_found m from h)

-- The calls on a fit table

module _ (s : State) (e : fit s ≡ true) where
  pub sight-as-from : (a : List ℕ) (from : ℕ) → sight a from s ≡ Ok (sight_from s a from (places - from))
  unfolding sight
  sight-as-from a from = rw e

  -- how many is the number of used places with that port
  pub counted-fit : (p : ℕ) → p < ports → counted p s ≡ Ok (count_records s (port_is p))
  unfolding counted
  counted-fit p l = rw (e, lt-ltb p ports l) (ap Ok (sym (count-holds s p)))
