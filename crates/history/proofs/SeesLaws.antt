-- "Who sees this address" cannot disagree with the records: after any calls the answer is the lowest place of a neighbour that names it.
-- Who is a neighbour is the history's to say; its latest announcement is what is asked.
use Prim.Native.Nat.{ℕ, ◌-◌, ◌≤◌, ◌<◌}
use mathlib.Core.Path.{◌≡◌, refl, sym, ap, ◌∙◌}
use mathlib.Core.Logic.{◌↔◌}
use mathlib.Core.Bool.{Bool, true, false}
use mathlib.Core.List.{List}
use mathlib.Core.Option.{Option, none, some, none-ne-some}
use native.Mathlib.Omega.{arith}
use borrow.Author.Tests.{ltb-true, ltb-false}
use lib.Dec.{ltb}
use lib.ListN.{get_or, get_or-eq_default}
use Rattle.std.specs.Prelude.{Result, Ok, Some, None}
use Rattle.std.specs.Prelude.{Option as CodeOption}
use Rattle.refusal.specs.declared.Refusal.{Refusal}
use Rattle.lldpdu.specs.Extent.{extent_of}
use Rattle.naming.specs.Naming as naming
use Rattle.naming.specs.declared.Number.{Number}
use Rattle.rules.specs.Events.{History}
use Rattle.rules.specs.Model.{Rec}
use Rattle.numbers.specs.Sizes.{places}
use Rattle.place.specs.State.{State, at}
use Rattle.questions.specs.Sight.{sight, seen_in_place}
use Rattle.questions.specs.declared.Sight.{Sight}
use Rattle.fitness.specs.View.{view}
use Rattle.fitness.proofs.ViewLaws.{view-long}
use Rattle.questions.proofs.LowestLaws as table
use Rattle.questions.proofs.LowestLaws.{seen_in_record, seen-record, sight-as-from, at-lowest, lowest-at, nobody-none, none-nobody}
use Rattle.history.specs.Calls.{Called, NeighbourNames, Lowest}
use Rattle.history.proofs.CallsLaws.{always-fit, demand3-table}

-- two answers that are no refusals
same-told : {x y : CodeOption Sight} → ◌≡◌ {A = Result (CodeOption Sight) Refusal} (Ok x) (Ok y) → x ≡ y
same-told e = cc

module _ {s : State} {h : History} (c : Called s h) (a : List ℕ) where
  -- One place

  names-below : (k : ℕ) (x : Number × Number) → NeighbourNames h (view s) a k x → k < places
  names-below k x m = go (ltb k places) refl
    where
      go : (b : Bool) → ltb k places ≡ b → k < places
      go true e = ltb-true k places e
      go false e =
          let out : get_or (view s) k none ≡ none = get_or-eq_default (view s) none {n = k} (omega (arith, view-long s, ltb-false k places e)) in
          absurd (none-ne-some m.rec (sym out ∙ m.there))

  seen-names : (k : ℕ) (x : Number × Number) → k < places → seen_in_place a (at s k) ≡ some x → NeighbourNames h (view s) a k x
  seen-names k x l e = go (get_or (view s) k none) refl (sym (seen-record s a k l) ∙ e)
    where
      go : (o : Option Rec) → get_or (view s) k none ≡ o → seen_in_record a o ≡ some x → NeighbourNames h (view s) a k x
      go none d z = absurd (none-ne-some x z)
      go (some r) d z =
          let b = ((demand3-table c).exactly r.who).0 (record { rec = r; there = (k, d); own = refl }) in
          let o = (demand3-table c).octets r b.said b.since (k, d) b.last in
          record { rec = r; there = d; neighbour = b; named = ap (λ (l : List ℕ). naming.seen_at (extent_of l) l a) (sym o) ∙ z }

  names-seen : (k : ℕ) (x : Number × Number) → NeighbourNames h (view s) a k x → seen_in_place a (at s k) ≡ some x
  names-seen k x m =
      let b = m.neighbour in
      let o = (demand3-table c).octets m.rec b.said b.since (k, m.there) b.last in
      seen-record s a k (names-below k x m)
      ∙ ap (seen_in_record a) m.there
      ∙ ap (λ (l : List ℕ). naming.seen_at (extent_of l) l a) o
      ∙ m.named

  unseen : (k : ℕ) → k < places → ((x : Number × Number) → ¬ NeighbourNames h (view s) a k x) → seen_in_place a (at s k) ≡ none
  unseen k l f = go (seen_in_place a (at s k)) refl
    where
      go : (o : Option (Number × Number)) → seen_in_place a (at s k) ≡ o → o ≡ none
      go none e = refl
      go (some x) e = absurd (f x (seen-names k x l e))

  not_named : (k : ℕ) → seen_in_place a (at s k) ≡ none → (x : Number × Number) → ¬ NeighbourNames h (view s) a k x
  not_named k e x m = none-ne-some x (sym e ∙ names-seen k x m)

  -- The call

  module _ (from : ℕ) where
    lowest-here : (k : ℕ) (x : Number × Number) → table.LowestSeen s a from (places - from) k x → Lowest h (view s) a from k x
    lowest-here k x l =
        record {
          least = l.least;
          names = seen-names k x (omega (arith, l.least, l.inside)) l.names;
          before = λ j y m u. not_named j (l.before j m u) y;
        }

    lowest-there : (k : ℕ) (x : Number × Number) → Lowest h (view s) a from k x → table.LowestSeen s a from (places - from) k x
    lowest-there k x l =
        let low = names-below k x l.names in
        record {
          least = l.least;
          inside = omega (arith, l.least);
          names = names-seen k x l.names;
          before = λ j m u. unseen j (omega arith) (λ y. l.before j y m u);
        }

    pub demand3-sees : (k : ℕ) (i p : Number) → (sight a from s ≡ Ok (Some (record { place = k; interface = i; port = p }))) ↔ Lowest h (view s) a from k (i, p)
    demand3-sees k i p =
        let f = sight-as-from s (always-fit c) a from in (
          λ e. lowest-here k (i, p) (at-lowest s a from (places - from) k i p (same-told (sym f ∙ e))),
          λ l. f ∙ ap Ok (lowest-at s a from (places - from) k i p (lowest-there k (i, p) l)),
        )

    pub demand3-unseen : (sight a from s ≡ Ok None) ↔ ((k : ℕ) (x : Number × Number) → from ≤ k → ¬ NeighbourNames h (view s) a k x)
    demand3-unseen =
        let f = sight-as-from s (always-fit c) a from in (
          λ e k x l m. let low = names-below k x m in not_named k (nobody-none s a from (places - from) (same-told (sym f ∙ e)) k l (omega arith)) x m,
          λ g. f ∙ ap Ok (none-nobody s a from (places - from) (λ j l u. unseen j (omega arith) (λ x. g j x l))),
        )
