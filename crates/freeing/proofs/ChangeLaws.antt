-- What a change makes of a place (N8, N9): the place that its fate leaves.
-- aged-by and lost-by serve the crates above.
use Prim.Native.Nat.{ℕ, ◌-◌, ◌≤◌, ◌<◌}
use mathlib.Core.Path.{◌≡◌, refl, sym, ap, ◌∙◌}
use mathlib.Core.Logic.{◌≢◌}
use mathlib.Core.Bool.{Bool, true, false}
use borrow.Author.Tests.{eqb-true, eqb-false, leb-true, leb-false}
use lib.Dec.{leb, eqb}
use Rattle.std.specs.Prelude.{Option, Some, None}
use Rattle.tally.specs.Tests.{pick}
use Rattle.place.specs.State.{Place, free}
use Rattle.freeing.specs.Changes.{fate_of, met, changed, aged, lost}
use Rattle.freeing.specs.declared.change.Change.{Change}

-- a place meets its fate
pub changed-is : (c : Change) (x : Place) {f g : Option ℕ} → f ≡ fate_of c x.len x.port x.seconds → f ≡ g → changed c x ≡ met g x
unfolding changed
changed-is c x e d = ap (λ (f : Option ℕ). met f x) (sym e ∙ d)

-- whatever holds of each thing that can come of a place holds of what does

abbrev pub less : ℕ → Place → Place
less n x = record { port = x.port; seconds = x.seconds - n; len = x.len; sender = x.sender; body = x.body }

module _ (P : Place → Type 0) (x : Place) (unused : x.len ≡ 0 → P x) where
  pub aged-by : (n : ℕ) → (x.len ≢ 0 → x.seconds ≤ n → P free) → (x.len ≢ 0 → n < x.seconds → P (less n x)) → P (aged n x)
  unfolding changed
  aged-by n gone left = go (eqb x.len 0) refl (leb x.seconds n) refl
    where
      go : (b : Bool) → eqb x.len 0 ≡ b → (c : Bool) → leb x.seconds n ≡ c → P (met (pick b (Some x.seconds) (pick c None (Some (x.seconds - n)))) x)
      go true d c e = unused (eqb-true x.len 0 d)
      go false d true e = gone (eqb-false x.len 0 d) (leb-true x.seconds n e)
      go false d false e = left (eqb-false x.len 0 d) (leb-false x.seconds n e)

  pub lost-by : (p : ℕ) → (x.len ≢ 0 → x.port ≡ p → P free) → (x.len ≢ 0 → x.port ≢ p → P x) → P (lost p x)
  unfolding changed
  lost-by p gone other = go (eqb x.len 0) refl (eqb x.port p) refl
    where
      go : (b : Bool) → eqb x.len 0 ≡ b → (c : Bool) → eqb x.port p ≡ c → P (met (pick b (Some x.seconds) (pick c None (Some x.seconds))) x)
      go true d c e = unused (eqb-true x.len 0 d)
      go false d true e = gone (eqb-false x.len 0 d) (eqb-true x.port p e)
      go false d false e = other (eqb-false x.len 0 d) (eqb-false x.port p e)
