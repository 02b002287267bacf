-- The test for one identity is equality.
-- `same_true` and `same_self` pass between the two.
use Prim.Native.Nat.{ℕ}
use mathlib.Core.Path.{◌≡◌, refl, sym, ◌∙◌}
use mathlib.Core.Logic.{◌≢◌}
use mathlib.Core.List.{[], ◌∷◌}
use mathlib.Core.Bool.{Bool, true, false}
use native.Mathlib.Omega.{arith}
use borrow.Author.Tests.{eqb-true, eq-eqb, ne_eqb}
use lib.Dec.{eqb}
use Rattle.tally.proofs.TestsLaws.{held, all-fails}
use Rattle.ids.specs.Id.{same_id}
use Rattle.ids.proofs.IdLaws.{same-id-true, same-id-self}
use Rattle.rules.specs.Identity.{Ident, same}

pub clash : (b : Bool) → b ≡ true → b ≡ false → ⊥
clash b p q = let z : ◌≡◌ {A = ℕ} 0 1 = cc in omega arith

pub same_true : (a b : Ident) → same a b ≡ true → a ≡ b
unfolding same
same_true a b e =
    let h = held (eqb a.port b.port ∷ same_id a.chassis b.chassis ∷ same_id a.port_id b.port_id ∷ []) e in
    let p = eqb-true a.port b.port h.0 in
    let c = same-id-true a.chassis b.chassis h.1.0 in
    let i = same-id-true a.port_id b.port_id h.1.1.0 in
    λ k. record { port = p k; chassis = c k; port_id = i k }

pub same_self : (a : Ident) → same a a ≡ true
unfolding same
same_self a = rw (eq-eqb a.port a.port refl, same-id-self a.chassis, same-id-self a.port_id)

-- whatever else is alike, another chassis is another identity
pub other-chassis : (a b : Ident) → same_id a.chassis b.chassis ≡ false → same a b ≡ false
unfolding same
other-chassis a b h = all-fails (eqb a.port b.port ∷ same_id a.chassis b.chassis ∷ same_id a.port_id b.port_id ∷ []) 1 h

-- and so is another port
pub other-port : (a b : Ident) → a.port ≢ b.port → same a b ≡ false
unfolding same
other-port a b h =
    all-fails (eqb a.port b.port ∷ same_id a.chassis b.chassis ∷ same_id a.port_id b.port_id ∷ []) 0 (ne_eqb a.port b.port h)

-- equal to one, then not told apart from the other
pub same-cast : (a b c : Ident) → a ≡ b → same c a ≡ same c b
same-cast a b c e = cc

pub differ-sym : (a b : Ident) → same a b ≡ false → same b a ≡ false
differ-sym a b e = go (same b a) refl
  where
    go : (x : Bool) → same b a ≡ x → same b a ≡ false
    go true d = absurd (clash (same a b) (rw (same_true b a d) (same_self a)) e)
    go false d = d

pub same-sym : (a b : Ident) → same a b ≡ same b a
same-sym a b = go (same a b) refl
  where
    go : (x : Bool) → same a b ≡ x → same a b ≡ same b a
    go true e = rw (same_true a b e)
    go false e = e ∙ sym (differ-sym a b e)
