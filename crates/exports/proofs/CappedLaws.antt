-- Seconds above 65,535 act as 65,535 (X6): no place has more left, so none outlives either.
-- It holds of any table whose seconds have two octets, fit or not.
use Prim.Native.Nat.{ℕ, zero, suc, ◌+◌, ◌*◌, ◌≤◌, ◌<◌}
use mathlib.Core.Path.{◌≡◌, refl, ap, ◌∙◌}
use mathlib.Core.Bool.{Bool, true, false}
use mathlib.Core.List.{List, [], ◌∷◌}
use native.Mathlib.Decide.{dec_lt}
use native.Mathlib.Omega.{arith}
use mir.Syntax.{w8}
use mir.Val.{Fits}
use borrow.Author.Tests.{le-leb, leb-false}
use lib.Dec.{leb, eqb}
use lib.ListN.{get_or, set, get_or-eq_default}
use Rattle.tally.specs.Tests.{pick}
use Rattle.tally.specs.Tab.{tab}
use Rattle.tally.proofs.TabLaws.{length-tab, get_or-tab}
use Rattle.octets.specs.Numbers.{pair_of}
use Rattle.numbers.specs.Sizes.{places}
use Rattle.place.specs.State.{Place, State, at, put, each, change_at}
use Rattle.freeing.specs.Changes.{aged, changed}
use Rattle.freeing.specs.Calls.{answered, if_fit, passed}
use Rattle.std.specs.Prelude.{Ok}
use Rattle.octet_table.specs.Lent.{Lent, table_in}
use Rattle.exports.specs.Calls.{capped_of}

-- One place

capped-aged : (n : ℕ) (x : Place) → x.seconds < 65536 → aged (capped_of n) x ≡ aged n x
unfolding changed
capped-aged n x h = go (leb n 65535) refl
  where
    go : (b : Bool) → leb n 65535 ≡ b → aged (pick b n 65535) x ≡ aged n x
    go true e = refl
    go false e = rw (le-leb x.seconds 65535 (omega arith), le-leb x.seconds n (omega (arith, leb-false n 65535 e)))

-- no place has more left than it had
aged-less : (n : ℕ) (x : Place) → (aged n x).seconds ≤ x.seconds
unfolding changed
aged-less n x = go (eqb x.len 0) refl (leb x.seconds n) refl
  where
    go : (b : Bool) → eqb x.len 0 ≡ b → (c : Bool) → leb x.seconds n ≡ c → (aged n x).seconds ≤ x.seconds
    go true e c d = rw e (omega arith)
    go false e true d = rw (e, d) (omega arith)
    go false e false d = rw (e, d) (omega arith)

-- All places

abbrev pub Small : List ℕ → Type 0
Small l = (j : ℕ) → get_or l j 0 < 65536

set-small : (l : List ℕ) (k v : ℕ) → v < 65536 → Small l → Small (set l k v)
set-small [] k v b h j = h j
set-small (x ∷ l) zero v b h zero = b
set-small (x ∷ l) zero v b h (suc j) = h (suc j)
set-small (x ∷ l) (suc k) v b h zero = h zero
set-small (x ∷ l) (suc k) v b h (suc j) = set-small l k v b (λ i. h (suc i)) j

module _ (n : ℕ) where
  small-each : (m : ℕ) (s : State) → Small s.table.seconds → Small (each (aged n) m s).table.seconds
  unfolding each change_at put at
  small-each zero s h = h
  small-each (suc m) s h =
      let g = small-each m s h in
      let x = at (each (aged n) m s) m in
      set-small (each (aged n) m s).table.seconds m (aged n x).seconds (omega (arith, aged-less n x, g m)) g

  capped-each : (m : ℕ) (s : State) → Small s.table.seconds → each (aged (capped_of n)) m s ≡ each (aged n) m s
  unfolding each change_at at
  capped-each zero s h = refl
  capped-each (suc m) s h =
      let t = each (aged n) m s in
      ap (λ (u : State). put u m (aged (capped_of n) (at u m))) (capped-each m s h)
      ∙ ap (put t m) (capped-aged n (at t m) (small-each m s h m))

  pub capped-passed : (s : State) → Small s.table.seconds → passed (capped_of n) s ≡ passed n s
  unfolding passed
  capped-passed s h = ap (λ (u : State). if_fit s (answered (Ok tt) u)) (capped-each places s h)

-- a table that octets mean is such a one
pub seconds-small : (x : Lent) → ((i : ℕ) → Fits w8 (get_or x.seconds i 0)) → Small (table_in x).seconds
unfolding table_in
seconds-small x f j =
    let number : ℕ → ℕ = λ i. pair_of (get_or x.seconds (2 * i) 0) (get_or x.seconds (2 * i + 1) 0) in
    elim (dec_lt j places) [
      | yes l ↦ let e : get_or (tab places number) j 0 ≡ number j = get_or-tab places number j 0 l in omega (arith, e, f (2 * j), f (2 * j + 1))
      | no l ↦ let e : get_or (tab places number) j 0 ≡ 0 = get_or-eq_default (tab places number) 0 {n = j} (omega (arith, length-tab places number)) in omega (arith, e)
    ]
