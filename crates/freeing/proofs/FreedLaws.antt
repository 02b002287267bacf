-- A place is freed by clearing the octets of its record alone: behind them a place that is fit by itself has zeros (N4, N5).
-- While every place is changed in turn, one that was not reached yet is as it was, so that it is still fit by itself.
use Prim.Native.Nat.{ℕ, ◌+◌, ◌-◌, ◌*◌, ◌≤◌, ◌<◌}
use mathlib.Core.Path.{◌≡◌, refl, sym, ap, ap₂, ◌∙◌}
use mathlib.Core.Bool.{Bool, true, false}
use mathlib.Core.List.{List, ◌++◌, append_assoc}
use native.Mathlib.Omega.{arith}
use borrow.Author.Tests.{eqb-true, leb-true}
use lib.Dec.{eqb}
use lib.ListN.{length, take, drop, set, replicate, length-drop, take-append-drop, replicate-append-replicate}
use lib.Seq.{drop-append-le, drop-drop, length-take-le}
use Rattle.std.specs.Prelude.{Option, Some, None}
use Rattle.tally.specs.Tests.{pick}
use Rattle.tally.proofs.TestsLaws.{held}
use Rattle.whole.specs.Whole.{zeros}
use Rattle.whole.proofs.WholeLaws.{zeros_equal}
use Rattle.numbers.specs.Sizes.{places}
use Rattle.place.specs.State.{Place, State, Sized, size, octets, six_zeros, free, state, at, put, each}
use Rattle.place.proofs.PutLaws.{KeepsLong, each-law}
use Rattle.marks.specs.PlaceFit.{free_tests, used_tests, ok_free, ok_used, ok_place}
use Rattle.fitness.specs.Fit.{fit}
use Rattle.fitness.proofs.FitLaws.{fit_parts}
use Rattle.fitness.proofs.KeepLaws.{free-long}
use Rattle.freeing.specs.Changes.{fate_of, met, changed}
use Rattle.freeing.specs.declared.change.Change.{Change}

-- A place that is fit by itself

pub record Behind (x : Place) : Type 0 where
  pub room : x.len ≤ size
  pub empty : zeros (drop x.len x.body) ≡ true

pub behind : (x : Place) → ok_place x ≡ true → Behind x
unfolding ok_place ok_free ok_used
behind x e = go (eqb x.len 0) refl e
  where
    go : (b : Bool) → eqb x.len 0 ≡ b → pick b (ok_free x) (ok_used x) ≡ true → Behind x
    go true d q =
        let z = eqb-true x.len 0 d in
        let h = held (free_tests x.port x.seconds x.sender x.body) q in
        record { room = omega (arith, z); empty = ap (λ (n : ℕ). zeros (drop n x.body)) z ∙ h.1.1.1.0 }
    go false d q =
        let h = held (used_tests x) q in
        record { room = leb-true x.len size h.1.1.0; empty = h.1.1.1.1.0 }

-- Its octets

-- n zeros in front of a place that has zeros behind its first n octets are a place of zeros
module _ (b : List ℕ) (a n : ℕ) (inside : a + size ≤ length b) (short : n ≤ size) (empty : zeros (drop n (take size (drop a b))) ≡ true) where
  body-long : length (take size (drop a b)) ≡ size
  body-long = length-take-le size (drop a b) (omega (arith, length-drop a b))

  rest-zero : drop n (take size (drop a b)) ≡ replicate (size - n) 0
  rest-zero =
      zeros_equal (drop n (take size (drop a b))) empty
      ∙ ap (λ (m : ℕ). replicate m 0) (length-drop n (take size (drop a b)) ∙ ap (λ (m : ℕ). m - n) body-long)

  rest-is : drop (a + n) b ≡ replicate (size - n) 0 ++ drop (a + size) b
  rest-is =
      sym (drop-drop n a b)
      ∙ ap (drop n) (sym (take-append-drop size (drop a b)))
      ∙ drop-append-le n (take size (drop a b)) (drop size (drop a b)) (omega (arith, body-long))
      ∙ ap₂ ◌++◌ rest-zero (drop-drop size a b)

  cleared : replicate n 0 ++ drop (a + n) b ≡ replicate size 0 ++ drop (a + size) b
  cleared =
      let e : n + (size - n) ≡ size = omega arith in
      ap (λ (l : List ℕ). replicate n 0 ++ l) rest-is
      ∙ sym (append_assoc (replicate n 0) (replicate (size - n) 0) (drop (a + size) b))
      ∙ ap (λ (l : List ℕ). l ++ drop (a + size) b) (replicate-append-replicate n (size - n) 0 ∙ ap (λ (m : ℕ). replicate m 0) e)

module _ (s : State) (k : ℕ) (l : k < places) (long : length s.buf ≡ octets) (ok : ok_place (at s k) ≡ true) where
  pub freed-put : {b : List ℕ} → b ≡ take (k * size) s.buf ++ (replicate (at s k).len 0 ++ drop (k * size + (at s k).len) s.buf)
      → state
      (record { port = set s.table.port k 0; seconds = set s.table.seconds k 0; length = set s.table.length k 0; sender = set s.table.sender k six_zeros })
      b
      ≡ put s k free
  unfolding put at
  freed-put e =
      let h = behind (at s k) ok in
      ap (state _) (e ∙ ap (λ (y : List ℕ). take (k * size) s.buf ++ y) (cleared s.buf (k * size) (at s k).len (omega arith) h.room h.empty))

-- A place that was not reached yet

pub changed-long : (c : Change) → KeepsLong (changed c)
unfolding changed
changed-long c x e = go (fate_of c x.len x.port x.seconds)
  where
    go : (f : Option ℕ) → length (met f x).body ≡ size
    go None = free-long
    go (Some left) = e

pub unreached : (c : Change) (s : State) → Sized places s → fit s ≡ true → (i : ℕ) → i < places → {r : State} → r ≡ each (changed c) i s → ok_place (at r i) ≡ true
unreached c s z f i l e =
    ap (λ (r : State). ok_place (at r i)) e
    ∙ ap ok_place ((each-law places s z (changed c) (changed-long c) i (omega arith)).above i (omega arith) l)
    ∙ (fit_parts s f).good i l
