-- Laws of addresses: the test for sameness says what it should, what the loop over six octets cites, addresses as a part, past the end, or in front of other octets.
-- `same-equal` and `same_refl` pass between the test and equality.
use Prim.Native.Nat.{ℕ, ◌+◌, ◌<◌, ◌≤◌}
use mathlib.Core.Path.{◌≡◌, refl, ap, ap₂}
use mathlib.Core.List.{List, [], ◌∷◌, ◌++◌}
use mathlib.Core.Bool.{Bool, true, false, ◌&&◌}
use native.Mathlib.Omega.{arith}
use borrow.Author.Tests.{eq-eqb, eqb-true}
use native.Mathlib.Numerals.{add-one}
use lib.ListN.{length, take, drop, get_or, drop_of_length-le, get_or-eq_default, get_or-append}
use lib.Seq.{drop-cons}
use lib.Dec.{eqb}
use Rattle.std.specs.Prelude.{nat_eq}
use Rattle.std.specs.Cmp.Lexicographic.{pointwise}
use Rattle.tally.specs.Tests.{both}
use Rattle.tally.proofs.TestsLaws.{both_true}
use Rattle.octets.specs.Address.{six_at, same_octets}
use Rattle.octets.proofs.PartLaws.{octet-then}

pub same_refl : (a : List ℕ) → same_octets a a ≡ true
unfolding same_octets
same_refl [] = refl
same_refl (x ∷ a) = rw (eq-eqb x x refl) (same_refl a)

pub same-equal : (a b : List ℕ) → same_octets a b ≡ true → a ≡ b
unfolding same_octets
same-equal [] [] e = refl
same-equal [] (y ∷ b) e = let z : ◌≡◌ {A = Bool} false true = e in cc
same-equal (x ∷ a) [] e = let z : ◌≡◌ {A = Bool} false true = e in cc
same-equal (x ∷ a) (y ∷ b) e =
    let p = both_true (eqb x y) (same_octets a b) e in
    ap₂ (λ (u : ℕ) (l : List ℕ). u ∷ l) (eqb-true x y p.0) (same-equal a b p.1)

-- the test that the code's == makes is this one
pub pointwise-same : (a b : List ℕ) → pointwise nat_eq a b ≡ same_octets a b
unfolding same_octets
pointwise-same [] [] = refl
pointwise-same [] (y ∷ b) = refl
pointwise-same (x ∷ a) [] = refl
pointwise-same (x ∷ a) (y ∷ b) = go (eqb x y) (pointwise-same a b)
  where
    go : (t : Bool) {p q : Bool} → p ≡ q → (t && p) ≡ both t q
    go true e = e
    go false e = refl

pub same-lengths : (a b : List ℕ) → (length a ≡ length b → ⊥) → same_octets a b ≡ false
same-lengths a b d = go (same_octets a b) refl
  where
    go : (t : Bool) → same_octets a b ≡ t → t ≡ false
    go true e = absurd (d (ap (λ (l : List ℕ). length l) (same-equal a b e)))
    go false e = refl

-- the loop over two strings: one octet of each, and the end
module _ (a b : List ℕ) (i : ℕ) where
  pub same_step : i < length a → i < length b
      → same_octets (drop i a) (drop i b) ≡ both (eqb (get_or a i 0) (get_or b i 0)) (same_octets (drop (i + 1) a) (drop (i + 1) b))
  unfolding same_octets
  same_step h k = rw (add-one i, drop-cons a i 0 h, drop-cons b i 0 k)

  pub same_end : length a ≤ i → length b ≤ i → same_octets (drop i a) (drop i b) ≡ true
  unfolding same_octets
  same_end h k = rw (drop_of_length-le a h, drop_of_length-le b k)

-- past the end there are six zeros
pub six-past : (s : List ℕ) (at : ℕ) → length s ≤ at → six_at s at ≡ 0 ∷ 0 ∷ 0 ∷ 0 ∷ 0 ∷ 0 ∷ []
unfolding six_at
six-past s at h =
    let z : (i : ℕ) → get_or s (at + i) 0 ≡ 0 = λ i. get_or-eq_default s 0 (omega arith) in
    rw (get_or-eq_default s 0 h, z 1, z 2, z 3, z 4, z 5)

-- where they are there, the six octets at a place are a part
pub six-there : (s : List ℕ) (at : ℕ) → at + 6 ≤ length s → six_at s at ≡ take 6 (drop at s)
unfolding six_at
six-there s at h =
    ap (take 6)
    (octet-then s at (at + 1) (omega arith) (omega arith)
    (octet-then s (at + 1) (at + 2) (omega arith) (omega arith)
    (octet-then s (at + 2) (at + 3) (omega arith) (omega arith)
    (octet-then s (at + 3) (at + 4) (omega arith) (omega arith)
    (octet-then s (at + 4) (at + 5) (omega arith) (omega arith)
    (octet-then s (at + 5) (at + 6) (omega arith) (omega arith) refl))))))

-- an address in front of other octets is what it was without them
pub six-front : (h s : List ℕ) (at : ℕ) → at + 6 ≤ length h → six_at (h ++ s) at ≡ six_at h at
unfolding six_at
six-front h s at l =
    let e : (i : ℕ) → i < 6 → get_or (h ++ s) (at + i) 0 ≡ get_or h (at + i) 0 = λ i b. get_or-append h s 0 (at + i) (omega arith) in
    rw (get_or-append h s 0 at (omega arith), e 1 (omega arith), e 2 (omega arith), e 3 (omega arith), e 4 (omega arith), e 5 (omega arith))
