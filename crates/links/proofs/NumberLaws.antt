-- Laws of octets as one number, the first lowest: two strings of octets of one length are the same exactly if their numbers are.
-- The numbers serve the speed of the comparison alone (A4).
use Prim.{Unit, tt}
use Prim.Native.Nat.{ℕ, ◌+◌, ◌-◌, ◌*◌, ◌/◌, ◌≤◌}
use mathlib.Core.Path.{◌≡◌, refl, ap, ◌∙◌}
use mathlib.Core.List.{List, [], ◌∷◌}
use mathlib.Core.Bool.{Bool, true, false}
use native.Mathlib.Omega.{arith}
use mir.Syntax.{w8}
use mir.Val.{Fits}
use borrow.Author.Tests.{eq-eqb, ne_eqb, eqb-true, eqb-false}
use lib.ListN.{length, get_or}
use lib.Seq.{take_all}
use lib.Dec.{eqb}
use Rattle.tally.specs.Tests.{both}
use Rattle.octets.specs.Address.{six_at, same_octets}
use Rattle.octets.proofs.AddressLaws.{six-there}

unfoldable low_first : List ℕ → ℕ
low_first [] = 0
low_first (x ∷ l) = x + 256 * low_first l

abbrev Octets : List ℕ → Type 0
Octets [] = Unit
Octets (x ∷ l) = Fits w8 x × Octets l

-- one octet more
digit : (x y m n : ℕ) → Fits w8 x → Fits w8 y → eqb (x + 256 * m) (y + 256 * n) ≡ both (eqb x y) (eqb m n)
digit x y m n h k = go (eqb x y) refl (eqb m n) refl
  where
    go : (p : Bool) → eqb x y ≡ p → (q : Bool) → eqb m n ≡ q → eqb (x + 256 * m) (y + 256 * n) ≡ both p q
    go true e true f = eq-eqb (x + 256 * m) (y + 256 * n) (omega (arith, eqb-true x y e, eqb-true m n f))
    go true e false f = ne_eqb _ _ (λ (z : x + 256 * m ≡ y + 256 * n). eqb-false m n f (omega (arith, eqb-true x y e)))
    go false e q f = ne_eqb _ _ (λ (z : x + 256 * m ≡ y + 256 * n). eqb-false x y e (omega arith))

same_number : (a b : List ℕ) → length a ≡ length b → Octets a → Octets b → eqb (low_first a) (low_first b) ≡ same_octets a b
unfolding low_first same_octets
same_number [] [] e h k = refl
same_number [] (y ∷ b) e h k = absurd (omega arith)
same_number (x ∷ a) [] e h k = absurd (omega arith)
same_number (x ∷ a) (y ∷ b) e h k = digit x y (low_first a) (low_first b) h.0 k.0 ∙ ap (both (eqb x y)) (same_number a b (omega arith) h.1 k.1)

-- the six octets at a place, read as the last of eight, beside an address
module _ (s a : List ℕ) (at : ℕ) (o : (i : ℕ) → Fits w8 (get_or s i 0)) (p : (i : ℕ) → Fits w8 (get_or a i 0)) where
  same-octet : {i j : ℕ} → i ≡ j → get_or s i 0 ≡ get_or s j 0
  same-octet q = ap (λ (i : ℕ). get_or s i 0) q

  pub number_same : 2 ≤ at → length a ≡ 6 → {f g w : ℕ}
      → f ≡ get_or s (at - 2) 0 + get_or s (at - 2 + 1) 0 * 256 + get_or s (at - 2 + 2) 0 * 65536 + get_or s (at - 2 + 3) 0 * 16777216
      → g ≡ get_or s (at + 2) 0 + get_or s (at + 2 + 1) 0 * 256 + get_or s (at + 2 + 2) 0 * 65536 + get_or s (at + 2 + 3) 0 * 16777216
      → w ≡ get_or a 0 0 + get_or a 1 0 * 256 + get_or a 2 0 * 65536 + get_or a 3 0 * 16777216 + get_or a 4 0 * 4294967296 + get_or a 5 0 * 1099511627776
      → eqb ((f + g * 4294967296) / 65536) w ≡ same_octets (six_at s at) a
  unfolding low_first six_at
  number_same h e {f} {g} {w} x y z =
      let i0 : get_or s (at - 2 + 2) 0 ≡ get_or s at 0 = same-octet (omega arith) in
      let i1 : get_or s (at - 2 + 3) 0 ≡ get_or s (at + 1) 0 = same-octet (omega arith) in
      let i3 : get_or s (at + 2 + 1) 0 ≡ get_or s (at + 3) 0 = same-octet (omega arith) in
      let i4 : get_or s (at + 2 + 2) 0 ≡ get_or s (at + 4) 0 = same-octet (omega arith) in
      let i5 : get_or s (at + 2 + 3) 0 ≡ get_or s (at + 5) 0 = same-octet (omega arith) in
      let there : (f + g * 4294967296) / 65536 ≡ low_first (six_at s at) = omega (arith, x, y, i0, i1, i3, i4, i5, o (at - 2), o (at - 2 + 1)) in
      let wanted : w ≡ low_first (six_at a 0) = omega (arith, z) in
      rw (there, wanted)
      (same_number (six_at s at) (six_at a 0) refl (o at, (o (at + 1), (o (at + 2), (o (at + 3), (o (at + 4), (o (at + 5), tt)))))) (p 0, (p 1, (p 2, (p 3, (p 4, (p 5, tt))))))
      ∙ ap (same_octets (six_at s at)) (six-there a 0 (omega arith) ∙ take_all 6 a (omega arith)))
