-- Laws of an ID: how many octets a right one has, and that the test for one ID is equality.
-- Those above cite these and not the rules themselves.
use Prim.Native.Nat.{ℕ, ◌≤◌}
use mathlib.Core.Path.{◌≡◌, refl, sym, ◌∙◌}
use mathlib.Core.List.{List, [], ◌∷◌, map}
use mathlib.Core.Logic.{◌≢◌}
use mathlib.Core.Bool.{Bool, true, false, true≢false, ◌&&◌}
use native.Mathlib.Omega.{arith}
use borrow.Author.Tests.{eqb-true, eq-eqb, ne_eqb, leb-true}
use lib.ListN.{length, get_or}
use lib.Dec.{eqb}
use Rattle.std.specs.List.{list_all}
use Rattle.tally.specs.Tests.{pick, both, all}
use Rattle.tally.specs.Ranges.{all_below}
use Rattle.tally.proofs.TestsLaws.{both_true, both_false, held}
use Rattle.tally.proofs.RangesLaws.{all_listed}
use Rattle.octets.specs.Address.{same_octets}
use Rattle.octets.proofs.AddressLaws.{same_refl, same-equal, same-lengths}
use Rattle.ids.specs.Id.{Id, id, address_ok, digit_ok, local_rules, chassis_ok, port_rules, port_ok, same_id}

address-short : (n : ℕ) → address_ok n ≡ true → (1 ≤ n) × (n ≤ 64)
address-short n e = go (eqb n 6) refl e
  where
    go : (b : Bool) → eqb n 6 ≡ b → pick b true (eqb n 8) ≡ true → (1 ≤ n) × (n ≤ 64)
    go true p q = let z = eqb-true n 6 p in (omega arith, omega arith)
    go false p q = let z = eqb-true n 8 q in (omega arith, omega arith)

-- the characters asked one by one are those asked place by place
list-all-is : (f : ℕ → Bool) (l : List ℕ) → list_all f l ≡ all (map f l)
list-all-is f [] = refl
list-all-is f (x ∷ l) = go (f x) (list-all-is f l)
  where
    go : (t : Bool) {p q : Bool} → p ≡ q → (t && p) ≡ both t q
    go true e = e
    go false e = refl

pub all-digits : (l : List ℕ) → list_all digit_ok l ≡ all_below (λ i. digit_ok (get_or l i 0)) (length l)
all-digits l = list-all-is digit_ok l ∙ sym (all_listed digit_ok l 0)

-- a chassis has 1 to 64 octets behind its subtype, a port ID 1 to 255
pub chassis-short : (d : Id) → chassis_ok d ≡ true → (1 ≤ length d.octets) × (length d.octets ≤ 64)
unfolding chassis_ok
chassis-short d e = go (eqb d.subtype 4) (eqb d.subtype 7) e
  where
    n : ℕ
    n = length d.octets

    go : (a b : Bool) → pick a (address_ok n) (pick b (all (local_rules d.octets)) false) ≡ true → (1 ≤ n) × (n ≤ 64)
    go true b q = address-short n q
    go false true q =
        let h = held (local_rules d.octets) q in
        let x = leb-true 2 n h.0 in
        (omega arith, leb-true n 64 h.1.0)
    go false false q = absurd (true≢false (sym q))

pub port-short : (d : Id) → port_ok d ≡ true → (1 ≤ length d.octets) × (length d.octets ≤ 255)
unfolding port_ok
port-short d e =
    let h = held (port_rules d.subtype (length d.octets)) e in
    (leb-true 1 _ h.1.1.0, leb-true _ 255 h.1.1.1.0)

-- an address of six octets is right, as it was when there was no other
pub six-right : (a : List ℕ) → length a ≡ 6 → chassis_ok (id 4 a) ≡ true
unfolding chassis_ok
six-right a h = rw (eq-eqb (length a) 6 h)

-- none of them has no octets
pub no-chassis : (d : Id) → length d.octets ≡ 0 → chassis_ok d ≡ false
no-chassis d e = go (chassis_ok d) refl
  where
    go : (b : Bool) → chassis_ok d ≡ b → b ≡ false
    go true q = absurd (omega (arith, chassis-short d q))
    go false q = refl

pub no-port : (d : Id) → length d.octets ≡ 0 → port_ok d ≡ false
no-port d e = go (port_ok d) refl
  where
    go : (b : Bool) → port_ok d ≡ b → b ≡ false
    go true q = absurd (omega (arith, port-short d q))
    go false q = refl

-- Two IDs

pub same-id-true : (a b : Id) → same_id a b ≡ true → a ≡ b
unfolding same_id
same-id-true a b e =
    let h = both_true (eqb a.subtype b.subtype) (same_octets a.octets b.octets) e in
    let u = eqb-true a.subtype b.subtype h.0 in
    let o = same-equal a.octets b.octets h.1 in
    λ k. record { subtype = u k; octets = o k }

pub same-id-self : (a : Id) → same_id a a ≡ true
unfolding same_id
same-id-self a = rw (eq-eqb a.subtype a.subtype refl, same_refl a.octets)

-- another subtype, or another number of octets, is another ID
pub other-subtype : (a b : Id) → a.subtype ≢ b.subtype → same_id a b ≡ false
unfolding same_id
other-subtype a b h = rw (ne_eqb a.subtype b.subtype h)

pub other_length : (a b : Id) → length a.octets ≢ length b.octets → same_id a b ≡ false
unfolding same_id
other_length a b h = rw (same-lengths a.octets b.octets h, both_false (eqb a.subtype b.subtype))
