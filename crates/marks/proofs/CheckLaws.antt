-- Laws of a place by itself, as the fitness test asks it: each return of the code is one line here.
-- Whether an LLDPDU is whole is asked of its extent first (N5 b, c).
use Prim.Native.Nat.{ℕ, zero, suc, ◌+◌, ◌-◌, ◌*◌, ◌%◌, ◌≤◌, ◌<◌}
use mathlib.Core.Path.{◌≡◌, refl, sym, ap, ap₂, ◌∙◌}
use mathlib.Core.Logic.{◌≢◌}
use mathlib.Core.Bool.{Bool, true, false, not}
use mathlib.Core.List.{List, [], ◌∷◌}
use native.Mathlib.Omega.{arith}
use borrow.Author.Tests.{eq-eqb, ne_eqb, le-leb, lt-leb, lt-ltb, le-ltb}
use lib.ListN.{length, get_or, take, drop, length-drop}
use lib.Seq.{take_all, length-take-le}
use lib.Dec.{leb}
use Rattle.tally.specs.Tests.{all}
use Rattle.tally.proofs.TestsLaws.{all-fails}
use Rattle.octets.specs.Address.{same_octets, is_group}
use Rattle.octets.specs.Numbers.{pair_of}
use Rattle.octets.proofs.AddressLaws.{same_refl, same-equal}
use Rattle.octets.proofs.PartLaws.{part_at}
use Rattle.whole.specs.Whole.{zeros}
use Rattle.lldpdu.specs.Extent.{length_at, port_place, seconds_place, id_in, extent_of}
use Rattle.lldpdu.specs.Leading.{leading_of}
use Rattle.lldpdu.specs.declared.leading.Leading.{Leading}
use Rattle.lldpdu.specs.Outline.{seconds_in, seconds_told, outline_at, outline_of}
use Rattle.lldpdu.proofs.ExtentLaws.{good}
use Rattle.lldpdu.proofs.LeadingLaws.{Behind, led-place}
use Rattle.lldpdu.proofs.Stable.{Sized, sized}
use Rattle.std.specs.Prelude.{Some, None, Ok, Err}
use Rattle.refusal.specs.declared.Refusal.{Refusal}
use Rattle.walk.specs.Walk.{Extent}
use Rattle.numbers.specs.Sizes.{ports}
use Rattle.place.specs.State.{Place, size, six_zeros, chassis_in, port_id_in, whose_in}
use Rattle.marks.specs.PlaceFit.{exactly, free_tests, whole, used_tests, ok_free, ok_used, ok_place}
use Rattle.marks.specs.Marks.{last_one, last_two, chassis_mark, identity_mark, check, check_free, check_used, check_place}

-- The mark, from the octets before TLV 2 and before TLV 3

-- in the octets of the ID in a TLV, where that lies inside
module _ (l : List ℕ) (at : ℕ) (n : 2 ≤ length_at l at) (h : at + 2 + length_at l at ≤ length l) where
  long : length (id_in l at).octets ≡ length_at l at - 1
  long = length-take-le (length_at l at - 1) (drop (at + 3) l) (omega (arith, length-drop (at + 3) l))

  last-is : {k : ℕ} → suc k ≡ at + 2 + length_at l at → get_or l k 0 ≡ last_one (id_in l at).octets
  last-is q = sym (rw long (part_at l (at + 3) (length_at l at - 1) (length_at l at - 1 - 1) (omega arith) (omega (arith, q))))

  before-is : {k : ℕ} → suc (suc k) ≡ at + 2 + length_at l at → get_or l k 0 ≡ get_or ((id_in l at).subtype ∷ (id_in l at).octets) (length (id_in l at).octets - 1) 0
  before-is {k} q = sym (rw long (go (length_at l at - 1 - 1) refl))
    where
      go : (m : ℕ) → length_at l at - 1 - 1 ≡ m → get_or ((id_in l at).subtype ∷ (id_in l at).octets) m 0 ≡ get_or l k 0
      go zero d = let z : at + 2 ≡ k = omega (arith, q, d) in ap (λ (x : ℕ). get_or l x 0) z
      go (suc m) d = part_at l (at + 3) (length_at l at - 1) m (omega (arith, d)) (omega (arith, q, d))

module _ (l : List ℕ) {e port at : ℕ} (v : extent_of l ≡ Ok e) (b : Behind l port at) where
  fits : Sized l e
  fits = sized (good l e v)

  -- the places of the octets
  pub mark-places : (1 ≤ port) × ((2 ≤ at) × ((port ≤ at) × (at ≤ length l)))
  mark-places = (
    omega (arith, fits.second, b.second),
    (
      omega (arith, fits.third, b.third),
      (omega (arith, fits.third, b.second, b.third), omega (arith, fits.seconds, fits.whole-inside, b.third)),
    ),
  )

  pub mark-is : (p : ℕ) → pair_of p (get_or l (port - 1) 0) * 65536 + pair_of (get_or l (at - 2) 0) (get_or l (at - 1) 0) % 65536 ≡ identity_mark (whose_in p l)
  unfolding identity_mark chassis_mark last_two chassis_in port_id_in
  mark-is p =
      let inside : seconds_place l ≤ length l = omega (arith, fits.seconds, fits.whole-inside) in
      let first : 0 + 2 + length_at l 0 ≤ length l = omega (arith, fits.second, fits.third, inside) in
      let second : port_place l + 2 + length_at l (port_place l) ≤ length l = omega (arith, fits.third, inside) in
      ap₂ (λ (x y : ℕ). pair_of p x * 65536 + y % 65536)
      (last-is l 0 fits.chassis first (omega (arith, fits.second, b.second)))
      (ap₂ pair_of
      (before-is l (port_place l) fits.port second (omega (arith, fits.third, b.third)))
      (last-is l (port_place l) fits.port second (omega (arith, fits.third, b.third))))

-- TLV 3 says the seconds
pub seconds-told : (l : List ℕ) {x : Leading} → leading_of l ≡ Ok x → seconds_in l ≡ pair_of (get_or l (x.seconds + 2) 0) (get_or l (x.seconds + 3) 0)
seconds-told l e = ap (λ (k : ℕ). pair_of (get_or l (k + 2) 0) (get_or l (k + 3) 0)) (sym (led-place l e))

-- A free place (N5 b)

module _ (p left : ℕ) (sender b : List ℕ) where
  -- one test that fails decides, wherever it stands
  taken : (k : ℕ) → get_or (free_tests p left sender b) k true ≡ false → None ≡ check_free p left sender b
  unfolding check_free
  taken k h = sym (rw (all-fails (free_tests p left sender b) k h))

  pub free-port : p ≢ 0 → None ≡ check_free p left sender b
  free-port h = taken 0 (ne_eqb p 0 h)

  pub free-seconds : left ≢ 0 → None ≡ check_free p left sender b
  free-seconds h = taken 1 (ne_eqb left 0 h)

  pub free-sender : sender ≢ six_zeros.octets → None ≡ check_free p left sender b
  free-sender h = taken 2 (apart (same_octets sender six_zeros.octets) refl)
    where
      apart : (x : Bool) → same_octets sender six_zeros.octets ≡ x → x ≡ false
      apart true e = absurd (h (same-equal sender six_zeros.octets e))
      apart false e = refl

  pub free-octets : zeros b ≡ false → None ≡ check_free p left sender b
  free-octets h = taken 3 h

  pub free-fit : p ≡ 0 → left ≡ 0 → sender ≡ six_zeros.octets → zeros b ≡ true → Some 0 ≡ check_free p left sender b
  unfolding check_free
  free-fit h k n z = sym (rw (eq-eqb p 0 h, eq-eqb left 0 k, ap (λ (x : List ℕ). same_octets x six_zeros.octets) n ∙ same_refl six_zeros.octets, z))

-- A used place (N5 c): one test that fails decides, wherever it stands

module _ (p left : ℕ) (l rest : List ℕ) where
  -- what is asked of l, whose extent is x
  abbrev asked : Extent → List Bool
  asked x = exactly x (length l) ∷ leb 1 left ∷ leb left (seconds_told (outline_at x l)) ∷ []

  whole_by : (x : Extent) → extent_of l ≡ x → whole l left ≡ all (asked x)
  unfolding whole outline_of
  whole_by x q = ap (λ (y : Extent). all (asked y)) q

  unfit : whole l left ≡ false → None ≡ check_used p left l rest
  unfolding check_used
  unfit h = sym (rw h)

  pub used-refused : {n : Refusal} → extent_of l ≡ Err n → None ≡ check_used p left l rest
  used-refused {n} q = unfit (whole_by (Err n) q)

  pub used-other : {n : ℕ} → extent_of l ≡ Ok n → n ≢ length l → None ≡ check_used p left l rest
  used-other {n} q h = unfit (whole_by (Ok n) q ∙ all-fails (asked (Ok n)) 0 (ne_eqb n (length l) h))

  -- l is valid and has exactly its length
  module _ (v : extent_of l ≡ Ok (length l)) where
    fails : (k : ℕ) → get_or (asked (Ok (length l))) k true ≡ false → None ≡ check_used p left l rest
    fails k h = unfit (whole_by (Ok (length l)) v ∙ all-fails (asked (Ok (length l))) k h)

    pub used_over : left < 1 → None ≡ check_used p left l rest
    used_over h = fails 1 (lt-leb 1 left h)

    pub used-late : seconds_in l < left → None ≡ check_used p left l rest
    used-late h = fails 2 (lt-leb left (seconds_in l) h)

    module _ (k : 1 ≤ left) (m : left ≤ seconds_in l) where
      in-time : whole l left ≡ true
      in-time = whole_by (Ok (length l)) v ∙ rw (eq-eqb (length l) (length l) refl, le-leb 1 left k, le-leb left (seconds_in l) m)

      pub used-rest : zeros rest ≡ false → None ≡ check_used p left l rest
      unfolding check_used
      used-rest z = sym (rw (in-time, z))

      pub used-fit : {c : ℕ} → zeros rest ≡ true → c ≡ identity_mark (whose_in p l) → Some c ≡ check_used p left l rest
      unfolding check_used
      used-fit z w = ap Some w ∙ sym (rw (in-time, z))

-- A place

-- what follows n octets
pub rest-whole : (n : ℕ) (l : List ℕ) → take (length l) (drop n l) ≡ drop n l
rest-whole n l = take_all (length l) (drop n l) (omega (arith, length-drop n l))

module _ (x : Place) where
  pub place-free : x.len ≡ 0 → check_free x.port x.seconds x.sender x.body ≡ check_place x
  unfolding check_free check_place ok_place ok_free
  place-free e = sym (rw (eq-eqb x.len 0 e))

  module _ (u : x.len ≢ 0) where
    -- here too one test that fails decides
    misfit : (k : ℕ) → get_or (used_tests x) k true ≡ false → None ≡ check_place x
    unfolding check_place ok_place ok_used
    misfit k h = sym (rw (ne_eqb x.len 0 u, all-fails (used_tests x) k h))

    pub place-port : ports ≤ x.port → None ≡ check_place x
    place-port h = misfit 0 (le-ltb x.port ports h)

    pub place-group : is_group x.sender ≡ true → None ≡ check_place x
    place-group h = misfit 1 (ap not h)

    pub place-long : size < x.len → None ≡ check_place x
    place-long h = misfit 2 (lt-leb x.len size h)

    pub place-used : x.port < ports → is_group x.sender ≡ false → x.len ≤ size → check_used x.port x.seconds (take x.len x.body) (drop x.len x.body) ≡ check_place x
    unfolding check_used check_place ok_place ok_used
    place-used h g k = sym (rw (ne_eqb x.len 0 u, lt-ltb x.port ports h, g, le-leb x.len size k))

-- a mark tells that the place is fit, and is its mark
pub marked : (ok : Bool) (m n : ℕ) → Some m ≡ check ok n → (ok ≡ true) × (m ≡ n)
marked true m n e = (refl, cc)
marked false m n e = absurd (cc)

pub unmarked : (ok : Bool) (n : ℕ) → None ≡ check ok n → ok ≡ false
unmarked true n e = absurd (cc)
unmarked false n e = refl

-- the tests of a free place, and those of a used one that come before its LLDPDU
pub ruleset free_tested = (free-port, free-seconds, free-sender, free-octets, free-fit)

pub ruleset used_tested = (seconds-told, used_over, used-late, used-rest, used-fit)

pub ruleset used_judged = (used-refused, used-other)

pub ruleset place_tested = (place-free, place-port, place-group, place-long)
