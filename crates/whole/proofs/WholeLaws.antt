-- Laws of whole strings of octets: what their tests say, how long a filled place is, and what the loops over them cite.
-- A loop that reads has no early exit: what it saw so far, joined with what is left, is the test of the whole.
use Prim.Native.Nat.{ℕ, zero, suc, ◌+◌, ◌-◌, ◌<◌, ◌≤◌, min}
use mathlib.Core.Path.{◌≡◌, refl, sym, ap, ap₂, ◌∙◌}
use mathlib.Core.List.{List, [], ◌∷◌, ◌++◌}
use mathlib.Core.Bool.{Bool, true, false}
use native.Mathlib.Omega.{arith}
use native.Mathlib.Nat.{le_of_suc-le-suc, not-suc-le-zero}
use native.Mathlib.Numerals.{add-one}
use borrow.Author.Tests.{ne_eqb, eqb-true, eqb-false}
use borrow.Rule.Slice.PartMut.{mid_of, put_mid}
use lib.Bits.{bit_or, or_zero_l, or_add_and, and_le_r}
use lib.ListN.{length, take, drop, get_or, set, replicate, length-append, length-take, length-replicate, length-drop, get_or-replicate, take-append-drop, drop_of_length-le}
use lib.Seq.{drop-cons, drop-drop, take-nil, take_all, take_at, take-append_seam, length-take-le}
use lib.Dec.{eqb}
use Rattle.tally.specs.Tests.{both}
use Rattle.tally.proofs.TestsLaws.{both_true, both_end, both_false}
use Rattle.whole.specs.Whole.{zeros, filled}
use Rattle.octets.proofs.PartLaws.{rest-becomes}

-- all octets are 0 exactly where there are only zeros
pub zeros-replicate : (n : ℕ) → zeros (replicate n 0) ≡ true
unfolding zeros
zeros-replicate zero = refl
zeros-replicate (suc n) = zeros-replicate n

pub zeros_equal : (l : List ℕ) → zeros l ≡ true → l ≡ replicate (length l) 0
unfolding zeros
zeros_equal [] e = refl
zeros_equal (x ∷ l) e =
    let p = both_true (eqb x 0) (zeros l) e in
    ap₂ (λ (u : ℕ) (k : List ℕ). u ∷ k) (eqb-true x 0 p.0) (zeros_equal l p.1)

-- a filled place
module _ (l : List ℕ) (n : ℕ) where
  pub filled-front : length l ≤ n → filled l n ≡ l ++ replicate (n - length l) 0
  unfolding filled
  filled-front h = rw (take_all n l h)

  pub filled-length : length (filled l n) ≡ n
  unfolding filled
  filled-length = simp (length-append, length-take, length-replicate) (omega arith)

-- octet i of it is octet i of the string, and what octets past the end would say is 0
pub filled-octet : (l : List ℕ) (n i : ℕ) → i < n → get_or (filled l n) i 0 ≡ get_or l i 0
unfolding filled
filled-octet [] n i h = rw take-nil (get_or-replicate (n - 0) i 0 0 (omega arith))
filled-octet (x ∷ l) zero i h = absurd (not-suc-le-zero h)
filled-octet (x ∷ l) (suc n) zero h = refl
filled-octet (x ∷ l) (suc n) (suc i) h =
    let e : suc n - suc (length l) ≡ n - length l = omega arith in
    ap (λ (k : ℕ). get_or (take n l ++ replicate k 0) i 0) e ∙ filled-octet l n i (le_of_suc-le-suc h)

-- OR is 0 where both are 0
pub or-zero : (a b : ℕ) → eqb (bit_or a b) 0 ≡ both (eqb a 0) (eqb b 0)
or-zero a b = go (eqb a 0) refl
  where
    go : (t : Bool) → eqb a 0 ≡ t → eqb (bit_or a b) 0 ≡ both t (eqb b 0)
    go true e = ap (λ (x : ℕ). eqb (bit_or x b) 0) (eqb-true a 0 e) ∙ ap (λ (x : ℕ). eqb x 0) (or_zero_l b)
    go false e = ne_eqb (bit_or a b) 0 (λ z. eqb-false a 0 e (omega (arith, or_add_and a b, and_le_r a b)))

both-assoc : (a b c : Bool) → both (both a b) c ≡ both a (both b c)
both-assoc true b c = refl
both-assoc false b c = refl

or-more : (v x : ℕ) (t : Bool) → both (eqb (bit_or v x) 0) t ≡ both (eqb v 0) (both (eqb x 0) t)
or-more v x t = ap (λ (u : Bool). both u t) (or-zero v x) ∙ both-assoc (eqb v 0) (eqb x 0) t

-- one octet more, with v for the octets in front joined by OR, and the end
module _ (v : ℕ) (s : List ℕ) (i : ℕ) where
  pub zeros-more : i < length s → both (eqb (bit_or v (get_or s i 0)) 0) (zeros (drop (i + 1) s)) ≡ both (eqb v 0) (zeros (drop i s))
  unfolding zeros
  zeros-more h = or-more v (get_or s i 0) (zeros (drop (i + 1) s)) ∙ rw (add-one i, drop-cons s i 0 h)

  pub zeros-end : length s ≤ i → both (eqb v 0) (zeros (drop i s)) ≡ eqb v 0
  unfolding zeros
  zeros-end h = rw (drop_of_length-le s h) (both_end _)

-- a string judged part by part: a part that is all zero leaves the rest to decide, any other decides
zeros-join : (a b : List ℕ) → zeros (a ++ b) ≡ both (zeros a) (zeros b)
unfolding zeros
zeros-join [] b = refl
zeros-join (x ∷ a) b = ap (both (eqb x 0)) (zeros-join a b) ∙ sym (both-assoc (eqb x 0) (zeros a) (zeros b))

zeros-split : (n : ℕ) (l : List ℕ) → zeros l ≡ both (zeros (take n l)) (zeros (drop n l))
zeros-split n l = ap zeros (sym (take-append-drop n l)) ∙ zeros-join (take n l) (drop n l)

module _ (s : List ℕ) (i n : ℕ) where
  pub zeros-past : zeros (take n (drop i s)) ≡ true → zeros (drop (i + n) s) ≡ zeros (drop i s)
  zeros-past e = ap zeros (sym (drop-drop n i s)) ∙ sym (zeros-split n (drop i s) ∙ ap (λ (t : Bool). both t (zeros (drop n (drop i s)))) e)

  pub zeros-stop : zeros (take n (drop i s)) ≡ false → zeros (drop i s) ≡ false
  zeros-stop e = zeros-split n (drop i s) ∙ ap (λ (t : Bool). both t (zeros (drop n (drop i s)))) e

-- where what lies from i on decides, so does what lies from further in front
pub zeros-overlap : (s : List ℕ) (from i : ℕ) → from ≤ i → zeros (drop i s) ≡ zeros s → zeros (drop from s) ≡ zeros s
zeros-overlap s from i h e = go (zeros s) refl
  where
    go : (t : Bool) → zeros s ≡ t → zeros (drop from s) ≡ t
    go true q = (both_true (zeros (take from s)) (zeros (drop from s)) (sym (zeros-split from s) ∙ q)).1
    go false q =
        let k : from + (i - from) ≡ i = omega arith in
        let f : zeros (drop (i - from) (drop from s)) ≡ false = ap zeros (drop-drop (i - from) from s) ∙ ap (λ (j : ℕ). zeros (drop j s)) k ∙ e ∙ q in
        zeros-split (i - from) (drop from s) ∙ ap (both (zeros (take (i - from) (drop from s)))) f ∙ both_false (zeros (take (i - from) (drop from s)))

-- a loop that copies s to the front of d
copy-suc : (n : ℕ) (s d : List ℕ) → n < length s → n < length d → set (take n s ++ drop n d) n (get_or s n 0) ≡ take (suc n) s ++ drop (suc n) d
copy-suc n [] d l m = absurd (not-suc-le-zero l)
copy-suc n (x ∷ s) [] l m = absurd (not-suc-le-zero m)
copy-suc zero (x ∷ s) (y ∷ d) l m = refl
copy-suc (suc n) (x ∷ s) (y ∷ d) l m = ap (λ (t : List ℕ). x ∷ t) (copy-suc n s d (le_of_suc-le-suc l) (le_of_suc-le-suc m))

pub copy_more : (n : ℕ) (s d : List ℕ) → n < length s → n < length d → set (take n s ++ drop n d) n (get_or s n 0) ≡ take (n + 1) s ++ drop (n + 1) d
copy_more n s d l m = rw add-one (copy-suc n s d l m)

-- what fits was copied, and the rest of the place came back as zeros
take-fewer : (m : ℕ) (s : List ℕ) → take (min m (length s)) s ≡ take m s
take-fewer m s =
    ap (λ (k : ℕ). take k s) (sym (length-take m s))
    ∙ ap (take (length (take m s))) (sym (take-append-drop m s))
    ∙ take-append_seam (take m s) (drop m s)

pub filled-end : (d s now ys : List ℕ) (n : ℕ) → n ≡ min (length d) (length s) → now ≡ take n s ++ drop n d
    → ys ≡ replicate (length (mid_of n (length now - n) now)) 0 → put_mid n (length now - n) now ys ≡ filled s (length d)
unfolding filled
filled-end d s now ys n e w z =
    let l : length now ≡ length d = ap (λ (x : List ℕ). length x) w ∙ simp (length-append, length-take, length-drop) (omega arith) in
    let k : length now - n ≡ length d - length s = omega arith in
    let t : take n now ≡ take (length d) s = ap (take n) w ∙ take_at (take n s) (drop n d) n (length-take-le n s (omega arith)) ∙ ap (λ (j : ℕ). take j s) e ∙ take-fewer (length d) s in
    rest-becomes (λ j. replicate j 0) now ys n (omega arith) z ∙ ap₂ (λ (x : List ℕ) (j : ℕ). x ++ replicate j 0) t k
