-- Laws of parts of a text: an octet and what is behind it, a part as a callee has it, a part of a part, and a part that is lent and comes back changed.
-- They hold for any text, any start and any length.
use Prim.Native.Nat.{ℕ, zero, suc, ◌+◌, ◌-◌, ◌<◌, ◌≤◌}
use mathlib.Core.Path.{◌≡◌, sym, ap, ap₂, ◌∙◌}
use mathlib.Core.List.{List, [], ◌∷◌, ◌++◌, append-nil}
use native.Mathlib.Omega.{arith}
use native.Mathlib.Nat.{add-sub_cancel_left}
use borrow.Rule.Slice.PartMut.{mid_of, put_mid, Post-is, mid_len}
use lib.ListN.{length, take, drop, get_or, length-drop}
use lib.Seq.{take-nil, take_all, take-take, drop-drop, drop-length, get_or-take, get_or-drop, drop-cons}

-- an octet that is there, and what is behind it
pub octet-then : (s : List ℕ) (from next : ℕ) {l : List ℕ} → from < length s → suc from ≡ next → l ≡ drop next s → get_or s from 0 ∷ l ≡ drop from s
octet-then s from next h e q = ap (λ (l : List ℕ). get_or s from 0 ∷ l) (q ∙ ap (λ (n : ℕ). drop n s) (sym e)) ∙ sym (drop-cons s from 0 h)

-- &s[a..a + n] and &s[a..]
pub part-is : (s : List ℕ) (a n : ℕ) → take (a + n - a) (drop a s) ≡ take n (drop a s)
part-is s a n = ap (λ (k : ℕ). take k (drop a s)) (add-sub_cancel_left a n)

pub part-from : (s : List ℕ) (a : ℕ) → take (length s - a) (drop a s) ≡ drop a s
part-from s a = take_all (length s - a) (drop a s) (omega (arith, length-drop a s))

pub drop-take : (j n : ℕ) (l : List ℕ) → drop j (take n l) ≡ take (n - j) (drop j l)
drop-take zero n l =
    let e : n ≡ n - 0 = omega arith in
    ap (λ (k : ℕ). take k l) e
drop-take (suc j) zero [] = sym (take-nil (zero - suc j))
drop-take (suc j) (suc n) [] = sym (take-nil (suc n - suc j))
drop-take (suc j) zero (x ∷ l) =
    let e : 0 ≡ 0 - suc j = omega arith in
    ap (λ (k : ℕ). take k (drop j l)) e
drop-take (suc j) (suc n) (x ∷ l) =
    let e : n - j ≡ suc n - suc j = omega arith in
    drop-take j n l ∙ ap (λ (k : ℕ). take k (drop j l)) e

-- inside the part of s from a for l octets
module _ (s : List ℕ) (a l : ℕ) where
  pub part_at : (i : ℕ) {j : ℕ} → i < l → a + i ≡ j → get_or (take l (drop a s)) i 0 ≡ get_or s j 0
  part_at i h q = get_or-take l (drop a s) i 0 h ∙ get_or-drop a s i 0 ∙ ap (λ (k : ℕ). get_or s k 0) q

  pub part-of-part : (i n : ℕ) {j : ℕ} → i + n ≤ l → a + i ≡ j → take n (drop i (take l (drop a s))) ≡ take n (drop j s)
  part-of-part i n h q =
      ap (take n) (drop-take i l (drop a s))
      ∙ take-take n (l - i) (drop i (drop a s)) (omega arith)
      ∙ ap (take n) (drop-drop i a s ∙ ap (λ (k : ℕ). drop k s) q)

  pub rest-of-part : (i n : ℕ) {j : ℕ} → l ≡ i + n → a + i ≡ j → drop i (take l (drop a s)) ≡ take n (drop j s)
  rest-of-part i n h q =
      let e : l - i ≡ n = omega arith in
      drop-take i l (drop a s) ∙ ap₂ take e (drop-drop i a s ∙ ap (λ (k : ℕ). drop k s) q)

-- &mut xs[a..a + n], and what stands there when it comes back as ys
module _ (xs : List ℕ) (a n : ℕ) where
  pub part-back : (ys : List ℕ) → put_mid a (a + n - a) xs ys ≡ take a xs ++ (ys ++ drop (a + n) xs)
  part-back ys = ap (λ (l : List ℕ). take a xs ++ (ys ++ l)) (Post-is a (a + n) xs (omega arith))

  pub part_count : a + n ≤ length xs → length (mid_of a (a + n - a) xs) ≡ n
  part_count h = mid_len a (a + n) xs h ∙ add-sub_cancel_left a n

  -- where a callee's contract says it by the part's length alone
  pub part-becomes : (f : ℕ → List ℕ) (ys : List ℕ) → a + n ≤ length xs → ys ≡ f (length (mid_of a (a + n - a) xs))
      → put_mid a (a + n - a) xs ys ≡ take a xs ++ (f n ++ drop (a + n) xs)
  part-becomes f ys h e = part-back ys ∙ ap (λ (l : List ℕ). take a xs ++ (l ++ drop (a + n) xs)) (e ∙ ap f (part_count h))

-- the same for &mut xs[a..]
pub rest-becomes : (f : ℕ → List ℕ) (xs ys : List ℕ) (a : ℕ) → a ≤ length xs → ys ≡ f (length (mid_of a (length xs - a) xs))
    → put_mid a (length xs - a) xs ys ≡ take a xs ++ f (length xs - a)
rest-becomes f xs ys a h e =
    ap (λ (l : List ℕ). take a xs ++ (ys ++ l)) (Post-is a (length xs) xs h ∙ drop-length xs)
    ∙ ap (λ (l : List ℕ). take a xs ++ l) (append-nil ys ∙ e ∙ ap f (mid_len a (length xs) xs (omega arith)))
