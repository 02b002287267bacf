-- Laws of octets put into an output: one string behind another, one octet, one turn of a loop, a whole that fits and one that does not.
-- A loop keeps one equation: what is left, put behind what was put, gives the output of the whole.
use Prim.Native.Nat.{ℕ, zero, suc, ◌+◌, ◌-◌, ◌<◌, ◌≤◌}
use mathlib.Core.Path.{◌≡◌, refl, sym, ap, ◌∙◌}
use mathlib.Core.List.{List, [], ◌∷◌, ◌++◌}
use native.Mathlib.Decide.{dec_lt}
use native.Mathlib.Numerals.{add-one}
use native.Mathlib.Omega.{arith}
use Rattle.std.specs.Prelude.{min}
use borrow.Author.Tests.{lt-ltb, le-ltb}
use borrow.Rule.Slice.PartMut.{put_mid, Post-is}
use lib.ListN.{length, set, take, drop, get_or, length-set, drop_of_length-le, take-append-drop}
use lib.Seq.{take-length, length-take-le, drop-cons, append_snoc, set_out, take-suc-set, drop-set-lt}
use Rattle.output.specs.Output.{Output, output_at, more, puts, seen, Put}
use Rattle.output.specs.declared.Output.{Output as Lent}

pub puts-append : (x y : List ℕ) (o : Output) → puts (x ++ y) o ≡ puts y (puts x o)
unfolding puts
puts-append [] y o = refl
puts-append (b ∷ x) y o = puts-append x y (more b o)

-- one string, then another: p is the output behind the first, q behind both
pub puts_then : (x y : List ℕ) (o : Output) {p q : Output} → p ≡ puts x o → q ≡ puts y p → q ≡ puts (x ++ y) o
puts_then x y o e d = d ∙ ap (puts y) e ∙ sym (puts-append x y o)

-- what was put is known under another name
pub puts-same : {x y : List ℕ} (o : Output) {p : Output} → p ≡ puts x o → x ≡ y → p ≡ puts y o
puts-same o e d = e ∙ ap (λ (z : List ℕ). puts z o) d

pub puts_one : (b : ℕ) (o : Output) {p : Output} → p ≡ more b o → p ≡ puts (b ∷ []) o
unfolding puts
puts_one b o e = e

-- with the octet that the code has in hand for d
pub puts-octet : {b d : ℕ} (o : Output) {p : Output} → p ≡ more b o → b ≡ d → p ≡ puts (d ∷ []) o
unfolding puts
puts-octet o e h = e ∙ ap (λ (x : ℕ). more x o) h

pub puts_none : (o : Output) → o ≡ puts [] o
unfolding puts
puts_none o = refl

-- one octet, where there is room and where there is none
pub more_room : (l : List ℕ) (at b : ℕ) → at < length l → output_at (set l at b) (at + 1) ≡ more b (output_at l at)
unfolding more
more_room l at b h = sym (rw (lt-ltb at (length l) h))

pub more-full : (l : List ℕ) (at b : ℕ) → length l ≤ at → output_at l at ≡ more b (output_at l at)
unfolding more
more-full l at b h = sym (rw (le-ltb at (length l) h, set_out l at b h))

-- The same of what the code puts into its output

pub put_then : (x y : List ℕ) {o p q : Lent} → Put x o p → Put y p q → Put (x ++ y) o q
put_then x y {o} e d = record { lent = d.lent ∙ e.lent; put = puts_then x y (seen o) e.put d.put }

pub put_same : {x y : List ℕ} {o p : Lent} → Put x o p → x ≡ y → Put y o p
put_same {o = o} e d = record { lent = e.lent; put = puts-same (seen o) e.put d }

pub put_none : (o : Lent) → Put [] o o
put_none o = record { lent = refl; put = puts_none (seen o) }

-- A loop: each octet of s is put as f prints it

module _ (f : List ℕ → List ℕ) (g : ℕ → List ℕ) (step : (b : ℕ) (x : List ℕ) → f (b ∷ x) ≡ g b ++ f x) (end : f [] ≡ []) (s : List ℕ) (whole : Output) where
  pub puts-next : (i : ℕ) (o : Output) {p : Output} → i < length s → puts (f (drop i s)) o ≡ whole → p ≡ puts (g (get_or s i 0)) o → puts (f (drop (i + 1) s)) p ≡ whole
  puts-next i o h inv e =
      let rest = drop (i + 1) s in
      let d : drop i s ≡ get_or s i 0 ∷ rest = drop-cons s i 0 h ∙ rw (add-one i) refl in
      ap (puts (f rest)) e ∙ sym (puts-append (g (get_or s i 0)) (f rest) o) ∙ ap (λ (x : List ℕ). puts x o) (sym (ap f d ∙ step (get_or s i 0) rest)) ∙ inv

  pub puts-done : (i : ℕ) (o : Output) → length s ≤ i → puts (f (drop i s)) o ≡ whole → o ≡ whole
  unfolding puts
  puts-done i o h inv = ap (λ (x : List ℕ). puts x o) (sym (ap f (drop_of_length-le s h) ∙ end)) ∙ inv

-- The same of the code's output: before turn i, what is left, put behind what was put, makes the whole

pub record Putting (f : List ℕ → List ℕ) (s : List ℕ) (i : ℕ) (o p : Lent) : Type 0 where
  pub lent : p.octets.ghost_name ≡ o.octets.ghost_name
  pub left : puts (f (drop i s)) (seen p) ≡ puts (f s) (seen o)

pub put_starts : (f : List ℕ → List ℕ) (s : List ℕ) (o : Lent) → Putting f s 0 o o
put_starts f s o = record { lent = refl; left = refl }

module _ (f : List ℕ → List ℕ) (g : ℕ → List ℕ) (step : (b : ℕ) (x : List ℕ) → f (b ∷ x) ≡ g b ++ f x) (end : f [] ≡ []) (s : List ℕ) {i : ℕ} {o p : Lent} (going : Putting f s i o p) where
  pub put-next : {q : Lent} → i < length s → Put (g (get_or s i 0)) p q → Putting f s (i + 1) o q
  put-next h e = record { lent = e.lent ∙ going.lent; left = puts-next f g step end s (puts (f s) (seen o)) i (seen p) h going.left e.put }

  pub put-done : length s ≤ i → Put (f s) o p
  put-done h = record { lent = going.lent; put = puts-done f g step end s (puts (f s) (seen o)) i (seen p) h going.left }

-- What does not fit

-- behind the end of the output nothing is put
pub puts-past : (x l : List ℕ) (at : ℕ) → length l ≤ at → output_at l at ≡ puts x (output_at l at)
unfolding puts
puts-past [] l at h = refl
puts-past (b ∷ x) l at h = puts-past x l at h ∙ ap (puts x) (more-full l at b h)

-- only as many octets are put as have room
puts-room : (x l : List ℕ) (at m : ℕ) → at + m ≡ length l → puts (take m x) (output_at l at) ≡ puts x (output_at l at)
unfolding puts
puts-room [] l at zero e = refl
puts-room [] l at (suc m) e = refl
puts-room (b ∷ x) l at zero e = puts-past (b ∷ x) l at (omega arith)
puts-room (b ∷ x) l at (suc m) e =
    let r = sym (more_room l at b (omega arith)) in
    ap (puts (take m x)) r ∙ puts-room x (set l at b) (at + 1) m (omega (arith, length-set l at b)) ∙ sym (ap (puts x) r)

-- A whole that fits

pub puts-fits : (x l : List ℕ) (at : ℕ) → at + length x ≤ length l → puts x (output_at l at) ≡ output_at (take at l ++ (x ++ drop (at + length x) l)) (at + length x)
unfolding puts
puts-fits [] l at h =
    let e : at + 0 ≡ at = omega arith in
    rw e (ap (λ (k : List ℕ). output_at k at) (sym (take-append-drop at l)))
puts-fits (b ∷ x) l at h =
    let j : at < length l = omega arith in
    let n : at + 1 + length x ≡ at + suc (length x) = omega arith in
    let k : at + 1 + length x ≤ length (set l at b) = omega (arith, length-set l at b) in
    ap (puts x) (sym (more_room l at b j)) ∙ puts-fits x (set l at b) (at + 1) k ∙ shifted n
  where
    shifted : at + 1 + length x ≡ at + suc (length x)
        → output_at (take (at + 1) (set l at b) ++ (x ++ drop (at + 1 + length x) (set l at b))) (at + 1 + length x)
        ≡ output_at (take at l ++ (b ∷ (x ++ drop (at + suc (length x)) l))) (at + suc (length x))
    shifted n =
        rw (n, add-one at, take-suc-set l at b (omega arith), drop-set-lt (at + suc (length x)) l at b (omega arith))
        (ap (λ (k : List ℕ). output_at k (at + suc (length x))) (append_snoc (take at l) b (x ++ drop (at + suc (length x)) l)))

-- The octets of x that have room, copied as a whole

module _ (x l : List ℕ) (at n : ℕ) (h : at ≤ length l) (e : n ≡ min (length x) (length l - at)) where
  fewer : puts (take n x) (output_at l at) ≡ puts x (output_at l at)
  fewer = elim (dec_lt (length l - at) (length x)) [
    | yes r ↦ puts-room x l at n (omega (arith, r))
    | no f ↦ ap (λ (m : ℕ). puts (take m x) (output_at l at)) (omega (arith, f)) ∙ ap (λ (y : List ℕ). puts y (output_at l at)) (take-length x)
  ]

  pub puts-copied : (copied : List ℕ) → copied ≡ take n x → output_at (put_mid at (at + n - at) l copied) (at + n) ≡ puts x (output_at l at)
  puts-copied copied c =
      let k : length (take n x) ≡ n = length-take-le n x (omega arith) in
      let p : put_mid at (at + n - at) l copied ≡ take at l ++ (take n x ++ drop (at + n) l) =
      ap (λ (y : List ℕ). take at l ++ (copied ++ y)) (Post-is at (at + n) l (omega arith)) ∙ ap (λ (y : List ℕ). take at l ++ (y ++ drop (at + n) l)) c in
      ap (λ (y : List ℕ). output_at y (at + n)) p
      ∙ ap (λ (m : ℕ). output_at (take at l ++ (take n x ++ drop (at + m) l)) (at + m)) (sym k)
      ∙ sym (puts-fits (take n x) l at (omega (arith, k)))
      ∙ fewer

-- A whole that fills the output, or has no room in it, ends where the output ends

pub puts-full : (x l : List ℕ) (at : ℕ) → at ≤ length l → length l ≤ at + length x → (puts x (output_at l at)).end ≡ length l
unfolding puts
puts-full [] l at h k = omega arith
puts-full (b ∷ x) l at h k =
    let n = length-set l at b in
    elim (dec_lt at (length l)) [
      | yes r ↦ ap (λ (o : Output). (puts x o).end) (sym (more_room l at b r)) ∙ puts-full x (set l at b) (at + 1) (omega (arith, n)) (omega (arith, n)) ∙ n
      | no f ↦ ap (λ (o : Output). (puts x o).end) (sym (more-full l at b (omega arith))) ∙ puts-full x l at h (omega arith)
    ]
