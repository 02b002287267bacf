-- Laws of things that stand one behind the other: one more of them, the one of a number, and what is laid out is read back.
-- All of them hold for any size and any reading of the first thing.
use Prim.Native.Nat.{ℕ, zero, suc, ◌+◌, ◌*◌, ◌<◌, ◌≤◌}
use mathlib.Core.Path.{◌≡◌, refl, sym, ap, ap₂, ◌∙◌}
use mathlib.Core.List.{List, [], ◌∷◌, ◌++◌, map, append_assoc}
use mathlib.Core.Bool.{Bool, true}
use native.Mathlib.Omega.{arith}
use lib.ListN.{length, take, drop, get_or, length-append, length-drop}
use lib.Seq.{drop-drop, drop-nil, drop_at, take-add}
use Rattle.tally.specs.Tests.{all}
use Rattle.tally.proofs.TestsLaws.{both_true}
use Rattle.extension.specs.Runs.{span, each}
use Rattle.extension.specs.Table.{joined}

module _ (f : List ℕ → ℕ) where
  pub span_none : (l : List ℕ) → span f 0 l ≡ 0
  unfolding span
  span_none l = refl

  pub span-add : (i k : ℕ) (l : List ℕ) → span f (i + k) l ≡ span f i l + span f k (drop (span f i l) l)
  unfolding span
  span-add zero k l = ap (λ (n : ℕ). span f n l) (let e : 0 + k ≡ k = omega arith in e) ∙ (let e : span f k l ≡ 0 + span f k l = omega arith in e)
  span-add (suc i) k l =
      ap (λ (n : ℕ). span f n l) (let e : suc i + k ≡ suc (i + k) = omega arith in e)
      ∙ ap (λ (n : ℕ). f l + n) (span-add i k (drop (f l) l))
      ∙ rw (drop-drop (span f i (drop (f l) l)) (f l) l) (omega arith)

  pub span_more : (k : ℕ) (l : List ℕ) → span f (k + 1) l ≡ span f k l + f (drop (span f k l) l)
  unfolding span
  span_more k l = span-add k 1 l ∙ omega arith

  pub span-le : (i k : ℕ) (l : List ℕ) → i ≤ k → span f i l ≤ span f k l
  unfolding span
  span-le zero k l h = omega arith
  span-le (suc i) zero l h = absurd (omega arith)
  span-le (suc i) (suc k) l h = omega (arith, span-le i k (drop (f l) l) (omega arith))

  -- past the end, where a thing has one octet
  pub span-past : f [] ≡ 1 → (k : ℕ) → span f k [] ≡ k
  unfolding span
  span-past e zero = refl
  span-past e (suc k) = rw (e, drop-nil {A = ℕ} 1) (omega (arith, span-past e k))

  module _ {A : Type 0} (g : List ℕ → A) (z : A) where
    pub each_at : (i k : ℕ) (l : List ℕ) → i < k → get_or (each f g k l) i z ≡ g (drop (span f i l) l)
    unfolding span each
    each_at i zero l h = absurd (omega arith)
    each_at zero (suc k) l h = refl
    each_at (suc i) (suc k) l h = each_at i k (drop (f l) l) (omega arith) ∙ ap g (drop-drop (span f i (drop (f l) l)) (f l) l)

    pub each-past : (i k : ℕ) (l : List ℕ) → k ≤ i → get_or (each f g k l) i z ≡ z
    unfolding each
    each-past i zero l h = refl
    each-past zero (suc k) l h = absurd (omega arith)
    each-past (suc i) (suc k) l h = each-past i k (drop (f l) l) (omega arith)

  pub each-count : {A : Type 0} (g : List ℕ → A) (k : ℕ) (l : List ℕ) → length (each f g k l) ≡ k
  unfolding each
  each-count g zero l = refl
  each-count g (suc k) l = ap suc (each-count g k (drop (f l) l))

-- things of one width
pub span-even : (w k : ℕ) (l : List ℕ) → span (λ x. w) k l ≡ k * w
unfolding span
span-even w zero l = omega arith
span-even w (suc k) l = omega (arith, span-even w k (drop w l))

-- Things laid out in octets by e: what is read of them, and what is laid out of what was read

module _ {A : Type 0} (f : List ℕ → ℕ) (g : List ℕ → A) (e : A → List ℕ) where
  -- whatever octets are behind x, its size is found, and x is read
  pub record Back (x : A) (rest : List ℕ) : Type 0 where
    pub size : f (e x ++ rest) ≡ length (e x)
    pub reads : g (e x ++ rest) ≡ x

  module _ (ok : A → Bool) (back : (x : A) → ok x ≡ true → (rest : List ℕ) → Back x rest) where
    pub span-joined : (xs : List A) → all (map ok xs) ≡ true → (rest : List ℕ)
        → span f (length xs) (joined (map e xs) ++ rest) ≡ length (joined (map e xs))
    unfolding span joined
    span-joined [] h rest = refl
    span-joined (x ∷ xs) h rest =
        let now = both_true (ok x) (all (map ok xs)) h in
        let b = back x now.0 (joined (map e xs) ++ rest) in
        rw (append_assoc (e x) (joined (map e xs)) rest, b.size, drop_at (e x) (joined (map e xs) ++ rest) (length (e x)) refl, span-joined xs now.1 rest)
        (sym (length-append (e x) (joined (map e xs))))

    pub each-joined : (xs : List A) → all (map ok xs) ≡ true → (rest : List ℕ) → each f g (length xs) (joined (map e xs) ++ rest) ≡ xs
    unfolding each joined
    each-joined [] h rest = refl
    each-joined (x ∷ xs) h rest =
        let now = both_true (ok x) (all (map ok xs)) h in
        let b = back x now.0 (joined (map e xs) ++ rest) in
        rw (append_assoc (e x) (joined (map e xs)) rest, b.size, b.reads, drop_at (e x) (joined (map e xs) ++ rest) (length (e x)) refl)
        (ap (λ (l : List A). x ∷ l) (each-joined xs now.1 rest))

  pub joined-each : ((l : List ℕ) → f l ≤ length l → e (g l) ≡ take (f l) l)
      → (k : ℕ) (l : List ℕ) → span f k l ≤ length l → joined (map e (each f g k l)) ≡ take (span f k l) l
  unfolding span each joined
  joined-each lays zero l h = refl
  joined-each lays (suc k) l h =
      ap₂ (λ (x y : List ℕ). x ++ y) (lays l (omega arith)) (joined-each lays k (drop (f l) l) (omega (arith, length-drop (f l) l)))
      ∙ sym (take-add (f l) (span f k (drop (f l) l)) l)

-- a rule that each thing table-has that is there
pub each_keeps : {A : Type 0} (f : List ℕ → ℕ) (g : List ℕ → A) (ok : A → Bool) → ((l : List ℕ) → f l ≤ length l → ok (g l) ≡ true)
    → (k : ℕ) (l : List ℕ) → span f k l ≤ length l → all (map ok (each f g k l)) ≡ true
unfolding span each
each_keeps f g ok table-has zero l h = refl
each_keeps f g ok table-has (suc k) l h =
    rw (table-has l (omega arith)) (each_keeps f g ok table-has k (drop (f l) l) (omega (arith, length-drop (f l) l)))
