-- Laws of lists given place by place: how long they are, what stands where, two that agree, and one that a loop fills.
-- They are over any type, since the places of a list may hold anything.
use Prim.Native.Nat.{ℕ, zero, suc, ◌+◌, ◌<◌}
use mathlib.Core.Path.{◌≡◌, refl, sym, ap, ap₂, ◌∙◌}
use mathlib.Core.List.{List, [], ◌∷◌, ◌++◌, append-nil}
use native.Mathlib.Omega.{arith}
use native.Mathlib.Numerals.{add-one}
use lib.ListN.{length, get_or, set, drop, drop_of_length-le}
use Rattle.tally.specs.Tab.{tab}

module _ {A : Type 0} where
  abbrev cons : A → List A → List A
  cons x l = x ∷ l

  abbrev next : (ℕ → A) → ℕ → A
  next f k = f (suc k)

  pub length-tab : (m : ℕ) (f : ℕ → A) → length (tab m f) ≡ m
  unfolding tab
  length-tab zero f = refl
  length-tab (suc m) f = ap suc (length-tab m (next f))

  pub get_or-tab : (m : ℕ) (f : ℕ → A) (i : ℕ) (d : A) → i < m → get_or (tab m f) i d ≡ f i
  unfolding tab
  get_or-tab zero f i d l = absurd (omega arith)
  get_or-tab (suc m) f zero d l = refl
  get_or-tab (suc m) f (suc i) d l = get_or-tab m (next f) i d (omega arith)

  pub tab-same : (m : ℕ) (f g : ℕ → A) → ((i : ℕ) → i < m → g i ≡ f i) → tab m g ≡ tab m f
  unfolding tab
  tab-same zero f g h = refl
  tab-same (suc m) f g h = ap₂ cons (h 0 (omega arith)) (tab-same m (next f) (next g) (λ i l. h (suc i) (omega arith)))

  -- a list is what stands in its places
  pub tab-get_or : (l : List A) (d : A) → tab (length l) (λ i. get_or l i d) ≡ l
  unfolding tab
  tab-get_or [] d = refl
  tab-get_or (x ∷ l) d = ap (cons x) (tab-get_or l d)

  -- A loop that fills a list from the front, one store a turn

  filled-suc : (f : ℕ → A) (n : ℕ) (d : List A) → n < length d → set (tab n f ++ drop n d) n (f n) ≡ tab (suc n) f ++ drop (suc n) d
  unfolding tab
  filled-suc f n [] l = absurd (omega arith)
  filled-suc f zero (x ∷ d) l = refl
  filled-suc f (suc n) (x ∷ d) l = ap (cons (f 0)) (filled-suc (next f) n d (omega arith))

  pub filled_none : (f : ℕ → A) (d : List A) → d ≡ tab 0 f ++ drop 0 d
  unfolding tab
  filled_none f d = refl

  -- l is the list with n places filled, x is what is stored in the next one, and m are filled then
  pub filled_more : (f : ℕ → A) (n : ℕ) (d : List A) {l : List A} {x : A} {m : ℕ} → n < length d → l ≡ tab n f ++ drop n d → x ≡ f n → n + 1 ≡ m
      → set l n x ≡ tab m f ++ drop m d
  filled_more f n d h e q s =
      ap₂ (λ (k : List A) (y : A). set k n y) e q
      ∙ filled-suc f n d h
      ∙ ap (λ (k : ℕ). tab k f ++ drop k d) (sym (add-one n) ∙ s)

  pub filled-all : (f : ℕ → A) (n : ℕ) (d : List A) {l : List A} → length d ≡ n → l ≡ tab n f ++ drop n d → l ≡ tab n f
  filled-all f n d h e = e ∙ ap (λ (k : List A). tab n f ++ k) (drop_of_length-le d {i = n} (omega (arith, h))) ∙ append-nil (tab n f)
