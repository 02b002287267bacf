-- Laws of a fold: the code's is the definition's; and the digest as a chain of folds.
-- That of the fold holds for any list and whatever is folded.
use Prim.Native.Nat.{ℕ}
use mathlib.Core.Path.{◌≡◌, refl}
use mathlib.Core.List.{List, [], ◌∷◌}
use Rattle.std.specs.List.{fold}
use Rattle.numbers.specs.declared.Table.{Table}
use Rattle.digest.specs.Digest.{folded, mixed_all, mixed_senders, digest_of}

pub fold-folded : {A : Type 0} (g : ℕ → A → ℕ) (h : ℕ) (l : List A) → fold g h l ≡ folded g h l
unfolding folded
fold-folded g h [] = refl
fold-folded g h (x ∷ l) = fold-folded g (g h x) l

pub digest-is : (t : Table) (b : List ℕ) {p s l w d : ℕ} → p ≡ mixed_all 0 t.port → s ≡ mixed_all p t.seconds → l ≡ mixed_all s t.length
    → w ≡ mixed_senders l t.sender → d ≡ mixed_all w b → d ≡ digest_of t b
unfolding digest_of
digest-is t b i j k m n = cc
