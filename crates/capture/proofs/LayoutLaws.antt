-- Laws of the headers of a capture: a number from its four octets, and that a header says the same wherever it ends.
-- The front of a file that holds a header is read as the whole file is.
use Prim.Native.Nat.{ℕ, ◌+◌, ◌≤◌}
use mathlib.Core.Path.{◌≡◌, sym, ap, ap₂, ◌∙◌}
use mathlib.Core.List.{List, [], ◌∷◌}
use mathlib.Core.Bool.{Bool, true, false}
use native.Mathlib.Omega.{arith}
use lib.ListN.{take, get_or}
use lib.Seq.{get_or-take}
use lib.Dec.{eqb}
use Rattle.std.specs.Int.{w32, from_le_bytes, from_be_bytes}
use Rattle.tally.specs.Tests.{pick, both}
use Rattle.octets.specs.Numbers.{value_from, value_of}
use Rattle.capture.specs.Layout.{ordered, word, file_header, magic, ethernet, opens, layout_of}
use Rattle.capture.specs.declared.Layout.TheVariants.{HighFirst, LowFirst, Foreign}

-- std's numbers of four octets, in either order
pub high_first : (a b c d : ℕ) → from_be_bytes w32 (a ∷ b ∷ c ∷ d ∷ []) ≡ value_of (a ∷ b ∷ c ∷ d ∷ [])
unfolding value_from
high_first a b c d = omega arith

pub low_first : (a b c d : ℕ) → from_le_bytes w32 (a ∷ b ∷ c ∷ d ∷ []) ≡ value_of (d ∷ c ∷ b ∷ a ∷ [])
unfolding value_from
low_first a b c d = omega arith

word-take : (low : Bool) (n : ℕ) (l : List ℕ) (i : ℕ) → i + 4 ≤ n → word low (take n l) i ≡ word low l i
unfolding word
word-take low n l i h = λ j. ordered low (at i (omega arith) j) (at (i + 1) (omega arith) j) (at (i + 2) (omega arith) j) (at (i + 3) (omega arith) j)
  where
    at : (k : ℕ) → k + 1 ≤ n → get_or (take n l) k 0 ≡ get_or l k 0
    at k j = get_or-take n l k 0 (omega arith)

-- two strings of octets with the same front have the same headers
pub word-front : (low : Bool) (n : ℕ) (l k : List ℕ) (i : ℕ) → i + 4 ≤ n → take n l ≡ take n k → word low l i ≡ word low k i
word-front low n l k i h e = sym (word-take low n l i h) ∙ ap (λ (x : List ℕ). word low x i) e ∙ word-take low n k i h

opens-front : (low : Bool) (l k : List ℕ) → take file_header l ≡ take file_header k → opens low l ≡ opens low k
unfolding opens
opens-front low l k e =
    ap₂ (λ (a b : ℕ). both (eqb a magic) (eqb b ethernet)) (word-front low file_header l k 0 (omega arith) e) (word-front low file_header l k 20 (omega arith) e)

pub layout-front : (l k : List ℕ) → take file_header l ≡ take file_header k → layout_of l ≡ layout_of k
unfolding layout_of
layout-front l k e = ap₂ (λ (a b : Bool). pick a HighFirst (pick b LowFirst Foreign)) (opens-front false l k e) (opens-front true l k e)
