-- Laws of addresses in a row: one that is not the address asked for is passed, one that is decides (A4).
-- The code has compared at a place; the laws speak of the number of the address there.
use Prim.Native.Nat.{ℕ, ◌+◌, ◌*◌, ◌<◌}
use mathlib.Core.Path.{◌≡◌, sym, ap, ◌∙◌}
use mathlib.Core.List.{List}
use mathlib.Core.Bool.{Bool, true, false}
use Rattle.tally.specs.Ranges.{some_below}
use Rattle.tally.proofs.RangesLaws.{some-miss, some-hit}
use Rattle.octets.specs.Address.{six_at, same_octets}
use Rattle.links.specs.Row.{among_of}

module _ (s a : List ℕ) (first : ℕ) where
  abbrev stands : ℕ → Bool
  stands i = same_octets (six_at s (first + 6 * i)) a

  -- the i-th, compared at its place
  module _ (i : ℕ) {at : ℕ} {r : Bool} (p : at ≡ first + 6 * i) (q : r ≡ same_octets (six_at s at) a) where
    compared : r ≡ stands i
    compared = q ∙ ap (λ (n : ℕ). same_octets (six_at s n) a) p

    pub row-miss : {k : ℕ} → k ≡ i + 1 → among_of s first i a ≡ false → r ≡ false → among_of s first k a ≡ false
    row-miss e n f = ap (some_below stands) e ∙ some-miss stands i n (sym compared ∙ f)

    pub row-hit : {n : ℕ} → i < n → r ≡ true → among_of s first n a ≡ true
    row-hit {n} l t = some-hit stands i n l (sym compared ∙ t)
