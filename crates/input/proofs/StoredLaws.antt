-- Laws of a number in octets, octet by octet: one octet more, and the end.
-- The loop keeps one equation: the number so far, with the octets that are left, is the whole.
use Prim.Native.Nat.{ℕ, ◌+◌, ◌*◌, ◌%◌, ◌<◌, ◌≤◌}
use mathlib.Core.Path.{◌≡◌, refl, sym, ap, ◌∙◌}
use mathlib.Core.List.{List, ◌∷◌}
use native.Mathlib.Numerals.{add-one}
use lib.ListN.{length, drop, get_or, drop_of_length-le}
use lib.Seq.{drop-cons}
use Rattle.input.specs.Stored.{counted_on}
use Rattle.std.specs.Prelude.{◌^◌}

module _ (l : List ℕ) (n i : ℕ) where
  pub counted-more : i < length l → counted_on ((n * 256 % 2 ^ 64 + get_or l i 0) % 2 ^ 64) (drop (i + 1) l) ≡ counted_on n (drop i l)
  counted-more h =
      let d : drop i l ≡ get_or l i 0 ∷ drop (i + 1) l = drop-cons l i 0 h ∙ rw (add-one i) refl in
      sym (ap (counted_on n) d)

  pub counted-all : length l ≤ i → n ≡ counted_on n (drop i l)
  counted-all h = sym (ap (counted_on n) (drop_of_length-le l h))
