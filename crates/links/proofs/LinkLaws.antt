-- Laws of link information and address list: the tests by the counts that the code has read.
-- `link-has` says what a well formed link information has.
use Prim.Native.Nat.{ℕ, ◌+◌, ◌*◌, ◌≤◌}
use mathlib.Core.Path.{◌≡◌}
use mathlib.Core.List.{List, [], ◌∷◌}
use mathlib.Core.Bool.{true}
use lib.ListN.{length, get_or}
use borrow.Author.Tests.{eqb-true, leb-true}
use lib.Dec.{leb, eqb}
use Rattle.tally.specs.Tests.{all}
use Rattle.tally.specs.Ranges.{some_below}
use Rattle.tally.proofs.TestsLaws.{both_true, held}
use Rattle.octets.specs.Address.{six_at, same_octets}
use Rattle.links.specs.Link.{type_count, number_count, address_count, four_ok, link_ok, list_ok, names_of}

-- n, m and k as they stand in the information string b
module _ (b : List ℕ) {n m k : ℕ} (p : n ≡ get_or b 4 0) (q : m ≡ get_or b (5 + n) 0) (r : k ≡ get_or b (6 + n + m) 0) where
  pub link-counts : link_ok b ≡ all (four_ok n ∷ four_ok m ∷ eqb (length b) (7 + n + m + 6 * k) ∷ [])
  unfolding link_ok
  link-counts = rw (r, q, p)

  pub names-counts : (a : List ℕ) → names_of b a ≡ some_below (λ i. same_octets (six_at b (7 + n + m + 6 * i)) a) k
  unfolding names_of
  names-counts a = rw (r, q, p)

pub list_count : (b : List ℕ) {k : ℕ} → k ≡ get_or b 4 0 → list_ok b ≡ eqb (length b) (5 + 6 * k)
unfolding list_ok
list_count b p = rw p

-- what a well formed link information has
pub record LinkHas (b : List ℕ) : Type 0 where
  pub type_short : type_count 4 b ≤ 4
  pub number_short : number_count 4 b ≤ 4
  pub ends : length b ≡ 7 + type_count 4 b + number_count 4 b + 6 * address_count 4 b

pub link-has : (b : List ℕ) → link_ok b ≡ true → LinkHas b
unfolding link_ok
link-has b e =
    let h = held (four_ok (type_count 4 b) ∷ four_ok (number_count 4 b) ∷ eqb (length b) (7 + type_count 4 b + number_count 4 b + 6 * address_count 4 b) ∷ []) e in
    record {
      type_short = leb-true (type_count 4 b) 4 (both_true (leb 1 (type_count 4 b)) (leb (type_count 4 b) 4) h.0).1;
      number_short = leb-true (number_count 4 b) 4 (both_true (leb 1 (number_count 4 b)) (leb (number_count 4 b) 4) h.1.0).1;
      ends = eqb-true (length b) (7 + type_count 4 b + number_count 4 b + 6 * address_count 4 b) h.1.1.0;
    }
