-- Laws of a place that there is, and of one past the last: there is none, so nothing is kept there and nothing is written.
-- Each early return of the code is one line here; where there is such a place, callers go on with `put` (there-put).
use Prim.Native.Nat.{ℕ, ◌*◌, ◌≤◌, ◌<◌}
use mathlib.Core.Path.{◌≡◌, sym, ap}
use mathlib.Core.Logic.{◌≢◌}
use mathlib.Core.Bool.{Bool, true, false}
use mathlib.Core.List.{List, [], ◌∷◌}
use borrow.Author.Tests.{eq-eqb, ne_eqb, le-leb, lt-leb, lt-ltb, le-ltb}
use lib.Dec.{leb, ltb, eqb}
use lib.ListN.{length, get_or, take, drop}
use Rattle.tally.proofs.TestsLaws.{all-fails}
use Rattle.rules.specs.Identity.{Ident, same}
use Rattle.numbers.specs.Sizes.{places}
use Rattle.place.specs.State.{Place, State, size, octets, at, put, put_there, lldpdu_at, lldpdu_in, record_passes, record_is, is_of, passes}

-- What is kept

module _ (b : List ℕ) (k n : ℕ) where
  pub past-empty : places ≤ k → [] ≡ lldpdu_in b k n
  unfolding lldpdu_in
  past-empty h = sym (rw (le-ltb k places h))

  pub there-octets : k < places → take n (take size (drop (k * size) b)) ≡ lldpdu_in b k n
  unfolding lldpdu_in
  there-octets h = sym (rw (lt-ltb k places h))

module _ (s : State) (k : ℕ) (h : k < places) where
  pub there-lldpdu : lldpdu_in s.buf k (at s k).len ≡ lldpdu_at (at s k)
  unfolding at
  there-lldpdu = sym (there-octets s.buf k (at s k).len h)

  pub there-passes : (g : Ident → Bool) → record_passes (at s k).len (at s k).port (lldpdu_in s.buf k (at s k).len) g ≡ passes s g k
  there-passes g = ap (λ (l : List ℕ). record_passes (at s k).len (at s k).port l g) there-lldpdu

  pub there-of : (w : Ident) → record_is (at s k).len (at s k).port (lldpdu_in s.buf k (at s k).len) w ≡ is_of s w k
  unfolding is_of
  there-of w = there-passes (λ v. same v w)

-- Writing

module _ (s : State) (k : ℕ) (p : Place) where
  tests : List Bool
  tests = ltb k places ∷ eqb (length s.buf) octets ∷ leb p.len size ∷ []

  -- one test that fails decides, wherever it stands
  stays : (i : ℕ) → get_or tests i true ≡ false → put_there s k p ≡ s
  unfolding put_there tests
  stays i h = rw (all-fails tests i h)

  pub past-stays : places ≤ k → put_there s k p ≡ s
  unfolding tests
  past-stays h = stays 0 (le-ltb k places h)

  pub unsized-stays : length s.buf ≢ octets → put_there s k p ≡ s
  unfolding tests
  unsized-stays e = stays 1 (ne_eqb (length s.buf) octets e)

  pub full-stays : size < p.len → put_there s k p ≡ s
  unfolding tests
  full-stays l = stays 2 (lt-leb p.len size l)

  pub there-put : k < places → length s.buf ≡ octets → p.len ≤ size → put_there s k p ≡ put s k p
  unfolding put_there
  there-put h e l = rw (lt-ltb k places h, eq-eqb (length s.buf) octets e, le-leb p.len size l)

pub ruleset refusing = (past-stays, unsized-stays, full-stays)
