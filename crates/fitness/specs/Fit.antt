-- When a table is fit (N5), as one test and part by part.
-- The test is what the calls ask; the parts are what the laws and a reader use.
use Rattle.std.specs.Prelude.{ℕ, ◌≤◌, ◌<◌, ◌≡◌, Bool, true, not, [], ◌∷◌, length, leb, eqb}
use Rattle.tally.specs.Tests.{pick, both, all}
use Rattle.tally.specs.Ranges.{all_below}
use Rattle.rules.specs.Shares.{most, per_chassis, beyond, chassis_is}
use Rattle.numbers.specs.Sizes.{ports, places, common}
use Rattle.numbers.specs.Numbers.{holds, shares_ok}
use Rattle.marks.specs.PlaceFit.{ok_place}
use Rattle.place.specs.State.{State, octets, at, who_at, is_of, count_records}

-- N5 (d): no place below k has the identity of the record at k
unfoldable pub single : State → ℕ → Bool
single s k = pick (eqb (at s k).len 0) true (all_below (λ j. not (is_of s (who_at (at s k)) j)) k)

-- N5 (g): the chassis of the record at k holds at most three on its port
unfoldable pub within : State → ℕ → Bool
within s k = pick (eqb (at s k).len 0) true (leb (count_records s (chassis_is (who_at (at s k)).port (who_at (at s k)).chassis)) per_chassis)

-- N5 (d) and (g): place k beside the others
abbrev pub fits_in : State → ℕ → Bool
fits_in s k = both (single s k) (within s k)

unfoldable pub fit : State → Bool
fit s =
    all (eqb (length s.buf) octets
    ∷ shares_ok (holds s.table)
    ∷ all_below (λ k. ok_place (at s k)) places
    ∷ all_below (fits_in s) places
    ∷ [])

-- the same, part by part
pub record Fit (s : State) : Type 0 where
  pub long : length s.buf ≡ octets
  pub good : (k : ℕ) → k < places → ok_place (at s k) ≡ true
  pub alone : (k : ℕ) → k < places → single s k ≡ true
  pub six : (p : ℕ) → p < ports → holds s.table p ≤ most
  pub taken : beyond ports (holds s.table) ≤ common
  pub three : (k : ℕ) → k < places → within s k ≡ true
