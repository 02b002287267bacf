-- What the numbers of a table say: who holds how many (N10), the lowest free place (N4), whether the shares are kept (N5 e, f).
-- A place with length 0 is free, any other is used (N4).
use Rattle.std.specs.Prelude.{ℕ, Bool, not, get_or, leb, eqb}
use Rattle.tally.specs.Tests.{both}
use Rattle.tally.specs.Ranges.{all_below}
use Rattle.tally.specs.Counts.{count, first_from}
use Rattle.rules.specs.Shares.{most, beyond}
use Rattle.numbers.specs.Sizes.{ports, places, common}
use Rattle.numbers.specs.declared.Table.{Table}

abbrev pub is_free : Table → ℕ → Bool
is_free t k = eqb (get_or t.length k 0) 0

abbrev pub used_by : Table → ℕ → ℕ → Bool
used_by t p k = both (not (is_free t k)) (eqb (get_or t.port k 0) p)

unfoldable pub holds : Table → ℕ → ℕ
holds t p = count (used_by t p) places

unfoldable pub first_free : Table → ℕ
first_free t = first_from (is_free t) 0 places

-- where port p holds `held p`
unfoldable pub shares_ok : (ℕ → ℕ) → Bool
shares_ok held = both (all_below (λ p. leb (held p) most) ports) (leb (beyond ports held) common)
