-- The refusals that come first in every call but Start: 1 where the table is not fit (R1), then, where there is a port, 2 if it is none (R2).
-- They are given in the order of Q1.
use Rattle.std.specs.Prelude.{ℕ, not, [], ◌∷◌, leb}
use Rattle.tally.specs.Due.{first_due}
use Rattle.numbers.specs.Sizes.{ports}
use Rattle.place.specs.State.{State}
use Rattle.fitness.specs.Fit.{fit}

unfoldable pub refusal_when_unfit : State → ℕ
refusal_when_unfit s = first_due ((not (fit s), 1) ∷ [])

unfoldable pub refusal_on_port : ℕ → State → ℕ
refusal_on_port p s = first_due ((not (fit s), 1) ∷ (leb ports p, 2) ∷ [])
