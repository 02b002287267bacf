-- `play::ended` meets its contract: what `finish` answered is kept with the number of its refusal.
-- The table is kept as it is.
use mathlib.Core.Path.{refl}
use Rattle.play.proofs.ended.Goals as goal

pub returns : goal.returns
returns c = record { said = c.finish.result; answer = c.finish.ensures; numbers = c.in_numbers.ensures; table = refl }
