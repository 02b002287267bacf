-- What two looks are answered with, and every octet of the list behind it (J4).
-- The refusal of the first replay goes before that of the second, and both before what compare answers. Any number comes back, of a refusal or not.
use Rattle.std.specs.Prelude.{ℕ, List, Result, Ok, Err}
use Rattle.place.specs.State.{State}
use Rattle.compare.specs.Compare.{compared}
use Rattle.play.specs.Numbers.{Told, told, told_of}

unfoldable pub between : Result ℕ ℕ → State → Result ℕ ℕ → State → List ℕ → Told
between (Err n) s b t l = told (Err n) l
between (Ok k) s (Err n) t l = told (Err n) l
between (Ok k) s (Ok m) t l = told_of (compared s t l)
