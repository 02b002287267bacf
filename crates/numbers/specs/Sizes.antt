-- The sizes of the table (N1, N12), all from the number of ports.
-- `ports` is the one number to change, with `PORTS` of the code, 63 at most (N1); every law is over it.
use Rattle.std.specs.Prelude.{ℕ}
use Rattle.rules.specs.Shares.{common_for, places_for}

abbrev pub ports : ℕ
ports = 10

abbrev pub places : ℕ
places = places_for ports

abbrev pub common : ℕ
common = common_for ports
