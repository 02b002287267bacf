-- `extension::closing_of` meets its contract: two octets behind the last entry.
-- The law is closing-read of LayoutLaws.
use native.Mathlib.Omega.{arith}
use Rattle.extension.proofs.LayoutLaws.{closing-read}
use Rattle.extension.proofs.closing_of.Goals as goal

pub returns : goal.returns
returns c = (closing-read c.args.t.now c.requires.h_value c.entries_end-at.ensures.0 c.octet-portitems.ensures c.octet-pairings.ensures, omega (arith, c.entries_end-at.ensures.1))
