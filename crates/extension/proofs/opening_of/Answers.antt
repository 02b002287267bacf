-- `extension::opening_of` meets its contract: five octets, each where the octets before it say.
-- The law is opening-read of LayoutLaws.
use native.Mathlib.Omega.{arith}
use Rattle.extension.proofs.LayoutLaws.{opening-read}
use Rattle.extension.proofs.opening_of.Goals as goal

pub returns : goal.returns
returns c = (opening-read c.args.t.now c.octet-n.ensures c.octet-m.ensures c.octet-width.ensures c.octet-addresses.ensures c.octet-items.ensures, omega arith)
