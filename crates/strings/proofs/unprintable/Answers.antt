-- `strings::unprintable` meets its contract: its tests leave out what the rule does not list.
-- The law is left_out_lem of TextLaws, computed over all octets.
use native.Mathlib.Omega.{arith}
use Rattle.strings.proofs.TextLaws.{left_out_lem}
use Rattle.strings.proofs.unprintable.Goals as goal

pub returns : goal.returns
returns c = left_out_lem c.args.b (omega arith)
