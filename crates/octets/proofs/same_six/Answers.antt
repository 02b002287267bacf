-- `octets::same_six` meets its contract: what == asks is what the rule asks.
-- The law is pointwise-same of AddressLaws.
use mathlib.Core.Path.{◌∙◌}
use Rattle.octets.proofs.AddressLaws.{pointwise-same}
use Rattle.octets.proofs.same_six.Goals as goal

pub returns : goal.returns
returns c = c.eq.ensures ∙ pointwise-same c.args.a c.args.b
