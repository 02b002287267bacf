-- `output::Output::put_octet` meets its contract: an octet that has room is stored, any other is left out.
-- The two cases are more_room and more-full of OutputLaws.
use Rattle.std.proofs.Common.{refl}
use Rattle.output.specs.Output.{seen}
use Rattle.output.proofs.OutputLaws.{puts_one, more_room, more-full}
use Rattle.output.proofs.Output.put_octet.Goals as goal

pub returns-then-at-self : goal.returns-then-at-self
returns-then-at-self c =
    let o = c.args.self.now in
    record { lent = refl; put = puts_one c.args.b (seen o) (more_room o.octets.now o.end c.args.b c.if-at-self.true) }

pub returns-else-at-self : goal.returns-else-at-self
returns-else-at-self c =
    let o = c.args.self.now in
    record { lent = refl; put = puts_one c.args.b (seen o) (more-full o.octets.now o.end c.args.b c.if-at-self.false) }
