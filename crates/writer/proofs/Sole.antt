-- For the writer's public function: two answers that its contract allows are one, and so are the two outputs.
-- The contract is the toolchain's own reading of the source (`Post` of its `Reads`), so nothing is said twice.
use mathlib.Core.Path.{sym, ap, ◌∙◌}
use Rattle.tally.proofs.Sole.{Sole, SoleAt}
use Rattle.reading.specs.Meaning.{said_by}
use Rattle.announcement.specs.Encode.{encode}
use Rattle.writer.specs.Write.{Written, octets_written, over}
use Rattle.writer.proofs.write.Kinds as write-kinds
use Rattle.writer.proofs.write.Reads as write

pub write-sole : Sole 2 write-kinds.ps write-kinds.r write.Post
write-sole κs a r q x y e f = e.exact ∙ sym f.exact

-- the output at exit; the parameters are the description, the text and the output, in this order
pub write-output-sole : SoleAt 2 write-kinds.ps write-kinds.r write.Post (λ κs x. x.1.1.0.now)
write-output-sole κs a r q x y e f =
    e.output
    ∙ ap (λ (w : Written). over (octets_written w) (encode (said_by a.1.0.now a.0)) a.1.1.0.now) (write-sole κs a r q x y e f)
    ∙ sym f.output
