-- `octet_description::putting::put_system` meets its contract: the system fields, one behind the other.
-- The four are joined by a law of OutputLaws.
use Rattle.output.proofs.OutputLaws.{put_then}
use Rattle.octet_description.proofs.putting.put_system.Goals as goal

pub returns : goal.returns
returns c =
    put_then _ _ c.put_part.ensures (put_then _ _ c.put_part-2.ensures (put_then _ _ c.put_flags.ensures c.put_parts.ensures))
