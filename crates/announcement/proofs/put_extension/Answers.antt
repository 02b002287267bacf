-- `announcement::put_extension` meets its contract: what put_extended puts, where it is there.
-- Its TLV is the only one, which is a law of PutLaws.
use Rattle.output.proofs.OutputLaws.{put_same}
use Rattle.announcement.proofs.PutLaws.{extension-octets}
use Rattle.announcement.proofs.put_extension.Goals as goal

pub returns-in-Some : goal.returns-in-Some
returns-in-Some c =
    put_same c.put_extended.ensures (extension-octets c.args.text.now c.in-Some.is c.text_of.ensures)
