-- `announcement::put_lldpdu` meets its contract: the first three, the fields and End one behind the other.
-- The law is encode-put of EncodeLaws.
use Rattle.reading.specs.Meaning.{said_by}
use Rattle.announcement.specs.Encode.{countable_of}
use Rattle.announcement.proofs.EncodeLaws.{encode-put}
use Rattle.announcement.proofs.put_lldpdu.Goals as goal

pub returns : goal.returns
returns c =
    let a = c.args in
    encode-put (countable_of (said_by a.text.now a.d)) c.put_id.ensures c.put_id-2.ensures c.put_seconds.ensures c.put_fields.ensures c.put_head.ensures
