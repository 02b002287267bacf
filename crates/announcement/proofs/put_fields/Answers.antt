-- `announcement::put_fields` meets its contract: the fields one behind the other.
-- The law is fields-put of EncodeLaws.
use Rattle.reading.specs.Meaning.{said_by}
use Rattle.announcement.specs.Encode.{countable_of}
use Rattle.announcement.proofs.EncodeLaws.{fields-put}
use Rattle.announcement.proofs.put_fields.Goals as goal

pub returns : goal.returns
returns c =
    let a = c.args in
    fields-put (countable_of (said_by a.text.now a.d))
    c.put_string.ensures
    c.put_system.ensures
    c.put_devices.ensures
    c.put_link.ensures
    c.put_extension.ensures
    c.put_list.ensures
