-- `announcement::put_devices` meets its contract: the device information one behind the other.
-- The law is devices-put of EncodeLaws.
use Rattle.reading.specs.Meaning.{said_by}
use Rattle.announcement.specs.Encode.{countable_of}
use Rattle.announcement.proofs.EncodeLaws.{devices-put}
use Rattle.announcement.proofs.put_devices.Goals as goal

pub returns : goal.returns
returns c =
    let a = c.args in
    devices-put (countable_of (said_by a.text.now a.d)) c.put_device.ensures c.put_device-2.ensures c.put_device-3.ensures c.put_device-4.ensures
