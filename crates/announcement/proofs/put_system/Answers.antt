-- `announcement::put_system` meets its contract: the system fields one behind the other.
-- The law is system-put of EncodeLaws.
use Rattle.system.specs.System.{system_meant}
use Rattle.announcement.proofs.EncodeLaws.{system-put}
use Rattle.announcement.proofs.put_system.Goals as goal

pub returns : goal.returns
returns c =
    let a = c.args in
    system-put (system_meant a.text.now a.x) c.put_string.ensures c.put_string-2.ensures c.put_capabilities.ensures c.put_management.ensures
