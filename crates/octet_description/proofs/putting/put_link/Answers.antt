-- `octet_description::putting::put_link` meets its contract: presence, and three parts.
-- Of link information that is there, the octets are those that put_table puts.
use Rattle.octet_description.proofs.putting.put_link.Goals as goal

pub returns-in-Some : goal.returns-in-Some
returns-in-Some c = rw c.in-Some.is c.put_table-in-Some.ensures
