-- `octet_table::put_ports` meets its contract: the octets are the ports; they mean the same ports.
-- The law is one_each of LentLaws.
use mathlib.Core.Path.{sym, ap, ◌∙◌}
use borrow.Author.Rules.{rules}
use Rattle.octet_table.specs.Lent.{one_per_place}
use Rattle.octet_table.proofs.LentLaws.{one_each}
use Rattle.octet_table.proofs.put_ports.Goals as goal

pub returns : goal.returns
returns c =
    let same = one_each c.args.ports (search rules) in
    let w = c.copy_from_slice.ensures.after in
    (w ∙ sym same, ap one_per_place w ∙ same)
