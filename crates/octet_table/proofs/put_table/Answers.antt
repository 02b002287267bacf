-- `octet_table::put_table` meets its contract: slices of the right lengths get the table's octets, others stay.
-- Both returns are one law (put-there, put-nowhere); the arrays' lengths are those of the struct.
use mathlib.Core.Path.{sym, ◌∙◌}
use Rattle.octet_table.specs.Lent.{lent}
use Rattle.octet_table.proofs.LentLaws.{long, put-there, put-nowhere}
use Rattle.octet_table.proofs.put_table.Goals as goal

pub put_ports-requires : goal.put_ports-requires
put_ports-requires c =
    let a = c.args in
    let h = long (lent a.ports.now a.seconds.now a.lengths.now a.senders.now) (sym c.lengths_fit.ensures ∙ c.if-lengths_fit.true) in
    h.ports

pub put_numbers-requires : goal.put_numbers-requires
put_numbers-requires c =
    let a = c.args in
    let h = long (lent a.ports.now a.seconds.now a.lengths.now a.senders.now) (sym c.lengths_fit.ensures ∙ c.if-lengths_fit.true) in
    h.seconds

pub put_numbers-requires-then-lengths_fit : goal.put_numbers-requires-then-lengths_fit
put_numbers-requires-then-lengths_fit c =
    let a = c.args in
    let h = long (lent a.ports.now a.seconds.now a.lengths.now a.senders.now) (sym c.lengths_fit.ensures ∙ c.if-lengths_fit.true) in
    h.lengths

pub put_senders-requires : goal.put_senders-requires
put_senders-requires c =
    let a = c.args in
    let h = long (lent a.ports.now a.seconds.now a.lengths.now a.senders.now) (sym c.lengths_fit.ensures ∙ c.if-lengths_fit.true) in
    h.senders

pub returns-then-lengths_fit : goal.returns-then-lengths_fit
returns-then-lengths_fit c =
    let a = c.args in
    put-there a.t (lent a.ports.now a.seconds.now a.lengths.now a.senders.now) _ _ _ _ (sym c.lengths_fit.ensures ∙ c.if-lengths_fit.true)
    c.put_ports.ensures c.put_numbers.ensures c.put_numbers-then-lengths_fit.ensures c.put_senders.ensures

pub returns-else-lengths_fit : goal.returns-else-lengths_fit
returns-else-lengths_fit c =
    let a = c.args in
    put-nowhere a.t (lent a.ports.now a.seconds.now a.lengths.now a.senders.now) (sym c.lengths_fit.ensures ∙ c.if-lengths_fit.false)
