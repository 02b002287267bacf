-- `links::names` meets its contract: the addresses are in a row behind their count.
-- The law is names-counts of LinkLaws.
use mathlib.Core.Path.{sym, ap, ◌∙◌}
use Rattle.tally.specs.Ranges.{some_below}
use Rattle.tally.proofs.RangesLaws.{some-none}
use Rattle.links.proofs.LinkLaws.{names-counts}
use Rattle.links.proofs.names.Goals as goal

pub returns-then-k-eq0 : goal.returns-then-k-eq0
returns-then-k-eq0 c =
    let a = c.args in
    sym (names-counts a.part.now c.octet-n.ensures c.octet-m.ensures c.octet-k.ensures a.address ∙ ap (some_below _) c.if-k-eq0.true ∙ some-none _)

pub returns-then-part-first : goal.returns-then-part-first
returns-then-part-first c =
    let a = c.args in
    c.one_by_one.ensures ∙ sym (names-counts a.part.now c.octet-n.ensures c.octet-m.ensures c.octet-k.ensures a.address)

pub returns : goal.returns
returns c =
    let a = c.args in
    c.in_row.ensures ∙ sym (names-counts a.part.now c.octet-n.ensures c.octet-m.ensures c.octet-k.ensures a.address)
