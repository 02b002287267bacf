-- `links::link_fits` meets its contract: each return by the counts read so far.
-- The law is link-counts of LinkLaws.
use mathlib.Core.Path.{refl, sym, ◌∙◌}
use Rattle.tally.proofs.TestsLaws.{both_end}
use Rattle.links.proofs.LinkLaws.{link-counts}
use Rattle.links.proofs.link_fits.Goals as goal

pub returns-then-not-one_to_four : goal.returns-then-not-one_to_four
returns-then-not-one_to_four c = sym (link-counts c.args.part.now c.octet-n.ensures refl refl ∙ rw (sym c.one_to_four.ensures ∙ c.if-not-one_to_four.true))

pub returns-then-not-one_to_four-2 : goal.returns-then-not-one_to_four-2
returns-then-not-one_to_four-2 c =
    sym (link-counts c.args.part.now c.octet-n.ensures c.octet-m.ensures refl
    ∙ rw (sym c.one_to_four.ensures ∙ c.if-not-one_to_four.false, sym c.one_to_four-2.ensures ∙ c.if-not-one_to_four-2.true))

pub returns : goal.returns
returns c =
    sym (link-counts c.args.part.now c.octet-n.ensures c.octet-m.ensures c.octet-k.ensures
    ∙ rw (sym c.one_to_four.ensures ∙ c.if-not-one_to_four.false, sym c.one_to_four-2.ensures ∙ c.if-not-one_to_four-2.false) (both_end _))
