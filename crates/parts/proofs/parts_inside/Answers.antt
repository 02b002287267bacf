-- `parts::parts_inside` meets its contract: every part below the count lies inside.
-- A count above four decides; else the chain asks each.
use mathlib.Core.Path.{◌∙◌}
use borrow.Author.Tests.{le-leb}
use Rattle.std.proofs.Common.{rules, tests}
use Rattle.std.proofs.lemmas.Iterator.{YieldsList-from_slice}
use Rattle.std.proofs.lemmas.Iterator.Search.{all_from_yields_List}
use Rattle.system.proofs.ChainLaws.{all-map}
use Rattle.text.specs.Part.{most_parts, parts_in}
use Rattle.parts.specs.Inside.{part_inside}
use Rattle.parts.proofs.parts_inside.Goals as goal

pub returns : goal.returns
returns c =
    let a = c.args in
    rw (le-leb a.l.count most_parts c.if-l-gt-MOST_PARTS.false)
    (all_from_yields_List (part_inside a.n) _ _ c.all.result c.all.ensures.ran
    (YieldsList-from_slice (parts_in a.l) (cc c.iter.ensures.rest))
    (λ x b q k. search (rules, tests))
    ∙ all-map (part_inside a.n) (parts_in a.l))
