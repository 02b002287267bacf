-- `ids::all_digits` meets its contract: the characters asked one by one are those asked place by place.
-- The law is all-digits of IdLaws.
use mathlib.Core.Path.{◌∙◌}
use Rattle.std.proofs.Common.{rules, tests}
use Rattle.std.proofs.lemmas.Iterator.{YieldsList-from_slice}
use Rattle.std.proofs.lemmas.Iterator.Search.{all_from_yields_List}
use Rattle.ids.specs.Id.{digit_ok}
use Rattle.ids.proofs.IdLaws.{all-digits}
use Rattle.ids.proofs.all_digits.Goals as goal

pub returns : goal.returns
returns c =
    let l = c.args.octets.now in
    all_from_yields_List digit_ok _ _ _ c.all.ensures.ran (YieldsList-from_slice l c.iter.ensures.rest) (λ x b q k. search (rules, tests)) ∙ all-digits l
