-- `system::management_sound` meets its contract: every address has a right length.
-- The chain asks each part below the count.
use mathlib.Core.Path.{ap, ◌∙◌}
use lib.ListN.{length, take}
use Rattle.std.proofs.Common.{rules, tests}
use Rattle.std.proofs.lemmas.Iterator.{YieldsList-from_slice}
use Rattle.std.proofs.lemmas.Iterator.Search.{all_from_yields_List}
use Rattle.tally.specs.Tests.{all}
use Rattle.fields.specs.Field.{management_ok}
use Rattle.text.specs.Part.{text_of, parts_in}
use Rattle.system.proofs.ChainLaws.{all-map, map-twice, take-front}
use Rattle.system.proofs.management_sound.Goals as goal

pub returns : goal.returns
returns c =
    let s = c.args.text.now in
    let l = c.args.l in
    all_from_yields_List (λ p. management_ok (length (text_of s p))) _ _ c.all.result c.all.ensures.ran
    (YieldsList-from_slice (parts_in l) (cc (c.iter.ensures.rest, ap (λ n. take n l.parts) c.part_count.ensures, take-front l.count l.parts)))
    (λ x b q k. search (rules, tests))
    ∙ all-map (λ p. management_ok (length (text_of s p))) (parts_in l)
    ∙ ap all (map-twice (text_of s) (λ a. management_ok (length a)) (parts_in l))
