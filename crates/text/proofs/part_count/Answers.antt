-- `text::part_count` meets its contract: the count, but no more than there is room for.
-- The array has four parts, so that its first `count` are as many.
use mathlib.Core.Path.{◌≡◌, sym, ap, ◌∙◌}
use native.Mathlib.Omega.{arith}
use borrow.Author.Rules.{rules}
use lib.ListN.{length}
use lib.Seq.{take_all, length-take-le}
use Rattle.text.proofs.PartsLaws.{length-mapped}
use Rattle.text.proofs.part_count.Goals as goal

pub returns-then-count-gt-MOST_PARTS : goal.returns-then-count-gt-MOST_PARTS
returns-then-count-gt-MOST_PARTS c =
    let l = c.args.l in
    let four : length l.parts ≡ 4 = search (rules, length-mapped) in
    sym (ap length (take_all l.count l.parts (omega arith)) ∙ four)

pub returns : goal.returns
returns c =
    let l = c.args.l in
    let four : length l.parts ≡ 4 = search (rules, length-mapped) in
    sym (length-take-le l.count l.parts (omega arith))
