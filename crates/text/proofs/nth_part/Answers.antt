-- `text::nth_part` meets its contract: at the count there is no part, and past the four neither.
-- The laws are past-count, past_room and front_at of PartsLaws.
use mathlib.Core.Path.{◌≡◌, sym}
use borrow.Author.Rules.{rules}
use lib.ListN.{length}
use Rattle.text.specs.Part.{most_parts}
use Rattle.text.proofs.PartsLaws.{length-mapped, past-count, past_room, front_at}
use Rattle.text.proofs.nth_part.Goals as goal

pub returns-then-i-l : goal.returns-then-i-l
returns-then-i-l c = let a = c.args in sym (past-count a.l a.i c.if-i-l.true)

pub returns-then-i-ge-MOST_PARTS : goal.returns-then-i-ge-MOST_PARTS
returns-then-i-ge-MOST_PARTS c =
    let a = c.args in
    let four : length a.l.parts ≡ most_parts = search (rules, length-mapped) in
    sym (past_room a.l a.i four c.if-i-ge-MOST_PARTS.true)

pub returns : goal.returns
returns c = let a = c.args in sym (front_at a.l a.i c.if-i-l.false)
