-- `compare::put_entries` meets its contract: what the first table's places give, then what joined.
-- Together they are all entries (put_both).
use borrow.Author.Rules.{rules}
use Rattle.std.proofs.Common.{arith}
use Rattle.numbers.specs.Sizes.{places}
use Rattle.place.specs.State.{state}
use Rattle.compare.specs.Compare.{first_gives, second_gives}
use Rattle.compare.proofs.GivesLaws.{order-begins, order-more, order-ends}
use Rattle.compare.proofs.CompareLaws.{put_both}
use Rattle.compare.proofs.put_entries.Goals as goal

pub loop-i-init : goal.loop-i-init
loop-i-init c =
    let a = c.args in
    order-begins (first_gives (state a.first.now a.buffer.now) (state a.second.now a.buffer2.now))

pub loop-i-preserved : goal.loop-i-preserved
loop-i-preserved c =
    let a = c.args in
    order-more (first_gives (state a.first.now a.buffer.now) (state a.second.now a.buffer2.now)) c.loop-i.i c.loop-i.invariant (search rules)

pub loop-k-init : goal.loop-k-init
loop-k-init c =
    let a = c.args in
    order-begins (second_gives (state a.first.now a.buffer.now) (state a.second.now a.buffer2.now))

pub loop-k-preserved : goal.loop-k-preserved
loop-k-preserved c =
    let a = c.args in
    order-more (second_gives (state a.first.now a.buffer.now) (state a.second.now a.buffer2.now)) c.loop-k.k c.loop-k.invariant (search rules)

pub returns : goal.returns
returns c =
    let a = c.args in
    let one = state a.first.now a.buffer.now in
    let two = state a.second.now a.buffer2.now in
    put_both one two
    (order-ends (first_gives one two) c.loop-i.i places (omega arith) c.loop-i.invariant)
    (order-ends (second_gives one two) c.loop-k.k places (omega arith) c.loop-k.invariant)
