-- `compare::put_second` meets its contract: each return is what the place gives.
-- Free, known in the first table, or joined (second-free, second-known, second-joined).
use Rattle.place.specs.State.{state, at}
use Rattle.compare.proofs.GivesLaws.{second-free, second-known, second-joined, put-nothing, put-given}
use Rattle.compare.proofs.put_second.Goals as goal

pub returns-then-kept-eq0 : goal.returns-then-kept-eq0
unfolding at
returns-then-kept-eq0 c =
    let a = c.args in
    put-nothing a.out.now
    (second-free (state a.first.now a.buffer.now) (state a.second.now a.buffer2.now) a.k c.requires c.if-kept-eq0.true)

pub returns-in-Some : goal.returns-in-Some
unfolding at
returns-in-Some c =
    let a = c.args in
    put-nothing a.out.now
    (second-known (state a.first.now a.buffer.now) (state a.second.now a.buffer2.now) a.k c.requires c.if-kept-eq0.false c.lldpdu_at-l.ensures c.in-Some.ensures)

pub returns-in-None : goal.returns-in-None
unfolding at
returns-in-None c =
    let a = c.args in
    put-given c.put_entry.ensures
    (second-joined (state a.first.now a.buffer.now) (state a.second.now a.buffer2.now) a.k c.requires c.if-kept-eq0.false c.lldpdu_at-l.ensures c.in-None.ensures)
