-- `compare::put_first` meets its contract: each return is what the place gives.
-- The laws say it by what was found out until there: free, left, altered, other seconds, or nothing (first-free, first-left, first-kept).
use mathlib.Core.Path.{sym, ◌∙◌}
use Rattle.place.specs.State.{state, at}
use Rattle.compare.proofs.GivesLaws.{first-free, first-left, beside_same, beside-seconds, beside-altered, first-kept, put-nothing, put-given}
use Rattle.compare.proofs.put_first.Goals as goal

pub returns-then-kept-eq0 : goal.returns-then-kept-eq0
unfolding at
returns-then-kept-eq0 c =
    let a = c.args in
    put-nothing a.out.now (first-free (state a.first.now a.buffer.now) (state a.second.now a.buffer2.now) a.i c.requires c.if-kept-eq0.true)

pub returns-in_default : goal.returns-in_default
unfolding at
returns-in_default c =
    let a = c.args in
    put-given c.put_entry.ensures
    (first-left (state a.first.now a.buffer.now) (state a.second.now a.buffer2.now) a.i c.requires c.if-kept-eq0.false c.lldpdu_at-l.ensures (sym c.in_default.is ∙ c.place_in.ensures))

-- from here on the second table has the identity, and both records were compared
pub returns-then-not-is_unaltered : goal.returns-then-not-is_unaltered
unfolding at
returns-then-not-is_unaltered c =
    let a = c.args in
    let one = state a.first.now a.buffer.now in
    let two = state a.second.now a.buffer2.now in
    let k = c.in-Some.k in
    put-given c.put_entry-then-not-is_unaltered.ensures
    (first-kept one two a.i c.requires c.if-kept-eq0.false c.lldpdu_at-l.ensures c.in-Some.ensures c.lldpdu_at-m.ensures c.is_unaltered.ensures
    ∙ beside-altered k (at one a.i).seconds (at two k).seconds c.if-not-is_unaltered.true)

pub returns-then-first-i : goal.returns-then-first-i
unfolding at
returns-then-first-i c =
    let a = c.args in
    put-given c.put_entry-then-first-i.ensures
    (first-kept (state a.first.now a.buffer.now) (state a.second.now a.buffer2.now) a.i c.requires c.if-kept-eq0.false c.lldpdu_at-l.ensures c.in-Some.ensures
    c.lldpdu_at-m.ensures c.is_unaltered.ensures
    ∙ beside-seconds c.in-Some.k c.if-not-is_unaltered.false c.if-first-i.true)

pub returns-else-first-i : goal.returns-else-first-i
unfolding at
returns-else-first-i c =
    let a = c.args in
    put-nothing a.out.now
    (first-kept (state a.first.now a.buffer.now) (state a.second.now a.buffer2.now) a.i c.requires c.if-kept-eq0.false c.lldpdu_at-l.ensures c.in-Some.ensures
    c.lldpdu_at-m.ensures c.is_unaltered.ensures
    ∙ beside_same c.in-Some.k c.if-not-is_unaltered.false c.if-first-i.false)
