-- `replay::take_in` meets its contract: octets that are wanted later are put behind those that are held.
-- Both returns are laws of what is taken in (took-kept, took-passed).
use mathlib.Core.Path.{sym, ◌∙◌}
use Rattle.replay.proofs.FeedingLaws.{took-kept, took-passed}
use Rattle.replay.proofs.take_in.Goals as goal

pub returns-then-is_kept : goal.returns-then-is_kept
returns-then-is_kept c =
    let a = c.args in
    λ s. took-kept a.r a.room.now s a.part.now (sym c.is_kept.ensures ∙ c.if-is_kept.true) c.put_all.ensures

pub returns-else-is_kept : goal.returns-else-is_kept
returns-else-is_kept c =
    let a = c.args in
    λ s. took-passed a.r a.room.now s a.part.now (sym c.is_kept.ensures ∙ c.if-is_kept.false)
