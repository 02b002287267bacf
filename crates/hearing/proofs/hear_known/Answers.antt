-- `hearing::hear_known` meets its contract: a goodbye frees the place (at-gone), any other announcement is kept in it (at-kept).
-- There is such a place, and it has room (there-put); the rest of the table stays as it was.
use mathlib.Core.Path.{◌≡◌, ◌∙◌}
use native.Mathlib.Omega.{arith}
use Rattle.std.specs.Prelude.{Ok}
use Rattle.rules.specs.declared.Reply.TheVariants.{Refreshed, Gone}
use Rattle.place.specs.State.{state, put_there, free, keep}
use Rattle.place.proofs.ThereLaws.{there-put}
use Rattle.hearing.proofs.ReplyLaws.{tells, at-gone, at-kept}
use Rattle.hearing.proofs.hear_known.Goals as goal

pub returns-then-seconds-eq0 : goal.returns-then-seconds-eq0
returns-then-seconds-eq0 c =
    let a = c.args in
    let s = state a.t a.buffer.now in
    let freed : _ ≡ put_there s a.k free = c.release-u.ensures in
    let k = freed ∙ there-put s a.k free c.requires.0 c.requires.1.0 (omega arith) in
    tells {a = Ok Gone} c.reply_with.ensures k ∙ at-gone a.k a.seconds (keep a.p a.seconds a.sender a.l.now) s c.if-seconds-eq0.true

pub returns : goal.returns
unfolding keep
returns c =
    let a = c.args in
    let s = state a.t a.buffer.now in
    let x = keep a.p a.seconds a.sender a.l.now in
    let kept : _ ≡ put_there s a.k x = c.store-u.ensures in
    let k = kept ∙ there-put s a.k x c.requires.0 c.requires.1.0 c.requires.1.1 in
    tells {a = Ok Refreshed} c.reply_with-2.ensures k ∙ at-kept a.k a.seconds x s c.if-seconds-eq0.false
