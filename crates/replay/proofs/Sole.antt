-- For each public function of `replay`: two answers that its contract allows are one, and so are two states of each buffer that it may write.
-- The contracts are the toolchain's own reading of the source.
use mathlib.Core.Path.{sym, ap, ◌∙◌}
use Rattle.tally.proofs.Sole.{Sole, SoleAt}
use Rattle.replay.specs.Feeding.{Moment}
use Rattle.replay.proofs.begin.Kinds as begin-kinds
use Rattle.replay.proofs.begin.Reads as begin
use Rattle.replay.proofs.wants_more.Kinds as wants-more-kinds
use Rattle.replay.proofs.wants_more.Reads as wants-more
use Rattle.replay.proofs.feed.Kinds as feed-kinds
use Rattle.replay.proofs.feed.Reads as feed
use Rattle.replay.proofs.finish.Kinds as finish-kinds
use Rattle.replay.proofs.finish.Reads as finish

pub begin-sole : Sole 1 begin-kinds.ps begin-kinds.r begin.Post
begin-sole κs a r q x y e f = e ∙ sym f

pub wants-more-sole : Sole 0 wants-more-kinds.ps wants-more-kinds.r wants-more.Post
wants-more-sole κs a r q x y e f = e ∙ sym f

pub feed-sole : Sole 3 feed-kinds.ps feed-kinds.r feed.Post
feed-sole κs a r q x y e f = let d = e.exact ∙ sym f.exact in λ i. record { replay = (d i).replay; table = (d i).state.table }

pub feed-buffer-sole : SoleAt 3 feed-kinds.ps feed-kinds.r feed.Post (λ κs x. x.1.1.0.now)
feed-buffer-sole κs a r q x y e f = ap (λ (m : Moment). m.state.buf) (e.exact ∙ sym f.exact)

pub feed-room-sole : SoleAt 3 feed-kinds.ps feed-kinds.r feed.Post (λ κs x. x.1.1.1.0.now)
feed-room-sole κs a r q x y e f = ap (λ (m : Moment). m.room) (e.exact ∙ sym f.exact)

pub finish-sole : Sole 0 finish-kinds.ps finish-kinds.r finish.Post
finish-sole κs a r q x y e f = e.exact ∙ sym f.exact
