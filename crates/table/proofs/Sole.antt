-- For each public function of the table: two outcomes that its contract allows are one, and so are the two buffers.
-- The contracts are the toolchain's own reading of the source, so nothing is said twice.
use mathlib.Core.Path.{sym, ap, ◌∙◌}
use Rattle.tally.proofs.Sole.{Sole, SoleAt}
use Rattle.freeing.specs.Calls.{After}
use Rattle.hearing.specs.Frame.{Told}
use Rattle.freeing.proofs.empty_table.Kinds as empty-table-kinds
use Rattle.freeing.proofs.empty_table.Reads as empty-table
use Rattle.freeing.proofs.start.Kinds as start-kinds
use Rattle.freeing.proofs.start.Reads as start
use Rattle.hearing.proofs.frame_on_port.Kinds as frame-kinds
use Rattle.hearing.proofs.frame_on_port.Reads as frame
use Rattle.freeing.proofs.seconds_passed.Kinds as passed-kinds
use Rattle.freeing.proofs.seconds_passed.Reads as passed
use Rattle.freeing.proofs.link_lost.Kinds as lost-kinds
use Rattle.freeing.proofs.link_lost.Reads as lost
use Rattle.questions.proofs.how_many.Kinds as many-kinds
use Rattle.questions.proofs.how_many.Reads as many
use Rattle.questions.proofs.who_sees.Kinds as sees-kinds
use Rattle.questions.proofs.who_sees.Reads as sees

pub empty-table-sole : Sole 0 empty-table-kinds.ps empty-table-kinds.r empty-table.Post
empty-table-sole κs a r q x y e f = e ∙ sym f

pub start-sole : Sole 1 start-kinds.ps start-kinds.r start.Post
start-sole κs a r q x y e f = ap (λ (w : After). w.outcome) (e.exact ∙ sym f.exact)

pub frame-on-port-sole : Sole 2 frame-kinds.ps frame-kinds.r frame.Post
frame-on-port-sole κs a r q x y e f = ap (λ (w : Told). w.outcome) (e.exact ∙ sym f.exact)

pub seconds-passed-sole : Sole 1 passed-kinds.ps passed-kinds.r passed.Post
seconds-passed-sole κs a r q x y e f = ap (λ (w : After). w.outcome) (e.exact ∙ sym f.exact)

pub link-lost-sole : Sole 1 lost-kinds.ps lost-kinds.r lost.Post
link-lost-sole κs a r q x y e f = ap (λ (w : After). w.outcome) (e.exact ∙ sym f.exact)

pub how-many-sole : Sole 1 many-kinds.ps many-kinds.r many.Post
how-many-sole κs a r q x y e f = e.exact ∙ sym f.exact

pub who-sees-sole : Sole 1 sees-kinds.ps sees-kinds.r sees.Post
who-sees-sole κs a r q x y e f = e.exact ∙ sym f.exact

-- the buffer at exit is the second parameter of each call

pub start-buffer-sole : SoleAt 1 start-kinds.ps start-kinds.r start.Post (λ κs x. x.1.0.now)
start-buffer-sole κs a r q x y e f = ap (λ (w : After). w.buf) (e.exact ∙ sym f.exact)

pub frame-on-port-buffer-sole : SoleAt 2 frame-kinds.ps frame-kinds.r frame.Post (λ κs x. x.1.0.now)
frame-on-port-buffer-sole κs a r q x y e f = ap (λ (w : Told). w.buf) (e.exact ∙ sym f.exact)

pub seconds-passed-buffer-sole : SoleAt 1 passed-kinds.ps passed-kinds.r passed.Post (λ κs x. x.1.0.now)
seconds-passed-buffer-sole κs a r q x y e f = ap (λ (w : After). w.buf) (e.exact ∙ sym f.exact)

pub link-lost-buffer-sole : SoleAt 1 lost-kinds.ps lost-kinds.r lost.Post (λ κs x. x.1.0.now)
link-lost-buffer-sole κs a r q x y e f = ap (λ (w : After). w.buf) (e.exact ∙ sym f.exact)
