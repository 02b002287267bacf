-- For each public function: two answers that its contract allows are one.
-- The contracts are the toolchain's own reading of the source.
use mathlib.Core.Path.{sym, ◌∙◌}
use Rattle.tally.proofs.Sole.{Sole}
use Rattle.numbers.proofs.held.Kinds as held-kinds
use Rattle.numbers.proofs.held.Reads as held
use Rattle.numbers.proofs.beyond_sure.Kinds as beyond-sure-kinds
use Rattle.numbers.proofs.beyond_sure.Reads as beyond-sure
use Rattle.numbers.proofs.room_of.Kinds as room-of-kinds
use Rattle.numbers.proofs.room_of.Reads as room_of
use Rattle.numbers.proofs.shares_fit.Kinds as shares-fit-kinds
use Rattle.numbers.proofs.shares_fit.Reads as shares-fit
use Rattle.numbers.proofs.first_free.Kinds as first-free-kinds
use Rattle.numbers.proofs.first_free.Reads as first-free

pub held-sole : Sole 0 held-kinds.ps held-kinds.r held.Post
held-sole κs a r q x y e f = e ∙ sym f

pub beyond-sure-sole : Sole 0 beyond-sure-kinds.ps beyond-sure-kinds.r beyond-sure.Post
beyond-sure-sole κs a r q x y e f = e ∙ sym f

pub room-of-sole : Sole 0 room-of-kinds.ps room-of-kinds.r room_of.Post
room-of-sole κs a r q x y e f = e ∙ sym f

pub shares-fit-sole : Sole 0 shares-fit-kinds.ps shares-fit-kinds.r shares-fit.Post
shares-fit-sole κs a r q x y e f = e ∙ sym f

pub first-free-sole : Sole 0 first-free-kinds.ps first-free-kinds.r first-free.Post
first-free-sole κs a r q x y e f = e ∙ sym f
