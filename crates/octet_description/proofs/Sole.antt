-- For each public function of this crate: two answers that its contract allows are one, and so are two outputs.
-- The contracts are the toolchain's own reading of the source (`Post` of each function's `Reads`).
use mathlib.Core.Path.{sym, ◌∙◌}
use Rattle.tally.proofs.Sole.{Sole}
use Rattle.output.proofs.Sole.{SolePut, same-put}
use Rattle.octet_description.proofs.putting.put_two.Kinds as two-kinds
use Rattle.octet_description.proofs.putting.put_two.Reads as two
use Rattle.octet_description.proofs.putting.put_front.Kinds as front-kinds
use Rattle.octet_description.proofs.putting.put_front.Reads as front
use Rattle.octet_description.proofs.putting.put_description.Kinds as description-kinds
use Rattle.octet_description.proofs.putting.put_description.Reads as description
use Rattle.octet_description.proofs.taking.description_in.Kinds as description-in-kinds
use Rattle.octet_description.proofs.taking.description_in.Reads as description-in
use Rattle.octet_description.proofs.taking.presences_fit.Kinds as presences-fit-kinds
use Rattle.octet_description.proofs.taking.presences_fit.Reads as presences-fit

pub put-two-sole : SolePut 2 two-kinds.ps two-kinds.r two.Post (λ κs x. x.0.now)
put-two-sole κs a r q x y = same-put

pub put-front-sole : SolePut 2 front-kinds.ps front-kinds.r front.Post (λ κs x. x.0.now)
put-front-sole κs a r q x y = same-put

pub put-description-sole : SolePut 2 description-kinds.ps description-kinds.r description.Post (λ κs x. x.0.now)
put-description-sole κs a r q x y = same-put

pub description-in-sole : Sole 1 description-in-kinds.ps description-in-kinds.r description-in.Post
description-in-sole κs a r q x y e f = e ∙ sym f

pub presences-fit-sole : Sole 1 presences-fit-kinds.ps presences-fit-kinds.r presences-fit.Post
presences-fit-sole κs a r q x y e f = e ∙ sym f
