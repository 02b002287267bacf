-- For each public function of this crate: two lines that its contract allows have the same octets and end at the same place.
-- The contracts are the toolchain's own reading of the source (`Post` of each `Reads`).
use Rattle.output.proofs.Sole.{SolePut, same-put}
use Rattle.line.proofs.put_number.Kinds as number-kinds
use Rattle.line.proofs.put_number.Reads as number
use Rattle.line.proofs.put_hexes.Kinds as hexes-kinds
use Rattle.line.proofs.put_hexes.Reads as hexes
use Rattle.line.proofs.put_joined.Kinds as joined-kinds
use Rattle.line.proofs.put_joined.Reads as joined
use Rattle.line.proofs.put_chassis.Kinds as chassis-kinds
use Rattle.line.proofs.put_chassis.Reads as chassis

pub put-number-sole : SolePut 2 number-kinds.ps number-kinds.r number.Post (λ κs x. x.0.now)
put-number-sole κs a r q x y = same-put

pub put-hexes-sole : SolePut 3 hexes-kinds.ps hexes-kinds.r hexes.Post (λ κs x. x.0.now)
put-hexes-sole κs a r q x y = same-put

pub put-joined-sole : SolePut 3 joined-kinds.ps joined-kinds.r joined.Post (λ κs x. x.0.now)
put-joined-sole κs a r q x y = same-put

pub put-chassis-sole : SolePut 3 chassis-kinds.ps chassis-kinds.r chassis.Post (λ κs x. x.0.now)
put-chassis-sole κs a r q x y = same-put
