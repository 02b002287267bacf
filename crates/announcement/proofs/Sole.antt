-- Two outputs that the contract of `put_lldpdu` allows have the same octets and end at the same place.
-- The contract is the toolchain's own reading of the source (`Post` of its `Reads`).
use Rattle.output.proofs.Sole.{SolePut, same-put}
use Rattle.announcement.proofs.put_lldpdu.Kinds as lldpdu-kinds
use Rattle.announcement.proofs.put_lldpdu.Reads as lldpdu

pub put-lldpdu-sole : SolePut 3 lldpdu-kinds.ps lldpdu-kinds.r lldpdu.Post (λ κs x. x.0.now)
put-lldpdu-sole κs a r q x y = same-put
