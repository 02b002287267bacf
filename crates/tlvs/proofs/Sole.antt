-- For each public function of this crate: two places that its contract allows are one, and so are the two outputs.
-- The contracts are the toolchain's own reading of the source (`Post` of each `Reads`).
use Rattle.output.proofs.Sole.{SolePut, same-put}
use Rattle.tlvs.proofs.put_head.Kinds as head-kinds
use Rattle.tlvs.proofs.put_head.Reads as head
use Rattle.tlvs.proofs.put_id.Kinds as id-kinds
use Rattle.tlvs.proofs.put_id.Reads as id
use Rattle.tlvs.proofs.put_seconds.Kinds as seconds-kinds
use Rattle.tlvs.proofs.put_seconds.Reads as seconds
use Rattle.tlvs.proofs.put_tlv.Kinds as tlv-kinds
use Rattle.tlvs.proofs.put_tlv.Reads as tlv
use Rattle.tlvs.proofs.put_string.Kinds as string-kinds
use Rattle.tlvs.proofs.put_string.Reads as string
use Rattle.tlvs.proofs.put_extended.Kinds as extended-kinds
use Rattle.tlvs.proofs.put_extended.Reads as extended
use Rattle.tlvs.proofs.put_flags.Kinds as flags-kinds
use Rattle.tlvs.proofs.put_flags.Reads as flags
use Rattle.tlvs.proofs.put_device.Kinds as device-kinds
use Rattle.tlvs.proofs.put_device.Reads as device
use Rattle.tlvs.proofs.put_table.Kinds as table-kinds
use Rattle.tlvs.proofs.put_table.Reads as table
use Rattle.tlvs.proofs.put_listed.Kinds as listed-kinds
use Rattle.tlvs.proofs.put_listed.Reads as listed

pub put-head-sole : SolePut 2 head-kinds.ps head-kinds.r head.Post (λ κs x. x.0.now)
put-head-sole κs a r q x y = same-put

pub put-id-sole : SolePut 3 id-kinds.ps id-kinds.r id.Post (λ κs x. x.0.now)
put-id-sole κs a r q x y = same-put

pub put-seconds-sole : SolePut 2 seconds-kinds.ps seconds-kinds.r seconds.Post (λ κs x. x.0.now)
put-seconds-sole κs a r q x y = same-put

pub put-tlv-sole : SolePut 3 tlv-kinds.ps tlv-kinds.r tlv.Post (λ κs x. x.0.now)
put-tlv-sole κs a r q x y = same-put

pub put-string-sole : SolePut 3 string-kinds.ps string-kinds.r string.Post (λ κs x. x.0.now)
put-string-sole κs a r q x y = same-put

pub put-flags-sole : SolePut 2 flags-kinds.ps flags-kinds.r flags.Post (λ κs x. x.0.now)
put-flags-sole κs a r q x y = same-put

pub put-device-sole : SolePut 3 device-kinds.ps device-kinds.r device.Post (λ κs x. x.0.now)
put-device-sole κs a r q x y = same-put

pub put-table-sole : SolePut 5 table-kinds.ps table-kinds.r table.Post (λ κs x. x.0.now)
put-table-sole κs a r q x y = same-put

pub put-extended-sole : SolePut 3 extended-kinds.ps extended-kinds.r extended.Post (λ κs x. x.0.now)
put-extended-sole κs a r q x y = same-put

pub put-listed-sole : SolePut 3 listed-kinds.ps listed-kinds.r listed.Post (λ κs x. x.0.now)
put-listed-sole κs a r q x y = same-put
