-- `tlvs::put_device` meets its contract: nothing, or header, ID, s and string.
-- Two tests decide; what is left has at most 255 octets, so s is an octet.
use Prim.Native.Nat.{◌+◌}
use Rattle.std.proofs.Common.{◌∷◌, []}
use mathlib.Core.Path.{refl, ◌∙◌}
use native.Mathlib.Omega.{arith}
use lib.ListN.{length}
use Rattle.output.proofs.OutputLaws.{put_none, put_then, put_same}
use Rattle.tlvs.specs.Tlvs.{device_tlv}
use Rattle.tlvs.proofs.TlvLaws.{ttc_head, none-octets, some-octets, device-written, countable-is, countable-none}
use Rattle.tlvs.proofs.put_device.Goals as goal
use Rattle.tlvs.proofs.put_device.Goals.{then-n-eq0-via-then-n-eq0, then-n-eq0-via-else-n-eq0+then-n-gt-MOST}

pub returns-then-n-eq0 : goal.returns-then-n-eq0
returns-then-n-eq0 c =
    elim c.then-n-eq0.branch [
      | then-n-eq0-via-then-n-eq0 w ↦ put_same (put_none c.args.out.now) (none-octets (device_tlv c.args.id) (countable-is c.text_of-string.ensures (omega (arith, w.if-n-eq0.true))) w.if-n-eq0.true)
      | then-n-eq0-via-else-n-eq0+then-n-gt-MOST w ↦ put_same (put_none c.args.out.now) (none-octets (device_tlv c.args.id) (countable-none c.text_of-string.ensures w.if-n-gt-MOST.true) refl)
    ]

pub returns : goal.returns
returns c =
    let id = c.args.id in
    let string = c.text_of-string in
    put_same
    (put_then (ttc_head 1 (6 + length string.result.now)) _ c.put_ttc.ensures (put_then (_ ∷ []) _ c.put_octet.ensures c.put_counted.ensures))
    (device-written id string.result.now ∙ some-octets (device_tlv id) (countable-is string.ensures c.if-n-gt-MOST.false) c.if-n-eq0.false)
