-- `announcement::put_management` meets its contract: as many addresses are put as the loop has met.
-- One more is management-more, all of them management-all of PutLaws.
use mathlib.Core.List.{List, map}
use mathlib.Core.Path.{◌≡◌, ap, ◌∙◌}
use lib.ListN.{take}
use Rattle.std.proofs.Common.{arith}
use Rattle.output.proofs.OutputLaws.{put_none, put_then, put_same}
use Rattle.text.specs.Part.{text_of, parts_in}
use Rattle.text.specs.declared.Part.{Part}
use Rattle.system.proofs.ChainLaws.{take-front}
use Rattle.tlvs.specs.Tlvs.{octets_of, management_tlv}
use Rattle.announcement.proofs.PutLaws.{management-none, management-more, management-all}
use Rattle.announcement.proofs.put_management.Goals as goal

pub loop-p-init : goal.loop-p-init
loop-p-init c = put_same (put_none c.args.out.now) (management-none c.args.text.now (take c.part_count.result c.args.l.parts))

pub loop-p-preserved : goal.loop-p-preserved
loop-p-preserved c =
    let a = c.args in
    put_same (put_then _ _ c.loop-p.invariant c.put_tlv.ensures)
    (management-more a.text.now (take c.part_count.result a.l.parts) c.loop-p.p-index (omega arith) c.text_of.ensures)

pub returns : goal.returns
returns c =
    let a = c.args in
    let ps : take c.part_count.result a.l.parts ≡ parts_in a.l = ap (λ n. take n a.l.parts) c.part_count.ensures ∙ take-front a.l.count a.l.parts in
    put_same c.loop-p.invariant
    (management-all a.text.now (take c.part_count.result a.l.parts) c.loop-p.p-index (omega arith) ∙ ap (λ (l : List Part). octets_of (map management_tlv (map (text_of a.text.now) l))) ps)
