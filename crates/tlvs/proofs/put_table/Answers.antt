-- `tlvs::put_table` meets its contract: nothing, or a header, then three counts with their octets.
-- Three tests decide; what is left has counts that are octets, so their sum is small.
use mathlib.Core.Path.{◌∙◌}
use borrow.Author.Tests.{lt-leb}
use Rattle.output.proofs.OutputLaws.{put_none, put_then, put_same}
use Rattle.tlvs.specs.Tlvs.{link_info}
use Rattle.tlvs.proofs.TlvLaws.{link-written, link-left-out, link-countable}
use Rattle.tlvs.proofs.put_table.Goals as goal
use Rattle.tlvs.proofs.put_table.Goals.{then-n-gt-MOST-via-then-n-gt-MOST, then-n-gt-MOST-via-else-n-gt-MOST+then-m-gt-MOST, then-n-gt-MOST-via-else-n-gt-MOST+else-m-gt-MOST+then-k-gt-MOST}

pub returns-then-n-gt-MOST : goal.returns-then-n-gt-MOST
returns-then-n-gt-MOST c =
    let a = c.args in
    let l = link_info a.interface.now a.port.now a.addresses.now in
    elim c.then-n-gt-MOST.branch [
      | then-n-gt-MOST-via-then-n-gt-MOST w ↦ put_same (put_none c.args.out.now) (link-left-out l 0 (lt-leb _ 255 w.if-n-gt-MOST.true))
      | then-n-gt-MOST-via-else-n-gt-MOST+then-m-gt-MOST w ↦ put_same (put_none c.args.out.now) (link-left-out l 1 (lt-leb _ 255 w.if-m-gt-MOST.true))
      | then-n-gt-MOST-via-else-n-gt-MOST+else-m-gt-MOST+then-k-gt-MOST w ↦ put_same (put_none c.args.out.now) (link-left-out l 2 (lt-leb _ 255 w.if-k-gt-MOST.true))
    ]

pub returns : goal.returns
returns c =
    let a = c.args in
    let l = link_info a.interface.now a.port.now a.addresses.now in
    put_same
    (put_then _ _ c.put_ttc.ensures (put_then _ _ c.put_counted.ensures (put_then _ _ c.put_counted-2.ensures c.put_counted-3.ensures)))
    (link-written l ∙ link-countable l c.if-n-gt-MOST.false c.if-m-gt-MOST.false c.if-k-gt-MOST.false)
