-- `tlvs::put_listed` meets its contract: nothing, or a header, then a count with its octets.
-- One test decides; what is left has a count that is an octet.
use mathlib.Core.Path.{◌∙◌}
use Rattle.output.proofs.OutputLaws.{put_none, put_then, put_same}
use Rattle.tlvs.proofs.TlvLaws.{list_written, list-left-out, list-countable}
use Rattle.tlvs.proofs.put_listed.Goals as goal

pub returns-then-k-gt-MOST : goal.returns-then-k-gt-MOST
returns-then-k-gt-MOST c = put_same (put_none c.args.out.now) (list-left-out c.args.addresses.now c.if-k-gt-MOST.true)

pub returns : goal.returns
returns c =
    let addresses = c.args.addresses.now in
    put_same (put_then _ _ c.put_ttc.ensures c.put_counted.ensures) (list_written addresses ∙ list-countable addresses c.if-k-gt-MOST.false)
