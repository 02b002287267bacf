-- `tlvs::put_string` meets its contract: nothing, or header and string.
-- One test decides.
use mathlib.Core.Path.{sym, ◌∙◌}
use borrow.Author.Tests.{eqb-true, eqb-false}
use Rattle.output.proofs.OutputLaws.{put_none, put_same}
use Rattle.tlvs.specs.Tlvs.{tlv}
use Rattle.tlvs.proofs.TlvLaws.{none-octets, some-octets}
use Rattle.tlvs.proofs.put_string.Goals as goal

pub returns-then-is_empty : goal.returns-then-is_empty
returns-then-is_empty c = put_same (put_none c.args.out.now) (none-octets (tlv _) c.text_of-string.ensures (eqb-true _ 0 (sym c.is_empty.ensures ∙ c.if-is_empty.true)))

pub returns : goal.returns
returns c =
    put_same c.put_tlv.ensures (some-octets (tlv _) c.text_of-string.ensures (eqb-false _ 0 (sym c.is_empty.ensures ∙ c.if-is_empty.false)))
