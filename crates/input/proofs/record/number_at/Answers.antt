-- `input::record::number_at` meets its contract: the number so far, with the octets that are left, is the whole.
-- One octet more is counted-more, the end is counted-all of StoredLaws.
use Rattle.std.proofs.Common.{refl, ◌∙◌, ap}
use Rattle.input.specs.Stored.{counted_on}
use Rattle.input.proofs.StoredLaws.{counted-more, counted-all}
use Rattle.input.proofs.record.number_at.Goals as goal

pub loop-octet-init : goal.loop-octet-init
loop-octet-init c = refl

pub loop-octet-preserved : goal.loop-octet-preserved
loop-octet-preserved c = counted-more c.split_behind.result.0.now c.loop-octet.number c.loop-octet.octet-index c.loop-octet-test.true ∙ c.loop-octet.invariant

pub returns : goal.returns
returns c =
    counted-all c.split_behind.result.0.now c.loop-octet.number c.loop-octet.octet-index c.loop-octet-test.false
    ∙ c.loop-octet.invariant
    ∙ ap (counted_on 0) c.split_behind.ensures.own
