-- `input::record::number_at` meets its contract: the number so far, with the octets that are left, is the whole.
-- One octet more is counted-more of StoredLaws.
use Rattle.std.proofs.Common.{◌≡◌}
use Rattle.std.specs.Prelude.{drop}
use Rattle.input.specs.Stored.{counted_on}
use Rattle.input.proofs.record.number_at.Given as goal

abbrev pub invariant-loop-octet : goal.invariant-loop-octet
invariant-loop-octet l = counted_on l.number (drop l.octet-index l.own) ≡ counted_on 0 l.own
