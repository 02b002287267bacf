-- `digest::digest_of` meets its contract: ports, seconds, lengths, senders and buffer are mixed one behind the other.
-- The law is digest-is of FoldLaws.
use Rattle.digest.proofs.FoldLaws.{digest-is}
use Rattle.digest.proofs.digest_of.Goals as goal

pub returns : goal.returns
returns c =
    digest-is _ _ c.mixed_octets-ports.ensures c.mixed_numbers.ensures c.mixed_numbers-numbers.ensures c.mixed_senders-senders.ensures c.mixed_octets.ensures
