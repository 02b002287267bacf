-- `octets::six` meets its contract: six total reads, or six zeros past the end.
-- The second case is six-past of AddressLaws.
use mathlib.Core.Path.{refl, sym}
use Rattle.octets.specs.Address.{six_at}
use Rattle.octets.proofs.AddressLaws.{six-past}
use Rattle.octets.proofs.six.Goals as goal

pub returns-then-s-at : goal.returns-then-s-at
returns-then-s-at c = sym (six-past c.args.s.now c.args.at c.if-s-at.true)

pub returns : goal.returns
unfolding six_at
returns c = rw (c.octet.ensures, c.octet-2.ensures, c.octet-3.ensures, c.octet-4.ensures, c.octet-5.ensures) refl
