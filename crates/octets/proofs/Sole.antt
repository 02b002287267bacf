-- For each public function on octets: two answers that its contract allows are one.
-- The contracts are the toolchain's own reading of the source (`Post` of each function's `Reads`).
use mathlib.Core.Path.{sym, ◌∙◌}
use Rattle.tally.proofs.Sole.{Sole}
use Rattle.octets.proofs.kind_of.Kinds as kind-of-kinds
use Rattle.octets.proofs.kind_of.Reads as kind-of
use Rattle.octets.proofs.len_of.Kinds as len-of-kinds
use Rattle.octets.proofs.len_of.Reads as len_of_lem
use Rattle.octets.proofs.high_of.Kinds as high-of-kinds
use Rattle.octets.proofs.high_of.Reads as high-of
use Rattle.octets.proofs.low_of.Kinds as low-of-kinds
use Rattle.octets.proofs.low_of.Reads as low_of
use Rattle.octets.proofs.octet.Kinds as octet-kinds
use Rattle.octets.proofs.octet.Reads as octet
use Rattle.octets.proofs.pair.Kinds as pair-kinds
use Rattle.octets.proofs.pair.Reads as pair
use Rattle.octets.proofs.value_of.Kinds as value-of-kinds
use Rattle.octets.proofs.value_of.Reads as value_of_lem
use Rattle.octets.proofs.six.Kinds as six-kinds
use Rattle.octets.proofs.six.Reads as six
use Rattle.octets.proofs.same_six.Kinds as same-six-kinds
use Rattle.octets.proofs.same_six.Reads as same-six
use Rattle.octets.proofs.is_group.Kinds as is-group-kinds
use Rattle.octets.proofs.is_group.Reads as is-group

pub kind-of-sole : Sole 0 kind-of-kinds.ps kind-of-kinds.r kind-of.Post
kind-of-sole κs a r q x y e f = e ∙ sym f

pub len-of-sole : Sole 0 len-of-kinds.ps len-of-kinds.r len_of_lem.Post
len-of-sole κs a r q x y e f = e ∙ sym f

pub high-of-sole : Sole 0 high-of-kinds.ps high-of-kinds.r high-of.Post
high-of-sole κs a r q x y e f = e ∙ sym f

pub low-of-sole : Sole 0 low-of-kinds.ps low-of-kinds.r low_of.Post
low-of-sole κs a r q x y e f = e ∙ sym f

pub octet-sole : Sole 1 octet-kinds.ps octet-kinds.r octet.Post
octet-sole κs a r q x y e f = e ∙ sym f

pub pair-sole : Sole 0 pair-kinds.ps pair-kinds.r pair.Post
pair-sole κs a r q x y e f = e ∙ sym f

pub value-of-sole : Sole 1 value-of-kinds.ps value-of-kinds.r value_of_lem.Post
value-of-sole κs a r q x y e f = e ∙ sym f

pub six-sole : Sole 1 six-kinds.ps six-kinds.r six.Post
six-sole κs a r q x y e f = e ∙ sym f

pub same-six-sole : Sole 0 same-six-kinds.ps same-six-kinds.r same-six.Post
same-six-sole κs a r q x y e f = e ∙ sym f

pub is-group-sole : Sole 0 is-group-kinds.ps is-group-kinds.r is-group.Post
is-group-sole κs a r q x y e f = e ∙ sym f
