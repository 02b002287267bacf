-- For each public function on fields: two answers that its contract allows are one.
-- The contracts are the toolchain's own reading of the source (`Post` of each function's `Reads`).
use mathlib.Core.Path.{sym, ◌∙◌}
use Rattle.tally.proofs.Sole.{Sole}
use Rattle.fields.proofs.field_of.Kinds as field-of-kinds
use Rattle.fields.proofs.field_of.Reads as field_of
use Rattle.fields.proofs.is_unread.Kinds as is-unread-kinds
use Rattle.fields.proofs.is_unread.Reads as is-unread
use Rattle.fields.proofs.is_ttc.Kinds as is-ttc-kinds
use Rattle.fields.proofs.is_ttc.Reads as is-ttc
use Rattle.fields.proofs.management_fits.Kinds as management-fits-kinds
use Rattle.fields.proofs.management_fits.Reads as management-fits

pub field-of-sole : Sole 1 field-of-kinds.ps field-of-kinds.r field_of.Post
field-of-sole κs a r q x y e f = e ∙ sym f

pub is-unread-sole : Sole 1 is-unread-kinds.ps is-unread-kinds.r is-unread.Post
is-unread-sole κs a r q x y e f = e ∙ sym f

pub management-fits-sole : Sole 0 management-fits-kinds.ps management-fits-kinds.r management-fits.Post
management-fits-sole κs a r q x y e f = e ∙ sym f

pub is-ttc-sole : Sole 1 is-ttc-kinds.ps is-ttc-kinds.r is-ttc.Post
is-ttc-sole κs a r q x y e f = e ∙ sym f
