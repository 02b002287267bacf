-- For each public function of this crate: two answers that its contract allows are one.
-- The contracts are the toolchain's own reading of the source (`Post` of each `Reads`).
use mathlib.Core.Path.{sym, ◌∙◌}
use Rattle.tally.proofs.Sole.{Sole}
use Rattle.extension.proofs.address_at.Kinds as address-at-kinds
use Rattle.extension.proofs.address_at.Reads as address-at
use Rattle.extension.proofs.counts_of.Kinds as counts-of-kinds
use Rattle.extension.proofs.counts_of.Reads as Counts-of
use Rattle.extension.proofs.extension_fits.Kinds as extension-fits-kinds
use Rattle.extension.proofs.extension_fits.Reads as extension-fits
use Rattle.extension.proofs.extension_names.Kinds as extension-names-kinds
use Rattle.extension.proofs.extension_names.Reads as extension-names
use Rattle.extension.proofs.item_at.Kinds as item-at-kinds
use Rattle.extension.proofs.item_at.Reads as item-at
use Rattle.extension.proofs.pairing_at.Kinds as pairing-at-kinds
use Rattle.extension.proofs.pairing_at.Reads as pairing-at
use Rattle.extension.proofs.port_item_at.Kinds as port-item-at-kinds
use Rattle.extension.proofs.port_item_at.Reads as port-item-at

pub address-at-sole : Sole 1 address-at-kinds.ps address-at-kinds.r address-at.Post
address-at-sole κs a r q x y e f = e.exact ∙ sym f.exact

pub counts-of-sole : Sole 1 counts-of-kinds.ps counts-of-kinds.r Counts-of.Post
counts-of-sole κs a r q x y e f = e.exact ∙ sym f.exact

pub extension-fits-sole : Sole 1 extension-fits-kinds.ps extension-fits-kinds.r extension-fits.Post
extension-fits-sole κs a r q x y e f = e ∙ sym f

pub extension-names-sole : Sole 1 extension-names-kinds.ps extension-names-kinds.r extension-names.Post
extension-names-sole κs a r q x y e f = e ∙ sym f

pub item-at-sole : Sole 1 item-at-kinds.ps item-at-kinds.r item-at.Post
item-at-sole κs a r q x y e f = e.exact ∙ sym f.exact

pub pairing-at-sole : Sole 1 pairing-at-kinds.ps pairing-at-kinds.r pairing-at.Post
pairing-at-sole κs a r q x y e f = e.exact ∙ sym f.exact

pub port-item-at-sole : Sole 1 port-item-at-kinds.ps port-item-at-kinds.r port-item-at.Post
port-item-at-sole κs a r q x y e f = e.exact ∙ sym f.exact
