-- For each size: two numbers that its contract allows are one.
-- The contracts are the toolchain's own reading of the source (`Post` of each function's `Reads`).
use mathlib.Core.Path.{sym, ◌∙◌}
use Rattle.tally.proofs.Sole.{Sole}
use Rattle.exports.proofs.sizes.tambolune_size_ports.Kinds as ports-kinds
use Rattle.exports.proofs.sizes.tambolune_size_ports.Reads as ports
use Rattle.exports.proofs.sizes.tambolune_size_places.Kinds as places-kinds
use Rattle.exports.proofs.sizes.tambolune_size_places.Reads as places
use Rattle.exports.proofs.sizes.tambolune_size_place.Kinds as place-kinds
use Rattle.exports.proofs.sizes.tambolune_size_place.Reads as place
use Rattle.exports.proofs.sizes.tambolune_size_buffer.Kinds as buffer-kinds
use Rattle.exports.proofs.sizes.tambolune_size_buffer.Reads as buffer
use Rattle.exports.proofs.sizes.tambolune_size_numbers.Kinds as numbers-kinds
use Rattle.exports.proofs.sizes.tambolune_size_numbers.Reads as numbers
use Rattle.exports.proofs.sizes.tambolune_size_senders.Kinds as senders-kinds
use Rattle.exports.proofs.sizes.tambolune_size_senders.Reads as senders
use Rattle.exports.proofs.sizes.tambolune_size_address.Kinds as address-kinds
use Rattle.exports.proofs.sizes.tambolune_size_address.Reads as address
use Rattle.exports.proofs.sizes.tambolune_size_description.Kinds as description-kinds
use Rattle.exports.proofs.sizes.tambolune_size_description.Reads as description
use Rattle.exports.proofs.sizes.tambolune_size_judged.Kinds as judged-kinds
use Rattle.exports.proofs.sizes.tambolune_size_judged.Reads as judged
use Rattle.exports.proofs.sizes.tambolune_size_verdict.Kinds as verdict-kinds
use Rattle.exports.proofs.sizes.tambolune_size_verdict.Reads as verdict
use Rattle.exports.proofs.sizes.tambolune_size_written.Kinds as written-kinds
use Rattle.exports.proofs.sizes.tambolune_size_written.Reads as written
use Rattle.exports.proofs.sizes.tambolune_size_reply.Kinds as reply-kinds
use Rattle.exports.proofs.sizes.tambolune_size_reply.Reads as reply
use Rattle.exports.proofs.sizes.tambolune_size_count.Kinds as count-kinds
use Rattle.exports.proofs.sizes.tambolune_size_count.Reads as count
use Rattle.exports.proofs.sizes.tambolune_size_sight.Kinds as sight-kinds
use Rattle.exports.proofs.sizes.tambolune_size_sight.Reads as sight
use Rattle.exports.proofs.sizes.tambolune_size_compared.Kinds as compared-kinds
use Rattle.exports.proofs.sizes.tambolune_size_compared.Reads as compared
use Rattle.exports.proofs.sizes.tambolune_size_entry.Kinds as entry-kinds
use Rattle.exports.proofs.sizes.tambolune_size_entry.Reads as entry
use Rattle.exports.proofs.sizes.tambolune_size_header.Kinds as header-kinds
use Rattle.exports.proofs.sizes.tambolune_size_header.Reads as header

pub size-ports-sole : Sole 0 ports-kinds.ps ports-kinds.r ports.Post
size-ports-sole κs a r q x y e f = e ∙ sym f

pub size-places-sole : Sole 0 places-kinds.ps places-kinds.r places.Post
size-places-sole κs a r q x y e f = e ∙ sym f

pub size-place-sole : Sole 0 place-kinds.ps place-kinds.r place.Post
size-place-sole κs a r q x y e f = e ∙ sym f

pub size-buffer-sole : Sole 0 buffer-kinds.ps buffer-kinds.r buffer.Post
size-buffer-sole κs a r q x y e f = e ∙ sym f

pub size-numbers-sole : Sole 0 numbers-kinds.ps numbers-kinds.r numbers.Post
size-numbers-sole κs a r q x y e f = e ∙ sym f

pub size-senders-sole : Sole 0 senders-kinds.ps senders-kinds.r senders.Post
size-senders-sole κs a r q x y e f = e ∙ sym f

pub size-address-sole : Sole 0 address-kinds.ps address-kinds.r address.Post
size-address-sole κs a r q x y e f = e ∙ sym f

pub size-description-sole : Sole 0 description-kinds.ps description-kinds.r description.Post
size-description-sole κs a r q x y e f = e ∙ sym f

pub size-judged-sole : Sole 0 judged-kinds.ps judged-kinds.r judged.Post
size-judged-sole κs a r q x y e f = e ∙ sym f

pub size-verdict-sole : Sole 0 verdict-kinds.ps verdict-kinds.r verdict.Post
size-verdict-sole κs a r q x y e f = e ∙ sym f

pub size-written-sole : Sole 0 written-kinds.ps written-kinds.r written.Post
size-written-sole κs a r q x y e f = e ∙ sym f

pub size-reply-sole : Sole 0 reply-kinds.ps reply-kinds.r reply.Post
size-reply-sole κs a r q x y e f = e ∙ sym f

pub size-count-sole : Sole 0 count-kinds.ps count-kinds.r count.Post
size-count-sole κs a r q x y e f = e ∙ sym f

pub size-sight-sole : Sole 0 sight-kinds.ps sight-kinds.r sight.Post
size-sight-sole κs a r q x y e f = e ∙ sym f

pub size-compared-sole : Sole 0 compared-kinds.ps compared-kinds.r compared.Post
size-compared-sole κs a r q x y e f = e ∙ sym f

pub size-entry-sole : Sole 0 entry-kinds.ps entry-kinds.r entry.Post
size-entry-sole κs a r q x y e f = e ∙ sym f

pub size-header-sole : Sole 0 header-kinds.ps header-kinds.r header.Post
size-header-sole κs a r q x y e f = e ∙ sym f
