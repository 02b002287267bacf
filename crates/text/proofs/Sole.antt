-- Two answers that a contract of this crate allows are one; of a part that is handed back, their octets are.
-- The contracts are the toolchain's own reading of the source (`Post` of each `Reads`).
use borrow.Fn.Kinds.{Dens, res_t, ended_of}
use contract.Lifetimes.{Lfts}
use denote.Triple.Clauses.{AtExit}
use mathlib.Core.Path.{◌≡◌, sym, ◌∙◌}
use Rattle.tally.proofs.Sole.{Sole}
use Rattle.text.proofs.text_of.Kinds as text-of-kinds
use Rattle.text.proofs.text_of.Reads as text_of
use Rattle.text.proofs.empty_parts.Kinds as empty-parts-kinds
use Rattle.text.proofs.empty_parts.Reads as empty-parts
use Rattle.text.proofs.with_part.Kinds as with-part-kinds
use Rattle.text.proofs.with_part.Reads as with_part
use Rattle.text.proofs.part_count.Kinds as part-count-kinds
use Rattle.text.proofs.part_count.Reads as part_count
use Rattle.text.proofs.nth_part.Kinds as nth-part-kinds
use Rattle.text.proofs.nth_part.Reads as nth-part

-- of a part that is handed back, the octets; where they lie in the caller's slice is the borrow checker's to say
pub text-of-sole : (κs : Lfts 1) (a : Dens κs text-of-kinds.ps) (r q : (res_t text-of-kinds.r κs).Denot) (x y : AtExit (ended_of 1 text-of-kinds.ps text-of-kinds.r) κs)
    → text_of.Post κs a r x → text_of.Post κs a q y → r.now ≡ q.now
text-of-sole κs a r q x y e f = e ∙ sym f

pub empty-parts-sole : Sole 0 empty-parts-kinds.ps empty-parts-kinds.r empty-parts.Post
empty-parts-sole κs a r q x y e f = e ∙ sym f

pub with-part-sole : Sole 0 with-part-kinds.ps with-part-kinds.r with_part.Post
with-part-sole κs a r q x y e f = e ∙ sym f

pub part-count-sole : Sole 0 part-count-kinds.ps part-count-kinds.r part_count.Post
part-count-sole κs a r q x y e f = e ∙ sym f

pub nth-part-sole : Sole 0 nth-part-kinds.ps nth-part-kinds.r nth-part.Post
nth-part-sole κs a r q x y e f = e ∙ sym f
