-- `exports::frames::tambolune_read_lldpdu` meets its contract: what the reader says of the octets that are looked at, as octets.
-- The law is read-gives.
use Prim.Native.Nat.{ℕ}
use mathlib.Core.Path.{ap, ◌∙◌}
use mathlib.Core.List.{List}
use Rattle.refusal.specs.Refusal.{refusal_of}
use Rattle.lldpdu.specs.Extent.{extent_of}
use Rattle.reading.specs.Reading.{reading_of}
use Rattle.exports.proofs.GivesLaws.{lldpdu-due, read-gives, numbered}
use Rattle.exports.proofs.frames.tambolune_read_lldpdu.Goals as goal

pub returns : goal.returns
returns c =
    let a = c.args in
    read-gives _ _ (c.read_lldpdu.ensures.exact ∙ ap reading_of c.text_of-front.ensures) c.in_numbers.ensures _
    (lldpdu-due _ c.read_lldpdu.ensures ∙ ap (λ (s : List ℕ). refusal_of (extent_of s)) c.text_of-front.ensures)
    a.answer.now a.description.now (numbered c.number_in.ensures c.answer_reading.ensures.exact)
