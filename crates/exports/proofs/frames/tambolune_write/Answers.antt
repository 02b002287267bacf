-- `exports::frames::tambolune_write` meets its contract: a slice of a wrong length, a presence, and what the writer says of the description that the octets mean.
-- Each return is one law (wrong-gives, presence-gives, written-gives).
use mathlib.Core.Path.{sym, ◌∙◌}
use borrow.Author.Tests.{eq-eqb, ne_eqb}
use lib.ListN.{length}
use Rattle.tally.proofs.TestsLaws.{both_hold}
use Rattle.octet_description.specs.Octets.{size}
use Rattle.octet_answers.specs.Answers.{written_long}
use Rattle.exports.specs.Calls.{write_right, writing}
use Rattle.exports.proofs.GivesLaws.{wrong-gives, presence-gives, written-gives, numbered}
use Rattle.exports.proofs.frames.tambolune_write.Goals as goal
use Rattle.exports.proofs.frames.tambolune_write.Goals.{then-description-ne-SIZE-via-then-description-ne-SIZE, then-description-ne-SIZE-via-else-description-ne-SIZE+then-answer-ne-WRITTEN}

pub returns-then-description-ne-SIZE : goal.returns-then-description-ne-SIZE
unfolding writing
returns-then-description-ne-SIZE c =
    let a = c.args in
    wrong-gives {right = write_right a.description.now a.answer.now} _ _ _
    (elim c.then-description-ne-SIZE.branch [
      | then-description-ne-SIZE-via-then-description-ne-SIZE w ↦ rw (ne_eqb (length a.description.now) size w.if-description-ne-SIZE.true)
      | then-description-ne-SIZE-via-else-description-ne-SIZE+then-answer-ne-WRITTEN w ↦
          rw (
            eq-eqb (length a.description.now) size w.if-description-ne-SIZE.false,
            ne_eqb (length a.answer.now) written_long w.if-answer-ne-WRITTEN.true,
          )
    ])

pub returns-then-not-presences_fit : goal.returns-then-not-presences_fit
returns-then-not-presences_fit c =
    let a = c.args in
    presence-gives a.description.now a.text.now a.output.now a.answer.now
    (both_hold (eq-eqb _ _ c.if-description-ne-SIZE.false) (eq-eqb _ _ c.if-answer-ne-WRITTEN.false))
    (sym c.presences_fit.ensures ∙ c.if-not-presences_fit.true)

pub returns : goal.returns
returns c =
    let a = c.args in
    written-gives a.description.now a.text.now a.output.now a.answer.now _ _ c.if-answer-ne-WRITTEN.false
    (both_hold (eq-eqb _ _ c.if-description-ne-SIZE.false) (eq-eqb _ _ c.if-answer-ne-WRITTEN.false))
    (sym c.presences_fit.ensures ∙ c.if-not-presences_fit.false)
    c.description_in.ensures c.write-written.ensures c.in_numbers.ensures (numbered c.number_in.ensures c.answer_written.ensures.exact)
