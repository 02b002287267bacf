-- `exports::calls::tambolune_who_sees` meets its contract: a slice of a wrong length is refused, and else the table that the octets mean is asked.
-- Each return is one law (wrong-gives, sight-gives).
use mathlib.Core.Path.{sym, ap, ap₂, ◌∙◌}
use mathlib.Core.List.{[], ◌∷◌}
use borrow.Author.Tests.{eq-eqb, ne_eqb}
use lib.ListN.{length}
use Rattle.place.specs.State.{state}
use Rattle.fitness.specs.Refusals.{refusal_when_unfit}
use Rattle.refusal.specs.Refusal.{refusal_of}
use Rattle.questions.specs.Sight.{sight}
use Rattle.octet_table.specs.Lent.{lent}
use Rattle.octet_answers.specs.Answers.{back, sight_octets}
use Rattle.exports.specs.Calls.{address_long, state_in, see_right, seeing}
use Rattle.exports.proofs.GivesLaws.{wrong-gives, sight-gives, whole-six, numbered}
use Rattle.exports.proofs.calls.tambolune_who_sees.Goals as goal
use Rattle.exports.proofs.calls.tambolune_who_sees.Goals.{then-not-lengths_fit-via-then-not-lengths_fit, then-not-lengths_fit-via-else-not-lengths_fit+then-address-ne-ADDRESS}

pub returns-then-not-lengths_fit : goal.returns-then-not-lengths_fit
unfolding seeing
returns-then-not-lengths_fit c =
    let a = c.args in
    let x = lent a.ports.now a.seconds.now a.lengths.now a.senders.now in
    let v = sight a.address.now a.start (state_in x a.buffer.now) in
    wrong-gives {right = see_right x a.address.now a.answer.now} _ (back (refusal_of v) (sight_octets v a.answer.now ∷ [])) _
    (elim c.then-not-lengths_fit.branch [
      | then-not-lengths_fit-via-then-not-lengths_fit w ↦ rw (sym c.lengths_fit.ensures ∙ w.if-not-lengths_fit.true)
      | then-not-lengths_fit-via-else-not-lengths_fit+then-address-ne-ADDRESS w ↦
          rw (sym c.lengths_fit.ensures ∙ w.if-not-lengths_fit.false, ne_eqb (length a.address.now) address_long w.if-address-ne-ADDRESS.true)
    ])

pub returns : goal.returns
unfolding seeing
returns c =
    let a = c.args in
    let b = a.buffer.now in
    let w = a.address.now in
    let six = c.six.ensures ∙ whole-six w c.if-address-ne-ADDRESS.false in
    sight-gives (lent a.ports.now a.seconds.now a.lengths.now a.senders.now) b a.answer.now (sym c.lengths_fit.ensures ∙ c.if-not-lengths_fit.false) w a.start _ (eq-eqb (length w) address_long c.if-address-ne-ADDRESS.false)
    (c.who_sees-sight.ensures.exact ∙ ap₂ (λ v y. sight v a.start (state y b)) six c.table_in.ensures)
    (c.who_sees-sight.ensures.refusal ∙ ap (λ y. refusal_when_unfit (state y b)) c.table_in.ensures)
    c.in_numbers.ensures (numbered c.number_in.ensures c.answer_sight.ensures.exact)
