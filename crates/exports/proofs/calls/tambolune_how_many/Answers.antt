-- `exports::calls::tambolune_how_many` meets its contract: a slice of a wrong length is refused, and else the table that the octets mean is asked.
-- Each return is one law (wrong-gives, count_gives).
use mathlib.Core.Path.{sym, ap, ◌∙◌}
use mathlib.Core.List.{[], ◌∷◌}
use Rattle.place.specs.State.{state}
use Rattle.fitness.specs.Refusals.{refusal_on_port}
use Rattle.refusal.specs.Refusal.{refusal_of}
use Rattle.questions.specs.Sight.{counted}
use Rattle.octet_table.specs.Lent.{lent}
use Rattle.octet_answers.specs.Answers.{back, count_octets}
use Rattle.exports.specs.Calls.{state_in, count_right, counting}
use Rattle.exports.proofs.GivesLaws.{wrong-gives, count_gives, numbered}
use Rattle.exports.proofs.calls.tambolune_how_many.Goals as goal

pub returns-then-not-lengths_fit : goal.returns-then-not-lengths_fit
unfolding counting
returns-then-not-lengths_fit c =
    let a = c.args in
    let x = lent a.ports.now a.seconds.now a.lengths.now a.senders.now in
    let n = counted a.port (state_in x a.buffer.now) in
    wrong-gives {right = count_right x a.answer.now} _ (back (refusal_of n) (count_octets n a.answer.now ∷ [])) _ (rw (sym c.lengths_fit.ensures ∙ c.if-not-lengths_fit.true))

pub returns : goal.returns
unfolding counting
returns c =
    let a = c.args in
    let b = a.buffer.now in
    count_gives (lent a.ports.now a.seconds.now a.lengths.now a.senders.now) b a.answer.now (sym c.lengths_fit.ensures ∙ c.if-not-lengths_fit.false) a.port _
    (c.how_many-count.ensures.exact ∙ ap (λ y. counted a.port (state y b)) c.table_in.ensures)
    (c.how_many-count.ensures.refusal ∙ ap (λ y. refusal_on_port a.port (state y b)) c.table_in.ensures)
    c.in_numbers.ensures (numbered c.number_in.ensures c.answer_count.ensures.exact)
