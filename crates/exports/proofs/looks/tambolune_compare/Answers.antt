-- `exports::looks::tambolune_compare` meets its contract: a slice of a wrong length is refused, and else the two tables that the octets mean are compared.
-- Each return is one law (wrong-gives, compare-gives).
use mathlib.Core.Path.{sym, ◌∙◌}
use borrow.Author.Tests.{ne_eqb}
use lib.ListN.{length}
use Rattle.octet_table.specs.Lent.{lent}
use Rattle.octet_answers.specs.Answers.{compared_long}
use Rattle.exports.specs.Calls.{compare_right, comparing}
use Rattle.exports.proofs.GivesLaws.{wrong-gives, numbered}
use Rattle.exports.proofs.LooksLaws.{compare-gives}
use Rattle.exports.proofs.looks.tambolune_compare.Goals as goal

pub returns-then-not-lengths_fit : goal.returns-then-not-lengths_fit
unfolding comparing
returns-then-not-lengths_fit c =
    let a = c.args in
    let x = lent a.ports.now a.seconds.now a.lengths.now a.senders.now in
    let y = lent a.ports2.now a.seconds2.now a.lengths2.now a.senders2.now in
    wrong-gives {right = compare_right x y a.answer.now} _ _ _ (rw (sym c.lengths_fit.ensures ∙ c.if-not-lengths_fit.true))

pub returns-then-not-lengths_fit-2 : goal.returns-then-not-lengths_fit-2
unfolding comparing
returns-then-not-lengths_fit-2 c =
    let a = c.args in
    let x = lent a.ports.now a.seconds.now a.lengths.now a.senders.now in
    let y = lent a.ports2.now a.seconds2.now a.lengths2.now a.senders2.now in
    wrong-gives {right = compare_right x y a.answer.now} _ _ _
    (rw (sym c.lengths_fit.ensures ∙ c.if-not-lengths_fit.false, sym c.lengths_fit-2.ensures ∙ c.if-not-lengths_fit-2.true))

pub returns-then-answer-ne-COMPARED : goal.returns-then-answer-ne-COMPARED
unfolding comparing
returns-then-answer-ne-COMPARED c =
    let a = c.args in
    let x = lent a.ports.now a.seconds.now a.lengths.now a.senders.now in
    let y = lent a.ports2.now a.seconds2.now a.lengths2.now a.senders2.now in
    wrong-gives {right = compare_right x y a.answer.now} _ _ _
    (rw (
      sym c.lengths_fit.ensures ∙ c.if-not-lengths_fit.false,
      sym c.lengths_fit-2.ensures ∙ c.if-not-lengths_fit-2.false,
      ne_eqb (length a.answer.now) compared_long c.if-answer-ne-COMPARED.true,
    ))

pub returns : goal.returns
returns c =
    let a = c.args in
    let x = lent a.ports.now a.seconds.now a.lengths.now a.senders.now in
    let y = lent a.ports2.now a.seconds2.now a.lengths2.now a.senders2.now in
    compare-gives x y a.buffer.now a.buffer2.now a.list.now a.answer.now
    (sym c.lengths_fit.ensures ∙ c.if-not-lengths_fit.false)
    (sym c.lengths_fit-2.ensures ∙ c.if-not-lengths_fit-2.false)
    c.if-answer-ne-COMPARED.false
    c.table_in-first.ensures c.table_in-second.ensures c.compare-entries.ensures c.in_numbers.ensures (numbered c.number_in.ensures c.answer_compared.ensures.exact)
