-- `exports::calls::tambolune_frame_on_port` meets its contract: a slice of a wrong length is refused, and else the call is made on what the octets mean.
-- Each return is one law (wrong-changes, frame-changes).
use Prim.Native.Nat.{ℕ}
use borrow.Author.Rules.{rules}
use mathlib.Core.Path.{refl, sym, ap, ◌∙◌}
use borrow.Author.Tests.{ne_eqb}
use lib.ListN.{length, get_or}
use mir.Syntax.{w8}
use mir.Val.{Fits}
use Rattle.place.specs.State.{state}
use Rattle.hearing.specs.Frame.{heard, refusal_on_frame}
use Rattle.table.proofs.RefusalLaws.{heard-unchanged}
use Rattle.octet_table.specs.Lent.{lent}
use Rattle.octet_answers.specs.Answers.{reply_long}
use Rattle.exports.specs.Calls.{state_in, on_told, framing}
use Rattle.exports.proofs.GivesLaws.{wrong-changes, frame-changes, numbered}
use Rattle.exports.proofs.calls.tambolune_frame_on_port.Goals as goal

pub returns-then-not-lengths_fit : goal.returns-then-not-lengths_fit
unfolding framing
returns-then-not-lengths_fit c =
    let a = c.args in
    let x = lent a.ports.now a.seconds.now a.lengths.now a.senders.now in
    wrong-changes _ (on_told (heard a.port a.frame.now (state_in x a.buffer.now)) a.answer.now) _ (rw (sym c.lengths_fit.ensures ∙ c.if-not-lengths_fit.true)) _ _

pub returns-then-answer-ne-REPLY : goal.returns-then-answer-ne-REPLY
unfolding framing
returns-then-answer-ne-REPLY c =
    let a = c.args in
    let x = lent a.ports.now a.seconds.now a.lengths.now a.senders.now in
    wrong-changes _ (on_told (heard a.port a.frame.now (state_in x a.buffer.now)) a.answer.now) _
    (rw (sym c.lengths_fit.ensures ∙ c.if-not-lengths_fit.false, ne_eqb (length a.answer.now) reply_long c.if-answer-ne-REPLY.true)) _ _

pub returns : goal.returns
unfolding framing
returns c =
    let a = c.args in
    let x = lent a.ports.now a.seconds.now a.lengths.now a.senders.now in
    let b = a.buffer.now in
    let h = a.frame.now in
    let f : (i : ℕ) → Fits w8 (get_or a.seconds.now i 0) = λ i. search rules in
    let g : (i : ℕ) → Fits w8 (get_or a.lengths.now i 0) = λ i. search rules in
    frame-changes x _ b _ _ (sym c.lengths_fit.ensures ∙ c.if-not-lengths_fit.false) f g c.put_table.ensures a.port h (heard-unchanged (state_in x b) a.port h) a.answer.now _ _
    c.frame_on_port-r.result refl c.if-answer-ne-REPLY.false
    (c.frame_on_port-r.ensures.exact ∙ ap (λ y. heard a.port h (state y b)) c.table_in.ensures)
    (c.frame_on_port-r.ensures.refusal ∙ ap (λ y. refusal_on_frame a.port h (state y b)) c.table_in.ensures)
    c.in_numbers.ensures (numbered c.number_in.ensures c.answer_reply.ensures.exact)
