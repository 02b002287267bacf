-- `exports::calls::tambolune_link_lost` meets its contract: a slice of a wrong length is refused, and else the call is made on what the octets mean.
-- Both returns are one law (wrong-changes, after-changes).
use Prim.Native.Nat.{ℕ}
use borrow.Author.Rules.{rules}
use mathlib.Core.Path.{refl, sym, ap, ◌∙◌}
use Rattle.fitness.specs.Refusals.{refusal_on_port}
use Rattle.freeing.specs.Calls.{link_lost}
use mir.Syntax.{w8}
use mir.Val.{Fits}
use lib.ListN.{get_or}
use Rattle.place.specs.State.{state}
use Rattle.table.proofs.RefusalLaws.{lost-unchanged}
use Rattle.octet_table.specs.Lent.{lent}
use Rattle.exports.specs.Calls.{state_in, on_after}
use Rattle.exports.proofs.GivesLaws.{wrong-changes, after-changes}
use Rattle.exports.proofs.calls.tambolune_link_lost.Goals as goal

pub returns-then-not-lengths_fit : goal.returns-then-not-lengths_fit
returns-then-not-lengths_fit c =
    let a = c.args in
    wrong-changes _ (on_after (link_lost a.port (state_in (lent a.ports.now a.seconds.now a.lengths.now a.senders.now) a.buffer.now))) _ (sym c.lengths_fit.ensures ∙ c.if-not-lengths_fit.true) _ _

pub returns : goal.returns
returns c =
    let a = c.args in
    let x = lent a.ports.now a.seconds.now a.lengths.now a.senders.now in
    let b = a.buffer.now in
    let f : (i : ℕ) → Fits w8 (get_or a.seconds.now i 0) = λ i. search rules in
    let g : (i : ℕ) → Fits w8 (get_or a.lengths.now i 0) = λ i. search rules in
    after-changes x _ b _ _ (sym c.lengths_fit.ensures ∙ c.if-not-lengths_fit.false) f g c.put_table.ensures (link_lost a.port) (lost-unchanged (state_in x b) a.port) _ c.link_lost-r.result refl
    (c.link_lost-r.ensures.exact ∙ ap (λ y. link_lost a.port (state y b)) c.table_in.ensures)
    (c.link_lost-r.ensures.refusal ∙ ap (λ y. refusal_on_port a.port (state y b)) c.table_in.ensures)
    c.refusal_of.ensures
