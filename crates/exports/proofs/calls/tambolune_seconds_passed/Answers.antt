-- `exports::calls::tambolune_seconds_passed` meets its contract: a slice of a wrong length is refused, and else the call is made on what the octets mean.
-- More seconds than two octets hold do what the code's count does (capped-passed).
use Prim.Native.Nat.{ℕ}
use borrow.Author.Rules.{rules}
use mathlib.Core.Path.{refl, sym, ap, ap₂, ◌∙◌}
use Rattle.fitness.specs.Refusals.{refusal_when_unfit}
use Rattle.freeing.specs.Calls.{passed}
use mir.Syntax.{w8}
use mir.Val.{Fits}
use lib.ListN.{get_or}
use Rattle.place.specs.State.{state}
use Rattle.table.proofs.RefusalLaws.{passed-unchanged}
use Rattle.octet_table.specs.Lent.{lent}
use Rattle.exports.specs.Calls.{state_in, on_after}
use Rattle.exports.proofs.CappedLaws.{capped-passed, seconds-small}
use Rattle.exports.proofs.GivesLaws.{wrong-changes, after-changes}
use Rattle.exports.proofs.calls.tambolune_seconds_passed.Goals as goal

pub returns-then-not-lengths_fit : goal.returns-then-not-lengths_fit
returns-then-not-lengths_fit c =
    let a = c.args in
    wrong-changes _ (on_after (passed a.gone (state_in (lent a.ports.now a.seconds.now a.lengths.now a.senders.now) a.buffer.now))) _ (sym c.lengths_fit.ensures ∙ c.if-not-lengths_fit.true) _ _

pub returns : goal.returns
returns c =
    let a = c.args in
    let x = lent a.ports.now a.seconds.now a.lengths.now a.senders.now in
    let b = a.buffer.now in
    let f : (i : ℕ) → Fits w8 (get_or a.seconds.now i 0) = λ i. search rules in
    let g : (i : ℕ) → Fits w8 (get_or a.lengths.now i 0) = λ i. search rules in
    after-changes x _ b _ _ (sym c.lengths_fit.ensures ∙ c.if-not-lengths_fit.false) f g c.put_table.ensures (passed a.gone) (passed-unchanged (state_in x b) a.gone) _ c.seconds_passed-r.result refl
    (c.seconds_passed-r.ensures.exact
    ∙ ap₂ (λ n y. passed n (state y b)) c.capped.ensures c.table_in.ensures
    ∙ capped-passed a.gone (state_in x b) (seconds-small x f))
    (c.seconds_passed-r.ensures.refusal ∙ ap (λ y. refusal_when_unfit (state y b)) c.table_in.ensures)
    c.refusal_of.ensures
