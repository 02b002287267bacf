-- `compare::compare` meets its contract: each return is one law (compares-first-unfit, compares-second-unfit, compares-short, compares-listed).
-- 1 is judged before 14 (Q1): behind the first two tests both tables are fit.
use mathlib.Core.Path.{sym, ◌∙◌}
use native.Mathlib.Omega.{arith}
use Rattle.place.specs.State.{state}
use Rattle.compare.proofs.CompareLaws.{compares-first-unfit, compares-second-unfit, compares-short, compares-listed}
use Rattle.compare.proofs.compare.Goals as goal
use Rattle.compare.proofs.compare.Goals.{then-not-is_fit-via-then-not-is_fit, then-not-is_fit-via-else-not-is_fit+then-not-is_fit-2}

pub returns-then-not-is_fit : goal.returns-then-not-is_fit
returns-then-not-is_fit c =
    let a = c.args in
    let s = state a.first a.buffer.now in
    let u = state a.second a.buffer2.now in
    elim c.then-not-is_fit.branch [
      | then-not-is_fit-via-then-not-is_fit w ↦ compares-first-unfit s u a.list.now (sym c.is_fit.ensures ∙ w.if-not-is_fit.true)
      | then-not-is_fit-via-else-not-is_fit+then-not-is_fit-2 w ↦
          compares-second-unfit s u a.list.now (sym w.is_fit-else-not-is_fit.ensures ∙ w.if-not-is_fit-2.true)
    ]

pub returns-then-list-n : goal.returns-then-list-n
returns-then-list-n c =
    let a = c.args in
    compares-short (state a.first a.buffer.now) (state a.second a.buffer2.now) a.list.now
    (sym c.is_fit.ensures ∙ c.if-not-is_fit.false) (sym c.is_fit-else-not-is_fit.ensures ∙ c.if-not-is_fit-2.false)
    _ (omega arith) c.entries_in-n.ensures c.if-list-n.true

pub returns : goal.returns
returns c =
    let a = c.args in
    compares-listed (state a.first a.buffer.now) (state a.second a.buffer2.now) a.list.now
    (sym c.is_fit.ensures ∙ c.if-not-is_fit.false) (sym c.is_fit-else-not-is_fit.ensures ∙ c.if-not-is_fit-2.false)
    _ (omega arith) c.entries_in-n.ensures c.if-list-n.false c.text_of.ensures c.put_all.ensures
