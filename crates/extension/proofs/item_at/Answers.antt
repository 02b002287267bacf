-- `extension::item_at` meets its contract: nowhere, or the item of the entry.
-- What the part means is item-answers of AskedLaws.
use Prim.Native.Nat.{ℕ, ◌+◌}
use mathlib.Core.Path.{sym, ◌∙◌, ap, ap₂}
use native.Mathlib.Omega.{arith}
use borrow.Author.Tests.{le-ltb, lt-ltb}
use Rattle.extension.specs.Layout.{item_place, entry_count, item_count}
use Rattle.extension.specs.Asked.{item_part, item_at}
use Rattle.extension.proofs.LayoutLaws.{opening-width, opening-count, opening-items, entry_read}
use Rattle.extension.proofs.AskedLaws.{item-answers}
use Rattle.extension.proofs.item_at.Goals as goal

pub returns-then-not-extension_fits : goal.returns-then-not-extension_fits
unfolding item_at
returns-then-not-extension_fits c = item-answers c.args.t.now c.args.i c.args.j (c.nowhere.ensures ∙ rw (sym c.extension_fits.ensures ∙ c.if-not-extension_fits.true))

pub returns-then-i-h : goal.returns-then-i-h
unfolding item_at
returns-then-i-h c =
    let t = c.args.t.now in
    let few = le-ltb c.args.i (entry_count t) (omega (arith, opening-count t c.opening_of-h.ensures.0)) in
    item-answers t c.args.i c.args.j (c.nowhere-then-i-h.ensures ∙ rw (sym c.extension_fits.ensures ∙ c.if-not-extension_fits.false, few))

pub returns-then-j-h : goal.returns-then-j-h
unfolding item_at
returns-then-j-h c =
    let t = c.args.t.now in
    let head = c.opening_of-h.ensures.0 in
    let there = lt-ltb c.args.i (entry_count t) (omega (arith, opening-count t head)) in
    let few = le-ltb c.args.j (item_count t) (omega (arith, opening-items t head)) in
    item-answers t c.args.i c.args.j (c.nowhere-then-j-h.ensures ∙ rw (sym c.extension_fits.ensures ∙ c.if-not-extension_fits.false, there, few))

pub returns : goal.returns
unfolding item_at
returns c =
    let t = c.args.t.now in
    let head = c.opening_of-h.ensures.0 in
    let there = lt-ltb c.args.i (entry_count t) (omega (arith, opening-count t head)) in
    let asked = lt-ltb c.args.j (item_count t) (omega (arith, opening-items t head)) in
    item-answers t c.args.i c.args.j
    (rw (sym c.extension_fits.ensures ∙ c.if-not-extension_fits.false, there, asked)
    (c.item_part.ensures
    ∙ ap (item_part t) (c.items_end.ensures.0 ∙ ap (λ (n : ℕ). item_place t n c.args.j) (ap₂ ◌+◌ (c.entries_end.ensures.0 ∙ entry_read t head c.args.i) (opening-width t head)))))
