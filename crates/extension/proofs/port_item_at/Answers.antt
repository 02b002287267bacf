-- `extension::port_item_at` meets its contract: nowhere, or the item behind the pairing addresses.
-- What the part means is port-item-answers of AskedLaws.
use Prim.Native.Nat.{ℕ, ◌+◌, ◌*◌}
use mathlib.Core.Path.{sym, ◌∙◌, ap, ap₂}
use native.Mathlib.Omega.{arith}
use borrow.Author.Tests.{le-ltb, lt-ltb}
use Rattle.extension.specs.Layout.{item_place, port_item_count}
use Rattle.extension.specs.Asked.{item_part, port_item_at}
use Rattle.extension.proofs.LayoutLaws.{product_small, opening-width, closing_at, closing-pairings, closing-items}
use Rattle.extension.proofs.AskedLaws.{port-item-answers}
use Rattle.extension.proofs.port_item_at.Goals as goal

pub returns-then-not-extension_fits : goal.returns-then-not-extension_fits
unfolding port_item_at
returns-then-not-extension_fits c = port-item-answers c.args.t.now c.args.j (c.nowhere.ensures ∙ rw (sym c.extension_fits.ensures ∙ c.if-not-extension_fits.true))

pub returns-then-j-e : goal.returns-then-j-e
unfolding port_item_at
returns-then-j-e c =
    let t = c.args.t.now in
    let few = le-ltb c.args.j (port_item_count t) (omega (arith, closing-items t c.closing_of-e.ensures.0)) in
    port-item-answers t c.args.j (c.nowhere-then-j-e.ensures ∙ rw (sym c.extension_fits.ensures ∙ c.if-not-extension_fits.false, few))

pub overflow_mul-items : goal.overflow_mul-items
overflow_mul-items c = omega (arith, product_small c.closing_of-e.result.pairings c.opening_of-h.result.width (omega arith) (omega arith))

pub overflow_add-items : goal.overflow_add-items
overflow_add-items c = omega (arith, c.closing_of-e.ensures.1, product_small c.closing_of-e.result.pairings c.opening_of-h.result.width (omega arith) (omega arith))

pub items_end-requires : goal.items_end-requires
items_end-requires c = record { from_bound = omega (arith, c.closing_of-e.ensures.1, product_small c.closing_of-e.result.pairings c.opening_of-h.result.width (omega arith) (omega arith)); count_bound = omega arith }

pub item_part-requires : goal.item_part-requires
item_part-requires c = omega (arith, c.items_end.ensures.1, c.closing_of-e.ensures.1, product_small c.closing_of-e.result.pairings c.opening_of-h.result.width (omega arith) (omega arith))

pub returns : goal.returns
unfolding port_item_at
returns c =
    let t = c.args.t.now in
    let tail = c.closing_of-e.ensures.0 in
    let there = lt-ltb c.args.j (port_item_count t) (omega (arith, closing-items t tail)) in
    let first = ap₂ ◌+◌ (closing_at t tail) (ap₂ ◌*◌ (closing-pairings t tail) (opening-width t c.opening_of-h.ensures.0)) in
    port-item-answers t c.args.j
    (rw (sym c.extension_fits.ensures ∙ c.if-not-extension_fits.false, there)
    (c.item_part.ensures ∙ ap (item_part t) (c.items_end.ensures.0 ∙ ap (λ (n : ℕ). item_place t n c.args.j) first)))
