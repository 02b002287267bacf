-- `extension::pairing_at` meets its contract: nowhere, or so many addresses behind q.
-- What the part means is pairing-answers of AskedLaws.
use Prim.Native.Nat.{◌+◌, ◌*◌}
use mathlib.Core.Path.{sym, ◌∙◌, ap, ap₂}
use native.Mathlib.Omega.{arith}
use borrow.Author.Tests.{le-ltb, lt-ltb}
use Rattle.text.specs.Part.{part}
use Rattle.extension.specs.Layout.{pairing_count}
use Rattle.extension.specs.Asked.{pairing_at}
use Rattle.extension.proofs.LayoutLaws.{product_small, opening-width, closing_at, closing-pairings}
use Rattle.extension.proofs.AskedLaws.{pairing-answers}
use Rattle.extension.proofs.pairing_at.Goals as goal

pub returns-then-not-extension_fits : goal.returns-then-not-extension_fits
unfolding pairing_at
returns-then-not-extension_fits c = pairing-answers c.args.t.now c.args.i (c.nowhere.ensures ∙ rw (sym c.extension_fits.ensures ∙ c.if-not-extension_fits.true))

pub returns-then-i-e : goal.returns-then-i-e
unfolding pairing_at
returns-then-i-e c =
    let t = c.args.t.now in
    let few = le-ltb c.args.i (pairing_count t) (omega (arith, closing-pairings t c.closing_of-e.ensures.0)) in
    pairing-answers t c.args.i (c.nowhere-then-i-e.ensures ∙ rw (sym c.extension_fits.ensures ∙ c.if-not-extension_fits.false, few))

pub overflow_mul-start : goal.overflow_mul-start
overflow_mul-start c = omega (arith, product_small c.args.i c.opening_of-h.result.width (omega arith) (omega arith))

pub overflow_add-start : goal.overflow_add-start
overflow_add-start c = omega (arith, c.closing_of-e.ensures.1, product_small c.args.i c.opening_of-h.result.width (omega arith) (omega arith))

pub returns : goal.returns
unfolding pairing_at
returns c =
    let t = c.args.t.now in
    let wide = opening-width t c.opening_of-h.ensures.0 in
    let tail = c.closing_of-e.ensures.0 in
    let there = lt-ltb c.args.i (pairing_count t) (omega (arith, closing-pairings t tail)) in
    pairing-answers t c.args.i
    (rw (sym c.extension_fits.ensures ∙ c.if-not-extension_fits.false, there)
    (ap₂ part (ap₂ ◌+◌ (closing_at t tail) (ap (λ w. c.args.i * w) wide)) wide))
