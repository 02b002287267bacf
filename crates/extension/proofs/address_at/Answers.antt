-- `extension::address_at` meets its contract: nowhere, or the address of the entry.
-- What the part means is address-answers of AskedLaws.
use mathlib.Core.Path.{sym, ◌∙◌, ap₂}
use native.Mathlib.Omega.{arith}
use borrow.Author.Tests.{le-ltb, lt-ltb}
use Rattle.text.specs.Part.{part}
use Rattle.extension.specs.Layout.{entry_count}
use Rattle.extension.specs.Asked.{address_at}
use Rattle.extension.proofs.LayoutLaws.{opening-width, opening-count, entry_read}
use Rattle.extension.proofs.AskedLaws.{address-answers}
use Rattle.extension.proofs.address_at.Goals as goal

pub returns-then-not-extension_fits : goal.returns-then-not-extension_fits
unfolding address_at
returns-then-not-extension_fits c = address-answers c.args.t.now c.args.i (c.nowhere.ensures ∙ rw (sym c.extension_fits.ensures ∙ c.if-not-extension_fits.true))

pub returns-then-i-h : goal.returns-then-i-h
unfolding address_at
returns-then-i-h c =
    let t = c.args.t.now in
    let few = le-ltb c.args.i (entry_count t) (omega (arith, opening-count t c.opening_of-h.ensures.0)) in
    address-answers t c.args.i (c.nowhere-then-i-h.ensures ∙ rw (sym c.extension_fits.ensures ∙ c.if-not-extension_fits.false, few))

pub returns : goal.returns
unfolding address_at
returns c =
    let t = c.args.t.now in
    let head = c.opening_of-h.ensures.0 in
    let there = lt-ltb c.args.i (entry_count t) (omega (arith, opening-count t head)) in
    address-answers t c.args.i
    (rw (sym c.extension_fits.ensures ∙ c.if-not-extension_fits.false, there)
    (ap₂ part (c.entries_end-start.ensures.0 ∙ entry_read t head c.args.i) (opening-width t head)))
