-- `extension::extension_names` meets its contract: none of the addresses passed is the one asked for.
-- The laws are some-miss and some-hit of tally's RangesLaws, names-other, names-six and names-row of LayoutLaws.
use mathlib.Core.Path.{◌≡◌, sym, ap, ◌∙◌}
use native.Mathlib.Omega.{arith}
use Rattle.tally.proofs.RangesLaws.{some-none, some-miss, some-hit}
use Rattle.octets.specs.Address.{six_at, same_octets}
use Rattle.extension.specs.Layout.{entry_size}
use Rattle.extension.proofs.LayoutLaws.{place-first, entry_more, names-other, names-six, names-row}
use Rattle.extension.proofs.extension_names.Goals as goal

pub returns-then-h-ne6 : goal.returns-then-h-ne6
returns-then-h-ne6 c = names-other c.args.t.now c.opening_of-h.ensures.0 c.args.address c.if-h-ne6.true

pub returns-then-h-eq0 : goal.returns-then-h-eq0
returns-then-h-eq0 c =
    let a = c.args in
    c.among.ensures ∙ sym (names-row a.t.now c.opening_of-h.ensures.0 a.address c.if-h-ne6.false c.if-h-eq0.true)

pub loop-i-init : goal.loop-i-init
loop-i-init c = (omega arith, (place-first (entry_size 6 c.opening_of-h.result.items) c.args.t.now c.opening_of-h.result.at, (omega arith, some-none _)))

pub returns-then-same_six : goal.returns-then-same_six
returns-then-same_six c =
    let six = ap (λ x. same_octets x c.args.address) (ap (six_at c.args.t.now) (sym c.loop-i.invariant.1.0) ∙ sym c.six.ensures) ∙ sym c.same_six.ensures ∙ c.if-same_six.true in
    sym (names-six c.args.t.now c.opening_of-h.ensures.0 c.args.address c.if-h-ne6.false ∙ some-hit _ c.loop-i.i _ (omega arith) six)

pub items_end-at-requires : goal.items_end-at-requires
items_end-at-requires c = record { from_bound = omega arith; count_bound = omega arith }

pub loop-i-preserved : goal.loop-i-preserved
loop-i-preserved c =
    let six = ap (λ x. same_octets x c.args.address) (ap (six_at c.args.t.now) (sym c.loop-i.invariant.1.0) ∙ sym c.six.ensures) ∙ sym c.same_six.ensures ∙ c.if-same_six.false in
    let end = c.items_end-at.ensures in (
      omega arith,
      (
        entry_more c.args.t.now c.opening_of-h.result.at c.loop-i.i 6 c.opening_of-h.result.items c.loop-i.invariant.1.0 end.0,
        (omega (arith, end.1), some-miss _ c.loop-i.i c.loop-i.invariant.1.1.1 six),
      ),
    )

pub returns : goal.returns
returns c =
    let e : c.loop-i.i ≡ c.opening_of-h.result.addresses = omega arith in
    sym (names-six c.args.t.now c.opening_of-h.ensures.0 c.args.address c.if-h-ne6.false ∙ (rw e at c.loop-i.invariant.1.1.1))
