-- `links::one_by_one` meets its contract: none of the addresses passed is the one asked for.
-- The laws are row-miss and row-hit of RowLaws.
use Prim.Native.Nat.{◌+◌}
use mathlib.Core.Path.{◌≡◌, refl, sym, ap, ◌∙◌}
use native.Mathlib.Omega.{arith}
use Rattle.tally.proofs.RangesLaws.{some-none}
use Rattle.octets.specs.Address.{same_octets}
use Rattle.links.proofs.RowLaws.{row-miss, row-hit}
use Rattle.links.proofs.one_by_one.Goals as goal

pub loop-i-init : goal.loop-i-init
loop-i-init c = (omega arith, some-none _)

pub returns-then-same_six : goal.returns-then-same_six
returns-then-same_six c =
    let a = c.args in
    sym (row-hit a.s.now a.address a.first c.loop-i.i refl (c.same_six.ensures ∙ ap (λ x. same_octets x a.address) c.six.ensures) (omega arith) c.if-same_six.true)

pub loop-i-preserved : goal.loop-i-preserved
loop-i-preserved c =
    let a = c.args in
    let i = c.loop-i.i in
    (omega arith, row-miss a.s.now a.address a.first i refl (c.same_six.ensures ∙ ap (λ x. same_octets x a.address) c.six.ensures) {k = i + 1} refl c.loop-i.invariant.1 c.if-same_six.false)

pub returns : goal.returns
returns c =
    let e : c.loop-i.i ≡ c.args.count = omega arith in
    sym (rw e at c.loop-i.invariant.1)
