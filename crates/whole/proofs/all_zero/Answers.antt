-- `whole::all_zero` meets its contract: what is left from i on decides, since all in front of it is zero.
-- One part is zeros-past or zeros-stop, the last part is zeros-overlap of WholeLaws.
use Prim.Native.Nat.{◌-◌}
use mathlib.Core.Path.{refl, sym, ap, ◌∙◌}
use native.Mathlib.Omega.{arith}
use borrow.Author.Rules.{rules}
use lib.ListN.{length}
use Rattle.octets.proofs.PartLaws.{part-is, part-from}
use Rattle.whole.specs.Whole.{zeros}
use Rattle.whole.proofs.WholeLaws.{zeros-past, zeros-stop, zeros-overlap}
use Rattle.whole.proofs.all_zero.Goals as goal

pub returns-then-s-lt-AT_ONCE : goal.returns-then-s-lt-AT_ONCE
returns-then-s-lt-AT_ONCE c = c.part_zero.ensures

pub loop-i-init : goal.loop-i-init
loop-i-init c = (search rules, search rules, refl)

pub loop-i-preserved : goal.loop-i-preserved
loop-i-preserved c =
    let s = c.args.s.now in
    let i = c.loop-i.i in
    let part = ap zeros (sym (part-is s i 256)) ∙ sym c.part_zero-in-loop-i.ensures ∙ c.if-part_zero.true in
    (search rules, search rules, zeros-past s i 256 part ∙ c.loop-i.invariant.2)

pub returns-else-part_zero : goal.returns-else-part_zero
returns-else-part_zero c =
    let s = c.args.s.now in
    let i = c.loop-i.i in
    let part = ap zeros (sym (part-is s i 256)) ∙ sym c.part_zero-in-loop-i.ensures ∙ c.if-part_zero.false in
    sym (zeros-stop s i 256 part) ∙ c.loop-i.invariant.2

pub returns : goal.returns
returns c =
    let s = c.args.s.now in
    c.part_zero-2.ensures ∙ ap zeros (part-from s (length s - 256)) ∙ zeros-overlap s (length s - 256) c.loop-i.i (omega arith) c.loop-i.invariant.2
