-- `extension::items_end` meets its contract: the place of the next item, one item after the other.
-- The laws are place-first, item-more and item-past of LayoutLaws.
use mathlib.Core.Path.{◌≡◌}
use native.Mathlib.Omega.{arith}
use Rattle.extension.specs.Layout.{item_size}
use Rattle.extension.proofs.LayoutLaws.{place-first, item-more, item-past}
use Rattle.extension.proofs.items_end.Goals as goal

pub loop-i-init : goal.loop-i-init
loop-i-init c = (omega arith, (place-first item_size _ _, omega arith))

pub returns-then-at-t : goal.returns-then-at-t
returns-then-at-t c = (item-past c.args.t.now c.args.from c.loop-i.i c.loop-i.invariant.1.0 c.args.count c.loop-i.invariant.0 c.if-at-t.true, omega arith)

pub loop-i-preserved : goal.loop-i-preserved
loop-i-preserved c = (omega arith, (item-more c.args.t.now c.args.from c.loop-i.i c.loop-i.invariant.1.0 c.octet.ensures, omega arith))

pub returns : goal.returns
returns c =
    let e : c.loop-i.i ≡ c.args.count = omega arith in
    rw e at c.loop-i.invariant.1
