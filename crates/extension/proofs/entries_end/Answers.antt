-- `extension::entries_end` meets its contract: the place of the next entry, one entry after the other.
-- The laws are place-first and entry_more of LayoutLaws.
use mathlib.Core.Path.{◌≡◌}
use native.Mathlib.Omega.{arith}
use Rattle.extension.specs.Layout.{entry_size}
use Rattle.extension.proofs.LayoutLaws.{place-first, entry_more}
use Rattle.extension.proofs.entries_end.Goals as goal

pub loop-i-init : goal.loop-i-init
loop-i-init c = (omega arith, (place-first (entry_size c.args.h.width c.args.h.items) c.args.t.now c.args.h.at, omega arith))

pub items_end-at-requires : goal.items_end-at-requires
items_end-at-requires c = record { from_bound = omega arith; count_bound = omega arith }

pub loop-i-preserved : goal.loop-i-preserved
loop-i-preserved c =
    let end = c.items_end-at.ensures in
    (omega arith, (entry_more c.args.t.now c.args.h.at c.loop-i.i c.args.h.width c.args.h.items c.loop-i.invariant.1.0 end.0, omega (arith, end.1)))

pub returns : goal.returns
returns c =
    let e : c.loop-i.i ≡ c.args.count = omega arith in
    rw e at c.loop-i.invariant.1
