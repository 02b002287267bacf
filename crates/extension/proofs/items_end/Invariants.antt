-- `extension::items_end` meets its contract: the place of the next item, one item after the other.
-- The laws are place-first, item-more and item-past of LayoutLaws.
use Prim.Native.Nat.{◌+◌, ◌*◌, ◌≤◌}
use mathlib.Core.Path.{◌≡◌}
use Rattle.extension.specs.Layout.{item_place}
use Rattle.extension.proofs.items_end.Given as goal

abbrev pub invariant-loop-i : goal.invariant-loop-i
invariant-loop-i l = (l.i ≤ l.count) × ((l.at ≡ item_place l.t l.from l.i) × (l.at ≤ l.from + 256 * l.i))
