-- `extension::entries_end` meets its contract: the place of the next entry, one entry after the other.
-- The laws are place-first and entry_more of LayoutLaws.
use Prim.Native.Nat.{◌+◌, ◌*◌, ◌≤◌}
use mathlib.Core.Path.{◌≡◌}
use lib.ListN.{drop}
use Rattle.extension.specs.Runs.{span}
use Rattle.extension.specs.Layout.{entry_size}
use Rattle.extension.proofs.entries_end.Given as goal

abbrev pub invariant-loop-i : goal.invariant-loop-i
invariant-loop-i l = (l.i ≤ l.count) × ((l.at ≡ l.h.at + span (entry_size l.h.width l.h.items) l.i (drop l.h.at l.t)) × (l.at ≤ l.h.at + 65536 * l.i))
