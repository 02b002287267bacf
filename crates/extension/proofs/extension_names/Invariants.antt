-- `extension::extension_names` meets its contract: none of the addresses passed is the one asked for.
-- The laws are some-miss and some-hit of tally's RangesLaws, names-other, names-six and names-row of LayoutLaws.
use Prim.Native.Nat.{◌+◌, ◌*◌, ◌≤◌}
use mathlib.Core.Path.{◌≡◌}
use mathlib.Core.Bool.{false}
use lib.ListN.{drop}
use Rattle.tally.specs.Ranges.{some_below}
use Rattle.octets.specs.Address.{six_at, same_octets}
use Rattle.extension.specs.Runs.{span}
use Rattle.extension.specs.Layout.{entry_size}
use Rattle.extension.proofs.extension_names.Given as goal

abbrev pub invariant-loop-i : goal.invariant-loop-i
invariant-loop-i l = (l.i ≤ l.i-end)
    × ((l.at ≡ l.h.at + span (entry_size 6 l.h.items) l.i (drop l.h.at l.t))
    × ((l.at ≤ l.h.at + 65536 * l.i)
    × (some_below (λ j. same_octets (six_at l.t (l.h.at + span (entry_size 6 l.h.items) j (drop l.h.at l.t))) l.address) l.i ≡ false)))
