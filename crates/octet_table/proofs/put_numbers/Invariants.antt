-- `octet_table::put_numbers` meets its contract: after i turns two octets of each of i numbers are put; they mean the same numbers.
-- One turn is filled_more of tally, twice.
use Prim.Native.Nat.{◌≤◌, ◌*◌}
use mathlib.Core.Path.{◌≡◌}
use mathlib.Core.List.{◌++◌}
use lib.ListN.{length, drop}
use Rattle.tally.specs.Tab.{tab}
use Rattle.numbers.specs.Sizes.{places}
use Rattle.octet_table.specs.Lent.{number_octet}
use Rattle.octet_table.proofs.put_numbers.Given as goal

abbrev pub invariant-loop-i : goal.invariant-loop-i
invariant-loop-i l = (l.i ≤ places) × (length l.out ≡ length l.initial.out) × (l.out ≡ tab (2 * l.i) (number_octet l.numbers) ++ drop (2 * l.i) l.initial.out)
