-- `octet_table::low_first` meets its contract: after i turns i numbers are those of their octets, low octet first.
-- One turn is filled_more of tally.
use Prim.Native.Nat.{◌≤◌}
use mathlib.Core.Path.{◌≡◌}
use mathlib.Core.List.{◌++◌}
use lib.ListN.{length, drop}
use Rattle.tally.specs.Tab.{tab}
use Rattle.numbers.specs.Sizes.{places}
use Rattle.octet_table.proofs.LentLaws.{low_first}
use Rattle.octet_table.proofs.low_first.Given as goal

abbrev pub invariant-loop-i : goal.invariant-loop-i
invariant-loop-i l = (l.i ≤ places) × (length l.initial.a ≡ places) × (length l.a ≡ places) × (l.a ≡ tab l.i (low_first l.o) ++ drop l.i l.initial.a)
