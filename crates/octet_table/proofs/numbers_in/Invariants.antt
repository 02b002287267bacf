-- `octet_table::numbers_in` meets its contract: after i turns i numbers are what their octets mean, the others still low octet first.
-- One turn is turn_more of LentLaws.
use Prim.Native.Nat.{◌≤◌}
use mathlib.Core.Path.{◌≡◌}
use mathlib.Core.List.{◌++◌}
use lib.ListN.{length, drop}
use Rattle.tally.specs.Tab.{tab}
use Rattle.numbers.specs.Sizes.{places}
use Rattle.octet_table.proofs.LentLaws.{number, low_first}
use Rattle.octet_table.proofs.numbers_in.Given as goal

abbrev pub invariant-loop-i : goal.invariant-loop-i
invariant-loop-i l = (l.i ≤ places) × (length l.initial.a ≡ places) × (length l.a ≡ places) × (l.initial.a ≡ tab places (low_first l.o)) × (l.a ≡ tab l.i (number l.o) ++ drop l.i l.initial.a)
