-- `octet_table::senders_in` meets its contract: after i turns i senders are what their octets mean.
-- One turn is filled_more of tally.
use Prim.Native.Nat.{◌≤◌, ◌*◌}
use mathlib.Core.Path.{◌≡◌}
use mathlib.Core.List.{◌++◌}
use lib.ListN.{length, drop}
use Rattle.tally.specs.Tab.{tab}
use Rattle.numbers.specs.Sizes.{places}
use Rattle.octets.specs.Address.{six_at}
use Rattle.octet_table.proofs.senders_in.Given as goal

abbrev pub invariant-loop-i : goal.invariant-loop-i
invariant-loop-i l = (l.i ≤ places) × (length l.initial.a ≡ places) × (length l.a ≡ places) × (l.a ≡ tab l.i (λ k. record { octets = six_at l.o (6 * k) }) ++ drop l.i l.initial.a)
