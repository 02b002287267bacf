-- `octet_table::put_senders` meets its contract: after i turns six octets of each of i senders are put; they mean the same senders.
-- One turn is filled_more of tally, six times.
use Prim.Native.Nat.{ℕ, ◌≤◌, ◌<◌, ◌*◌}
use mathlib.Core.Path.{◌≡◌}
use mathlib.Core.List.{◌++◌}
use lib.ListN.{length, get_or, drop}
use Rattle.tally.specs.Tab.{tab}
use Rattle.numbers.specs.Sizes.{places}
use Rattle.place.specs.State.{no_sender}
use Rattle.octet_table.specs.Lent.{sender_octet}
use Rattle.octet_table.proofs.put_senders.Given as goal

abbrev pub invariant-loop-i : goal.invariant-loop-i
invariant-loop-i l = (l.i ≤ places) × (length l.out ≡ length l.initial.out) × (l.out ≡ tab (6 * l.i) (sender_octet l.senders) ++ drop (6 * l.i) l.initial.out) × ((k : ℕ) → k < l.i → length (get_or l.senders k no_sender).octets ≡ 6)
