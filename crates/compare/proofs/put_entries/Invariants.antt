-- `compare::put_entries` meets its contract: what the places below the next one give has been put, of the first table and then of the second.
-- Each turn puts what one place gives (order-begins, order-more).
use Rattle.output.specs.Output.{Put}
use Rattle.place.specs.State.{state}
use Rattle.changes.specs.Entries.{in_order, octets_of}
use Rattle.compare.specs.Compare.{first_gives, second_gives}
use Rattle.compare.proofs.put_entries.Given as goal

abbrev pub invariant-loop-i : goal.invariant-loop-i
invariant-loop-i l = Put (octets_of (in_order (first_gives (state l.first l.buffer) (state l.second l.buffer2)) l.i)) l.initial.out l.out

abbrev pub invariant-loop-k : goal.invariant-loop-k
invariant-loop-k l = Put (octets_of (in_order (second_gives (state l.first l.buffer) (state l.second l.buffer2)) l.k)) l.initial.out l.out
