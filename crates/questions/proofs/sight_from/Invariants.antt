-- `questions::sight_from` meets its contract: what is left to search gives the answer of the whole.
-- One place more is one step (sight-step); behind the last place there is nobody (sight-end).
use Prim.Native.Nat.{◌-◌}
use mathlib.Core.Path.{◌≡◌}
use Rattle.numbers.specs.Sizes.{places}
use Rattle.place.specs.State.{state}
use Rattle.questions.specs.Sight.{sight_from}
use Rattle.questions.proofs.sight_from.Given as goal

abbrev pub invariant-loop-i : goal.invariant-loop-i
invariant-loop-i l = sight_from (state l.t l.buffer) l.address l.from (places - l.from) ≡ sight_from (state l.t l.buffer) l.address l.i (places - l.i)
