-- A replay's calls are calls: a table that calls led to is led on by them, and demand 3 holds of it with their history.
-- Nothing is proved again: each call is one of history/specs/Calls.antt.
use Prim.Native.Nat.{ℕ}
use mathlib.Core.List.{List, [], ◌∷◌}
use Rattle.rules.specs.Events.{History}
use Rattle.numbers.specs.Sizes.{ports}
use Rattle.place.specs.State.{State}
use Rattle.fitness.specs.View.{view}
use Rattle.history.specs.Demand.{Demand3}
use Rattle.history.specs.Calls as call
use Rattle.history.specs.Calls.{Called}
use Rattle.history.proofs.CallsLaws.{demand3-table}
use Rattle.replay.specs.Calls.{Call, pass, frame, script_for, after, replayed}
use Rattle.replay_history.specs.Events.{told, told_by}

after-called : (port : ℕ) (l : List Call) {s : State} {h : History} → Called s h → Called (after port l s) (told port l h)
unfolding after told
after-called port [] c = c
after-called port (pass n ∷ l) {s} {h} c = after-called port l (call.waited c n)
after-called port (frame f ∷ l) {s} {h} c = after-called port l (call.frame c port f)

module _ {s : State} {h : History} (c : Called s h) (port limit : ℕ) (file : List ℕ) where
  pub replay-called : Called (replayed s port limit file).state (told_by s port limit file h)
  unfolding replayed
  replay-called = after-called port (script_for s port limit file).calls c

  -- Demand 3, of the table behind a replay
  pub replay-demand3 : Demand3 ports (told_by s port limit file h) (view (replayed s port limit file).state)
  replay-demand3 = demand3-table replay-called
