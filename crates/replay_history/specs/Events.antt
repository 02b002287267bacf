-- The history of a replay's calls (C3), newest first, behind the history h of the table before.
-- Every call counts, refused ones too; a frame is what the reader says of it.
use Rattle.std.specs.Prelude.{ℕ, List, [], ◌∷◌}
use Rattle.rules.specs.Events as event
use Rattle.rules.specs.Events.{History}
use Rattle.hearing.specs.Frame.{heard_of}
use Rattle.place.specs.State.{State}
use Rattle.replay.specs.Calls.{Call, pass, frame, script_for}

unfoldable pub told : ℕ → List Call → History → History
told port [] h = h
told port (pass n ∷ l) h = told port l (event.passed n ∷ h)
told port (frame f ∷ l) h = told port l (event.frame port (heard_of f) ∷ h)

-- of the calls that a file makes on table s
abbrev pub told_by : State → ℕ → ℕ → List ℕ → History → History
told_by s port limit file h = told port (script_for s port limit file).calls h
