-- What a replay does where nothing more is due: a record that is all there makes its calls (C3 to C5), a header says what follows it.
-- The table's calls are those of freeing and hearing.
use Rattle.std.specs.Prelude.{ℕ, ◌-◌, List, Some, Ok, Err, take, eqb}
use Rattle.tally.specs.Tests.{pick}
use Rattle.capture.specs.Layout.{layout_of, stamp, captured, original}
use Rattle.place.specs.State.{State, state}
use Rattle.refusal.specs.Refusal.{number_of}
use Rattle.freeing.specs.Calls.{Answer, state_after, passed}
use Rattle.hearing.specs.Frame.{state_told, heard}
use Rattle.records.specs.Place.{gap, refused_with, next, opened, fate_of, in_body}
use Rattle.records.specs.declared.Fate.{Fate}
use Rattle.records.specs.declared.Fate.TheVariants.{Heard, Skipped, TooLong}
use Rattle.records.specs.declared.Stage.{Stage}
use Rattle.records.specs.declared.Stage.TheVariants.{Opening, Heading, Body, Stopped, Refused}
use Rattle.records.specs.declared.Replay.{Replay}
use Rattle.records.specs.declared.Fed.{Fed}

-- a place and a table
pub record Turn : Type 0 where
  pub replay : Replay
  pub state : State

abbrev pub turn : Replay → State → Turn
turn r s = record { replay = r; state = s }

abbrev pub turn_of : Fed → List ℕ → Turn
turn_of q b = turn q.replay (state q.table b)

-- A record that is all there

-- its seconds have passed: the frame that is held is heard, or there is none (C5)
abbrev pub met : Fate → ℕ → Replay → List ℕ → State → Turn
met Heard t r room s = turn (next r.low (Some t) r.limit (r.left - 1) r.port) (state_told (heard r.port (take r.held room) s))
met Skipped t r room s = turn (next r.low (Some t) r.limit r.left r.port) s
met TooLong t r room s = turn (next r.low (Some t) r.limit (r.left - 1) r.port) s

-- what the table answered to its seconds: 1 where it is not fit, and the replay ends with that (C9)
abbrev pub on_answer : Answer → Fate → ℕ → Replay → List ℕ → State → Turn
on_answer (Ok u) f t r room s = met f t r room s
on_answer (Err n) f t r room s = turn (refused_with (number_of n)) s

unfoldable pub closed : Fate → ℕ → Replay → List ℕ → State → Turn
closed f t r room s = on_answer (passed (gap r.before t) s).outcome.answer f t r room (state_after (passed (gap r.before t) s))

-- A header that is all there; a record of no octets is all there with it

-- with a stamp, a captured and an original length
unfoldable pub headed_by : ℕ → ℕ → ℕ → Replay → List ℕ → State → Turn
headed_by t n o r room s = pick (eqb n 0) (closed (fate_of n o) t (in_body r t (fate_of n o) n) room s) (turn (in_body r t (fate_of n o) n) s)

abbrev pub headed : Replay → List ℕ → State → Turn
headed r room s = headed_by (stamp r.low room) (captured r.low room) (original r.low room) r room s

-- Where nothing more is due
abbrev pub turned : Stage → Replay → List ℕ → State → Turn
turned Opening r room s = turn (opened (layout_of room) r) s
turned Heading r room s = headed r room s
turned (Body t f) r room s = closed f t r room s
turned Stopped r room s = turn r s
turned (Refused n) r room s = turn r s

unfoldable pub settled : Replay → List ℕ → State → Turn
settled r room s = pick (eqb r.want 0) (turned r.stage r room s) (turn r s)
