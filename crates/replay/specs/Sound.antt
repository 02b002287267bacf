-- Which places a replay can have made, by their numbers (C10).
-- `sound` is what `feed` and `finish` ask of the place that they are handed.
use Rattle.std.specs.Prelude.{ℕ, ◌-◌, Bool, true, false, Option, Some, None, not, ◌&&◌, ◌||◌, leb, ltb, eqb}
use Rattle.tally.specs.Tests.{pick}
use Rattle.capture.specs.Layout.{file_header, record_header}
use Rattle.numbers.specs.Sizes.{ports}
use Rattle.records.specs.declared.Fate.{Fate}
use Rattle.records.specs.declared.Stage.{Stage}
use Rattle.records.specs.declared.Stage.TheVariants.{Opening, Heading, Body, Stopped, Refused}
use Rattle.records.specs.declared.Replay.{Replay}
use Rattle.records.specs.Place.{is_heard}
use Rattle.replay.specs.Place.{room_octets}

abbrev pub is_first : Option ℕ → Bool
is_first None = true
is_first (Some t) = false

-- the port is there, and of the limit no more is left than there was; before the first record all of it
abbrev pub in_file : Replay → Bool
in_file r = ltb r.port ports && leb r.left r.limit && (not (is_first r.before) || eqb r.left r.limit)

-- of a header with so many octets some are held, and the others are due
abbrev pub in_header : ℕ → Replay → Bool
in_header octets r = ltb r.held octets && eqb r.want (octets - r.held)

abbrev pub in_opening : Replay → Bool
in_opening r = in_header file_header r && not r.low && is_first r.before

-- of a record some octets are due; none but those of a frame are held, and these have room
abbrev pub in_record : Fate → Replay → Bool
in_record f r =
    pick (is_heard f)
    (not (eqb r.want 0) && ltb r.held room_octets && leb r.want (room_octets - r.held))
    (not (eqb r.want 0) && eqb r.held 0)

-- with a limit of 0 no record was looked at, with any other one was
abbrev pub is_stopped : Replay → Bool
is_stopped r = eqb r.held 0 && eqb r.want 0 && eqb r.left 0 && (is_first r.before || not (eqb r.limit 0))

-- 12 is told at the end of a file, and no place has it
abbrev pub is_refusal : ℕ → Bool
is_refusal n = eqb n 1 || eqb n 2 || eqb n 11

-- a refusal is its number alone
abbrev pub is_refused : ℕ → Replay → Bool
is_refused n r =
    is_refusal n && not r.low && is_first r.before && eqb r.held 0 && eqb r.want 0 && eqb r.limit 0 && eqb r.left 0 && eqb r.port 0

abbrev pub sound_at : Stage → Replay → Bool
sound_at Opening r = in_opening r && in_file r
sound_at Heading r = in_header record_header r && not (eqb r.left 0) && in_file r
sound_at (Body stamp fate) r = in_record fate r && not (eqb r.left 0) && in_file r
sound_at Stopped r = is_stopped r && in_file r
sound_at (Refused n) r = is_refused n r

unfoldable pub sound : Replay → Bool
sound r = sound_at r.stage r
