-- The place of a replay before the file, what is kept of the octets that come there, and what it answers where the file is over.
-- The place itself is records/specs/Place.antt.
use Rattle.std.specs.Prelude.{ℕ, ◌-◌, Bool, true, false, None, Ok, Err, ltb, eqb}
use Rattle.tally.specs.Tests.{pick}
use Rattle.capture.specs.Layout.{file_header}
use Rattle.refusal.specs.Refusal.{number_of}
use Rattle.refusal.specs.declared.Refusal.TheVariants.{Unfit, NoPort, NoCapture, Torn}
use Rattle.numbers.specs.Sizes.{ports}
use Rattle.place.specs.State.{State}
use Rattle.fitness.specs.Fit.{fit}
use Rattle.records.specs.Place.{place_at, refused_with, longest, is_heard}
use Rattle.records.specs.declared.Stage.{Stage}
use Rattle.records.specs.declared.Stage.TheVariants.{Opening, Heading, Body, Stopped, Refused}
use Rattle.records.specs.declared.Replay.{Replay}
use Rattle.replay.specs.Calls.{Replayed, named}

-- the octets of the record buffer: those of the longest frame (F1)
abbrev pub room_octets : ℕ
room_octets = longest

abbrev pub opening : ℕ → ℕ → Replay
opening port limit = place_at Opening false None 0 file_header limit limit port

-- before the file: 1, then 2 (C8)
unfoldable pub beginning : State → ℕ → ℕ → Replay
beginning s port limit = pick (fit s) (pick (ltb port ports) (opening port limit) (refused_with (number_of NoPort))) (refused_with (number_of Unfit))

-- octets that come here are kept in the record buffer
abbrev pub keeps : Stage → Bool
keeps Opening = true
keeps Heading = true
keeps (Body stamp fate) = is_heard fate
keeps Stopped = false
keeps (Refused n) = false

-- what a replay answers where the file is over at this place: 11 in the file header (C2), 12 inside a record (C7)
abbrev pub end_in : Stage → ℕ → ℕ → Replayed
end_in Opening held handed = Err NoCapture
end_in Heading held handed = pick (eqb held 0) (Ok handed) (Err Torn)
end_in (Body stamp fate) held handed = Err Torn
end_in Stopped held handed = Ok handed
end_in (Refused n) held handed = Err (named n)

abbrev pub end_at : Replay → Replayed
end_at r = end_in r.stage r.held (r.limit - r.left)
