-- The place that a replay keeps between two pieces (C9), and where it goes from a header or a record (C2, C4 to C6).
-- `low` says that the low octet of every number stands first (C1).
use Rattle.std.specs.Prelude.{ℕ, ◌-◌, Bool, true, false, Option, Some, None, ltb, eqb}
use Rattle.tally.specs.Tests.{pick}
use Rattle.capture.specs.Layout.{record_header}
use Rattle.capture.specs.declared.Layout.{Layout}
use Rattle.capture.specs.declared.Layout.TheVariants.{HighFirst, LowFirst, Foreign}
use Rattle.refusal.specs.Refusal.{number_of}
use Rattle.refusal.specs.declared.Refusal.TheVariants.{NoCapture}
use Rattle.records.specs.declared.Fate.{Fate}
use Rattle.records.specs.declared.Fate.TheVariants.{Heard, Skipped, TooLong}
use Rattle.records.specs.declared.Stage.{Stage}
use Rattle.records.specs.declared.Stage.TheVariants.{Heading, Body, Stopped, Refused}
use Rattle.records.specs.declared.Replay.{Replay}

-- C4: seconds from a stamp to the next; none where it goes back, and never more than one call can pass
abbrev pub most_seconds : ℕ
most_seconds = 65535

unfoldable pub between : ℕ → ℕ → ℕ
between last stamp = pick (ltb stamp last) 0 (pick (ltb most_seconds (stamp - last)) most_seconds (stamp - last))

abbrev pub gap : Option ℕ → ℕ → ℕ
gap None stamp = 0
gap (Some last) stamp = between last stamp

abbrev pub place_at : Stage → Bool → Option ℕ → ℕ → ℕ → ℕ → ℕ → ℕ → Replay
place_at s low before held want limit left port =
    record { stage = s; low = low; before = before; held = held; want = want; limit = limit; left = left; port = port }

-- a refusal is its number alone
abbrev pub refused_with : ℕ → Replay
refused_with n = place_at (Refused n) false None 0 0 0 0 0

-- where the next record begins, or behind the last frame (C6)
unfoldable pub next : Bool → Option ℕ → ℕ → ℕ → ℕ → Replay
next low before limit left port = pick (eqb left 0) (place_at Stopped low before 0 0 limit left port) (place_at Heading low before 0 record_header limit left port)

-- the file header is held (C2)
abbrev pub opened : Layout → Replay → Replay
opened HighFirst r = next false None r.limit r.left r.port
opened LowFirst r = next true None r.limit r.left r.port
opened Foreign r = refused_with (number_of NoCapture)

-- what becomes of a record (C5); no frame is longer than this (F1)
abbrev pub longest : ℕ
longest = 1514

unfoldable pub fate_of : ℕ → ℕ → Fate
fate_of captured original = pick (ltb captured original) Skipped (pick (ltb longest captured) TooLong Heard)

abbrev pub is_heard : Fate → Bool
is_heard Heard = true
is_heard Skipped = false
is_heard TooLong = false

-- in a record, at its first octet
abbrev pub in_body : Replay → ℕ → Fate → ℕ → Replay
in_body r stamp fate captured = place_at (Body stamp fate) r.low r.before 0 captured r.limit r.left r.port
