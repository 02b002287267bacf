-- The table as a list of places, and what each event does to it (N7 to N9).
-- A place is free or has a record; a new record takes the lowest free place (N4).
use Rattle.std.specs.Prelude.{ℕ, ◌+◌, ◌-◌, List, [], ◌∷◌, Bool, true, false, Ok, Err, ltb, leb, eqb, replicate}
use Rattle.std.proofs.Math.Option.{Option, none, some}
use Rattle.tally.specs.Tests.{pick}
use Rattle.tally.specs.Counts.{one}
use Rattle.refusal.specs.declared.Refusal.TheVariants.{NoPort}
use Rattle.ids.specs.Id.{Id}
use Rattle.rules.specs.Identity.{Ident, same}
use Rattle.rules.specs.Events.{Announcement, Heard, unread, says, Event, frame, passed, lost, History, whose}
use Rattle.rules.specs.Shares.{places_for, port_is, chassis_is, room}
use Rattle.rules.specs.Answers.{Answered, answer_to}
use Rattle.rules.specs.declared.Reply.TheVariants.{Recorded, Refreshed, Gone, UnknownGoodbye}

pub record Rec : Type 0 where
  pub who : Ident
  pub left : ℕ
  pub octets : List ℕ
  pub sender : List ℕ

abbrev pub Places : Type 0
Places = List (Option Rec)

abbrev pub is_some : Option Rec → Bool
is_some none = false
is_some (some r) = true

-- the record of an identity, where it is known
abbrev pub lookup : Ident → Places → Option Rec
lookup w [] = none
lookup w (none ∷ t) = lookup w t
lookup w (some r ∷ t) = pick (same w r.who) (some r) (lookup w t)

-- how many used places have an identity that passes g
abbrev pub hits : (Ident → Bool) → Option Rec → ℕ
hits g none = 0
hits g (some r) = one (g r.who)

abbrev pub tally : (Ident → Bool) → Places → ℕ
tally g [] = 0
tally g (x ∷ t) = hits g x + tally g t

-- how many a port holds (N10)
abbrev pub holds_in : Places → ℕ → ℕ
holds_in t q = tally (port_is q) t

-- how many of these are of chassis c (N13)
abbrev pub holds_of : Places → ℕ → Id → ℕ
holds_of t q c = tally (chassis_is q c) t

-- into the lowest free place (N4)
abbrev pub enter : Rec → Places → Places
enter r [] = []
enter r (none ∷ t) = some r ∷ t
enter r (some x ∷ t) = some x ∷ enter r t

-- what happens to each record by itself
abbrev pub on_record : (Rec → Option Rec) → Option Rec → Option Rec
on_record f none = none
on_record f (some r) = f r

abbrev pub each_record : (Rec → Option Rec) → Places → Places
each_record f [] = []
each_record f (x ∷ t) = on_record f x ∷ each_record f t

-- seconds pass (N8)
unfoldable pub tick : ℕ → Rec → Option Rec
tick s r = pick (leb r.left s) none (some (record { who = r.who; left = r.left - s; octets = r.octets; sender = r.sender }))

-- the link of port p is lost (N9)
unfoldable pub unplug : ℕ → Rec → Option Rec
unplug p r = pick (eqb r.who.port p) none (some r)

-- the record of w becomes what is given
unfoldable pub swap : Ident → Option Rec → Rec → Option Rec
swap w new r = pick (same w r.who) new (some r)

-- what is recorded of what is heard on port p
abbrev pub recorded : ℕ → Announcement → Rec
recorded p a = record { who = whose p a; left = a.seconds; octets = a.octets; sender = a.sender }

-- what an answer does with the record that was heard
abbrev pub act : Answered → Rec → Places → Places
act (Ok Recorded) r t = enter r t
act (Ok Refreshed) r t = each_record (swap r.who (some r)) t
act (Ok Gone) r t = each_record (swap r.who none) t
act (Ok UnknownGoodbye) r t = t
act (Err k) r t = t

-- the answer to what is heard on port p, with n ports: R2, then the reader's refusal, then N7
unfoldable pub reply : ℕ → ℕ → Heard → Places → Answered
reply n p (unread k) t = pick (ltb p n) (Err k) (Err NoPort)
reply n p (says a) t =
    pick (ltb p n) (answer_to (eqb a.seconds 0) (is_some (lookup (whose p a) t)) (room n (λ g. tally g t) (whose p a))) (Err NoPort)

unfoldable pub after_frame : ℕ → ℕ → Heard → Places → Places
unfolding reply
after_frame n p (unread k) t = t
after_frame n p (says a) t = act (reply n p (says a) t) (recorded p a) t

abbrev pub step : ℕ → Event → Places → Places
step n (frame p x) t = after_frame n p x t
step n (passed s) t = each_record (tick s) t
step n (lost p) t = each_record (unplug p) t

-- from Start on
abbrev pub run : ℕ → History → Places
run n [] = replicate (places_for n) none
run n (e ∷ h) = step n e (run n h)
