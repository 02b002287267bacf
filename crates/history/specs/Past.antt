-- What a history says of each neighbour, by the history and the rules alone: there is no table in it.
-- `latest` is what the demand speaks of; Words.antt says the same in the demand's own words.
use Rattle.std.specs.Prelude.{ℕ, ◌+◌, List, [], ◌∷◌, Bool, false, Ok, Err, ltb, eqb}
use Rattle.std.proofs.Math.Option.{Option, none, some}
use Rattle.tally.specs.Tests.{pick, both, either}
use Rattle.tally.specs.Counts.{one}
use Rattle.refusal.specs.declared.Refusal.TheVariants.{NoPort}
use Rattle.ids.specs.Id.{Id}
use Rattle.rules.specs.Identity.{Ident, same}
use Rattle.rules.specs.Events.{Announcement, Heard, unread, says, frame, passed, lost, History, whose}
use Rattle.rules.specs.Shares.{port_is, chassis_is, room}
use Rattle.rules.specs.Answers.{Answered, answer_to}
use Rattle.rules.specs.declared.Reply.TheVariants.{Recorded, Refreshed, Gone, UnknownGoodbye}

-- a recorded announcement, and the seconds that passed since
pub record Latest : Type 0 where
  pub said : Announcement
  pub since : ℕ

-- there is one, and it has time left
abbrev pub in_force : Option Latest → Bool
in_force none = false
in_force (some e) = ltb e.since e.said.seconds

abbrev pub older : ℕ → Option Latest → Option Latest
older s none = none
older s (some e) = some (record { said = e.said; since = e.since + s })

abbrev pub fresh : Announcement → Option Latest
fresh a = some (record { said = a; since = 0 })

-- what is the latest of an identity once it announced itself anew and got this answer
abbrev pub on_answer : Answered → Announcement → Option Latest → Option Latest
on_answer (Ok Recorded) a old = fresh a
on_answer (Ok Refreshed) a old = fresh a
on_answer (Ok Gone) a old = none
on_answer (Ok UnknownGoodbye) a old = none
on_answer (Err k) a old = old

-- Whom the frames of a history named, each once

abbrev pub among : Ident → List Ident → Bool
among w [] = false
among w (v ∷ l) = either (same w v) (among w l)

abbrev pub named : History → List Ident
named [] = []
named (frame p (unread k) ∷ h) = named h
named (frame p (says a) ∷ h) = pick (among (whose p a) (named h)) (named h) (whose p a ∷ named h)
named (passed s ∷ h) = named h
named (lost p ∷ h) = named h

abbrev pub passing : (Ident → Bool) → List Ident → ℕ
passing g [] = 0
passing g (w ∷ l) = one (g w) + passing g l

-- Where `before` is the latest of each identity, and `names` are those that were named

-- how many neighbours pass g
unfoldable pub count_by : (Ident → Option Latest) → List Ident → (Ident → Bool) → ℕ
count_by before names g = passing (λ w. both (g w) (in_force (before w))) names

-- the answer to what is heard on port p, with n ports: R2, then the reader's refusal, then N7
unfoldable pub answer_by : ℕ → (Ident → Option Latest) → List Ident → ℕ → Heard → Answered
answer_by n before names p (unread k) = pick (ltb p n) (Err k) (Err NoPort)
answer_by n before names p (says a) =
    pick (ltb p n) (answer_to (eqb a.seconds 0) (in_force (before (whose p a))) (room n (count_by before names) (whose p a))) (Err NoPort)

-- what is heard on port p changes the latest of its own identity, by its answer, and no other
unfoldable pub hearing : ℕ → Heard → Answered → Ident → Option Latest → Option Latest
hearing p (unread k) r w old = old
hearing p (says a) r w old = pick (same w (whose p a)) (on_answer r a old) old

-- a lost link on port p ends what was said on it
abbrev pub losing : ℕ → Ident → Option Latest → Option Latest
losing p w old = pick (eqb w.port p) none old

-- What the history says

-- the latest recorded announcement of w, if no goodbye of it and no lost link on its port came since
unfoldable pub latest : ℕ → History → Ident → Option Latest
latest n [] w = none
latest n (frame p x ∷ h) w = hearing p x (answer_by n (latest n h) (named h) p x) w (latest n h w)
latest n (passed s ∷ h) w = older s (latest n h w)
latest n (lost p ∷ h) w = losing p w (latest n h w)

-- w is a neighbour after h
unfoldable pub present : ℕ → History → Ident → Bool
present n h w = in_force (latest n h w)

-- how many neighbours after h pass a test
unfoldable pub count_neighbours : ℕ → History → (Ident → Bool) → ℕ
count_neighbours n h = count_by (latest n h) (named h)

-- how many neighbours port q holds after h
unfoldable pub held : ℕ → History → ℕ → ℕ
held n h q = count_neighbours n h (port_is q)

-- how many of these are of chassis c (N13)
unfoldable pub held_of : ℕ → History → ℕ → Id → ℕ
held_of n h q c = count_neighbours n h (chassis_is q c)

-- the answer to what is heard on port p after h
unfoldable pub answer : ℕ → History → ℕ → Heard → Answered
answer n h = answer_by n (latest n h) (named h)
