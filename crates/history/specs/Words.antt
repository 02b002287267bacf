-- Who is a neighbour, in the words of demand 3: the latest recorded announcement, what came since, and the time that is left.
-- What a frame was answered is taken from Past.antt; WordsLaws.antt shows that `latest` there computes all else.
use Rattle.std.specs.Prelude.{ℕ, ◌+◌, ◌<◌, ◌≡◌, ◌≢◌, [], ◌∷◌, ◌++◌, Ok, Err}
use Rattle.rules.specs.Identity.{Ident}
use Rattle.rules.specs.Events.{Announcement, unread, says, Event, frame, passed, lost, History, whose}
use Rattle.rules.specs.Answers.{Answered}
use Rattle.rules.specs.declared.Reply.TheVariants.{Recorded, Refreshed, Gone, UnknownGoodbye}
use Rattle.history.specs.Past.{answer}

-- the answer says that an announcement was recorded, first or repeat
abbrev pub Accepted : Answered → Type 0
Accepted (Ok Recorded) = Unit {0}
Accepted (Ok Refreshed) = Unit {0}
Accepted (Ok Gone) = ⊥
Accepted (Ok UnknownGoodbye) = ⊥
Accepted (Err k) = ⊥

-- the event e, coming after h, is no goodbye of w, no recorded announcement of w and no lost link on its port
abbrev pub Quiet : ℕ → Ident → Event → History → Type 0
Quiet n w (frame p (unread k)) h = Unit {0}
Quiet n w (frame p (says a)) h = w ≡ whose p a → (a.seconds ≢ 0) × ¬ Accepted (answer n h p (says a))
Quiet n w (passed s) h = Unit {0}
Quiet n w (lost q) h = w.port ≢ q

-- so are all events of `later`, coming after `before`
abbrev pub AllQuiet : ℕ → Ident → History → History → Type 0
AllQuiet n w [] before = Unit {0}
AllQuiet n w (e ∷ later) before = Quiet n w e (later ++ before) × AllQuiet n w later before

abbrev pub seconds_of : Event → ℕ
seconds_of (frame p x) = 0
seconds_of (passed s) = s
seconds_of (lost q) = 0

abbrev pub seconds_over : History → ℕ
seconds_over [] = 0
seconds_over (e ∷ h) = seconds_over h + seconds_of e

-- a is the latest recorded announcement of w in h (first or repeat); no goodbye of w and no lost link on its port came since
pub record Last (n : ℕ) (h : History) (w : Ident) (a : Announcement) (since : ℕ) : Type 0 where
  pub before : History
  pub later : History
  pub split : h ≡ later ++ (frame w.port (says a) ∷ before)
  pub own : whose w.port a ≡ w
  pub recorded : Accepted (answer n before w.port (says a))
  pub quiet : AllQuiet n w later (frame w.port (says a) ∷ before)
  pub passed_since : seconds_over later ≡ since

-- w is a neighbour after h: such an announcement, with time left
pub record Neighbour (n : ℕ) (h : History) (w : Ident) : Type 0 where
  pub said : Announcement
  pub since : ℕ
  pub last : Last n h w said since
  pub time_left : since < said.seconds
