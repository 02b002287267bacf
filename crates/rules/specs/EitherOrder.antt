-- Two frames on different ports, in either order: when both orders come to the same (E1), and exactly when they do not (E2).
-- One table takes x on port p and then y on port q, another with the same records takes y and then x (E5); what is held is counted before the two.
use Rattle.std.specs.Prelude.{ℕ, ◌+◌, ◌-◌, ◌*◌, ◌≤◌, ◌<◌, ◌≡◌, ◌≢◌, ◌⊎◌, Bool, true, false, [], ◌∷◌, Ok, Err}
use Rattle.std.proofs.Math.Option.{none}
use Rattle.tally.specs.Counts.{sum}
use Rattle.refusal.specs.declared.Refusal.TheVariants.{NoPort, CommonTaken}
use Rattle.rules.specs.Identity.{Ident, same}
use Rattle.rules.specs.Events.{Announcement, Heard, unread, says, Event, frame, History, whose}
use Rattle.rules.specs.declared.Reply.TheVariants.{Recorded, Gone}
use Rattle.rules.specs.Model.{Places, is_some, lookup, holds_in, holds_of, reply, after_frame, run}
use Rattle.rules.specs.Records.{records_in, SameRecords}

-- E1: "the same two answers and the same records, place numbers aside"
pub record Alike (n : ℕ) (t u : Places) (p : ℕ) (x : Heard) (q : ℕ) (y : Heard) : Type 0 where
  pub answer_x : reply n p x t ≡ reply n p x (after_frame n q y u)
  pub answer_y : reply n q y (after_frame n p x t) ≡ reply n q y u
  pub records : SameRecords (records_in (after_frame n q y (after_frame n p x t))) (records_in (after_frame n p x (after_frame n q y u)))

-- asking: a new one with time to live, for which 13 is not due; it is recorded, or refused for room
pub record Asking (n : ℕ) (t : Places) (p : ℕ) (a : Announcement) : Type 0 where
  pub port : p < n
  pub unknown : lookup (whose p a) t ≡ none
  pub lives : a.seconds ≢ 0
  pub quiet : holds_of t p a.chassis ≢ 3

-- leaving: the goodbye of a known one
pub record Leaving (n : ℕ) (t : Places) (p : ℕ) (a : Announcement) : Type 0 where
  pub port : p < n
  pub known : is_some (lookup (whose p a) t) ≡ true
  pub goodbye : a.seconds ≡ 0

-- what is heard says so; a frame that the reader refuses says nothing
abbrev pub Says : (Announcement → Type 0) → Heard → Type 0
Says P (unread k) = ⊥
Says P (says a) = P a

-- x asks for a common place: it is asking, on a port that holds two to five
pub record AsksCommon (n : ℕ) (t : Places) (p : ℕ) (x : Heard) : Type 0 where
  pub asks : Says (Asking n t p) x
  pub two : 2 ≤ holds_in t p
  pub five : holds_in t p ≤ 5

-- x frees a common place: it is leaving, on a port that holds three or more
pub record FreesCommon (n : ℕ) (t : Places) (p : ℕ) (x : Heard) : Type 0 where
  pub leaves : Says (Leaving n t p) x
  pub three : 3 ≤ holds_in t p

-- how many of the 2n common places are taken: what the ports hold beyond two
abbrev pub taken : ℕ → Places → ℕ
taken n t = sum (λ q. holds_in t q - 2) n

-- E2 (a): one common place is left, and both ask for it
pub record LastPlace (n : ℕ) (t : Places) (p : ℕ) (x : Heard) (q : ℕ) (y : Heard) : Type 0 where
  pub one_left : taken n t + 1 ≡ 2 * n
  pub x_asks : AsksCommon n t p x
  pub y_asks : AsksCommon n t q y

-- E2 (b): none is left, x frees one and y asks for one
pub record FreedPlace (n : ℕ) (t : Places) (p : ℕ) (x : Heard) (q : ℕ) (y : Heard) : Type 0 where
  pub none_left : taken n t ≡ 2 * n
  pub frees : FreesCommon n t p x
  pub asks : AsksCommon n t q y

-- the table has a record of who is heard on port p
abbrev pub has : ℕ → Heard → Places → Bool
has p (unread k) t = false
has p (says a) t = is_some (lookup (whose p a) t)

-- what (a) comes to: the frame that is first is recorded and the other one gets 8, and so the table knows the one and not the other
pub record FirstRecorded (n : ℕ) (t : Places) (p : ℕ) (x : Heard) (q : ℕ) (y : Heard) : Type 0 where
  pub first : reply n p x t ≡ Ok Recorded
  pub second : reply n q y (after_frame n p x t) ≡ Err CommonTaken
  pub first_known : has p x (after_frame n q y (after_frame n p x t)) ≡ true
  pub second_unknown : has q y (after_frame n q y (after_frame n p x t)) ≡ false

-- what (b) comes to: the goodbye is gone in both orders, and its identity unknown; behind it the other frame is recorded, and before it it gets 8 and stays unknown
pub record RecordedBehind (n : ℕ) (t : Places) (p : ℕ) (x : Heard) (q : ℕ) (y : Heard) : Type 0 where
  pub gone : reply n p x t ≡ Ok Gone
  pub gone_unknown : has p x (after_frame n q y (after_frame n p x t)) ≡ false
  pub behind : reply n q y (after_frame n p x t) ≡ Ok Recorded
  pub behind_known : has q y (after_frame n q y (after_frame n p x t)) ≡ true
  pub before : reply n q y t ≡ Err CommonTaken
  pub before_unknown : has q y (after_frame n p x (after_frame n q y t)) ≡ false
  pub gone_too : reply n p x (after_frame n q y t) ≡ Ok Gone
  pub gone_too_unknown : has p x (after_frame n p x (after_frame n q y t)) ≡ false

-- E2
pub data OrderMatters (n : ℕ) (t : Places) (p : ℕ) (x : Heard) (q : ℕ) (y : Heard) : Type 0 where
  asked_twice : LastPlace n t p x q y → OrderMatters n t p x q y
  freed_by_x : FreedPlace n t p x q y → OrderMatters n t p x q y
  freed_by_y : FreedPlace n t q y p x → OrderMatters n t p x q y

-- w is not who is heard
abbrev pub Other : Ident → ℕ → Heard → Type 0
Other w p (unread k) = Unit {0}
Other w p (says a) = same w (whose p a) ≡ false

-- E3: one of the two ports holds at most one record
abbrev pub OneAtMost : Places → ℕ → ℕ → Type 0
OneAtMost t p q = (holds_in t p ≤ 1) ⊎ (holds_in t q ≤ 1)

-- E4: x gets 2 in both orders and changes no place, and y is answered and kept as if it came alone
pub record AsIfAlone (n : ℕ) (t : Places) (p : ℕ) (x : Heard) (q : ℕ) (y : Heard) : Type 0 where
  pub answer_x : reply n p x t ≡ Err NoPort
  pub answer_x_too : reply n p x (after_frame n q y t) ≡ Err NoPort
  pub answer_y : reply n q y (after_frame n p x t) ≡ reply n q y t
  pub left : after_frame n q y (after_frame n p x t) ≡ after_frame n q y t
  pub left_too : after_frame n p x (after_frame n q y t) ≡ after_frame n q y t

-- E5: two histories, newest first, of which the one becomes the other where such pairs of frames change places
pub data OtherOrder (n : ℕ) : History → History → Type 0 where
  begun : OtherOrder n [] []
  also : (e : Event) {h h' : History} → OtherOrder n h h' → OtherOrder n (e ∷ h) (e ∷ h')
  swapped : (p : ℕ) (x : Heard) (q : ℕ) (y : Heard) {h h' : History} → p ≢ q → ¬ OrderMatters n (run n h) p x q y → OtherOrder n h h'
      → OtherOrder n (frame q y ∷ frame p x ∷ h) (frame p x ∷ frame q y ∷ h')
  further : {h h' h'' : History} → OtherOrder n h h' → OtherOrder n h' h'' → OtherOrder n h h''
