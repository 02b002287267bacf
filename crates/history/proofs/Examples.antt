-- The run cases (B13), a loud chassis (B25), either order (B26) and a neighbour from two sources, computed twice: what the history answers and holds by its
-- rules alone, and what the model's table does. That the two agree on every history is `demand3`; these show that they say what B13, B25 and B26 say.
use Prim.Native.Nat.{ℕ, zero, suc, ◌+◌, ◌-◌, ◌/◌, ◌<◌}
use mathlib.Core.Path.{◌≡◌, refl}
use mathlib.Core.Bool.{true, false}
use mathlib.Core.List.{List, [], ◌∷◌, ◌++◌}
use mathlib.Core.Option.{none, some}
use native.Mathlib.Omega.{arith}
use lib.ListN.{get_or, drop, replicate}
use Rattle.std.specs.Prelude.{Ok, Err}
use Rattle.tally.specs.Counts.{sum}
use Rattle.refusal.specs.declared.Refusal.TheVariants.{PortFull, CommonTaken, ChassisLoud}
use Rattle.octets.specs.Address.{same_octets}
use Rattle.ids.specs.Id.{id, same_id}
use Rattle.rules.specs.Identity.{same}
use Rattle.rules.specs.Events.{Announcement, Heard, says, frame, passed, History, whose}
use Rattle.rules.specs.Shares.{beyond, share, room}
use Rattle.rules.specs.Answers.{Answered}
use Rattle.rules.specs.declared.Reply.TheVariants.{Recorded, Refreshed, Gone, UnknownGoodbye}
use Rattle.rules.specs.Model.{Places, is_some, lookup, tick, swap, holds_in, holds_of, reply, after_frame, run}
use Rattle.rules.specs.EitherOrder.{AsksCommon, FreesCommon, LastPlace, FreedPlace}
use Rattle.history.specs.Past.{count_by, answer_by, hearing, latest, present, count_neighbours, held, answer}

-- the bench has two halves of so many ports, however many a table is built for
abbrev half : ℕ
half = 5

abbrev bench-ports : ℕ
bench-ports = half + half

-- an address that ends in k
abbrev address : ℕ → List ℕ
address k = 2 ∷ 0 ∷ 0 ∷ 0 ∷ 0 ∷ k ∷ []

-- switches whose agents differ in port ID: agent k of switch c announces itself with some seconds, from a source that ends in j
abbrev announced : ℕ → ℕ → ℕ → ℕ → Announcement
announced j c k seconds = record { chassis = id 4 (address c); port_id = id 7 (k ∷ []); seconds = seconds; octets = k ∷ seconds ∷ []; sender = address j }

-- agents 1 to 3 are of one switch, 4 to 6 of a second, 7 of a third (N13)
abbrev agent_from : ℕ → ℕ → ℕ → Announcement
agent_from j k seconds = announced j ((k + 2) / 3) k seconds

abbrev agent : ℕ → ℕ → Announcement
agent k seconds = agent_from k k seconds

abbrev hello : ℕ → Heard
hello k = says (agent k 120)

abbrev goodbye : ℕ → Heard
goodbye k = says (agent k 0)

-- agents 1 to m announced themselves on port p
abbrev first : ℕ → ℕ → History
first p zero = []
first p (suc m) = frame p (hello (suc m)) ∷ first p m

-- the ports below k hold six each
abbrev sixes : ℕ → History
sixes zero = []
sixes (suc k) = first k 6 ++ sixes k

-- the first half of the ports hold six each, and the next port holds two
abbrev bench : History
bench = first half 2 ++ sixes half

-- the answers to frames that come one after the other after h
abbrev answers_to : ℕ → History → List (ℕ × Heard) → List Answered
answers_to n h [] = []
answers_to n h ((p, x) ∷ l) = answer n h p x ∷ answers_to n (frame p x ∷ h) l

-- the same, asked of the model's table
abbrev replies_to : ℕ → Places → List (ℕ × Heard) → List Answered
replies_to n t [] = []
replies_to n t ((p, x) ∷ l) = reply n p x t ∷ replies_to n (after_frame n p x t) l

-- Shares

-- what the ports below k hold by a count, from the highest down
abbrev each_below : (ℕ → ℕ) → ℕ → List ℕ
each_below count zero = []
each_below count (suc k) = count k ∷ each_below count k

abbrev held-expected : List ℕ
held-expected = replicate (half - 1) 0 ++ (2 ∷ replicate half 6)

pub bench-held : each_below (held bench-ports bench) bench-ports ≡ held-expected
unfolding held count_neighbours count_by latest hearing answer_by room share beyond sum same same_id same_octets
bench-held = refl

pub bench-holds : each_below (holds_in (run bench-ports bench)) bench-ports ≡ held-expected
unfolding after_frame reply swap room share beyond sum same same_id same_octets
bench-holds = refl

-- a seventh on port 0, a third on the port that holds two, two new ones and a third on the port behind it, a goodbye on port 0, then that third
abbrev run-frames : List (ℕ × Heard)
run-frames = (0, hello 7) ∷ (half, hello 3) ∷ (suc half, hello 1) ∷ (suc half, hello 2) ∷ (suc half, hello 3) ∷ (0, goodbye 1) ∷ (half, hello 3) ∷ []

abbrev run-expected : List Answered
run-expected = Err PortFull ∷ Err CommonTaken ∷ Ok Recorded ∷ Ok Recorded ∷ Err CommonTaken ∷ Ok Gone ∷ Ok Recorded ∷ []

pub run-answers : answers_to bench-ports bench run-frames ≡ run-expected
unfolding answer count_neighbours count_by latest hearing answer_by room share beyond sum same same_id same_octets
run-answers = refl

pub run-replies : replies_to bench-ports (run bench-ports bench) run-frames ≡ run-expected
unfolding after_frame reply swap room share beyond sum same same_id same_octets
run-replies = refl

-- A loud chassis, from a Start on

abbrev of_switch : ℕ → ℕ → Heard
of_switch c k = says (announced k c k 120)

-- three agents of switch c on port p
abbrev three : ℕ → ℕ → List (ℕ × Heard)
three p c = (p, of_switch c 1) ∷ (p, of_switch c 2) ∷ (p, of_switch c 3) ∷ []

abbrev loud-frames : List (ℕ × Heard)
loud-frames =
    three 0 1 ++ ((0, of_switch 1 4) ∷ (0, of_switch 1 1) ∷ (0, says (announced 4 1 4 0)) ∷ (1, of_switch 1 4) ∷ [])
    ++ three 0 2 ++ ((0, of_switch 1 4) ∷ (0, of_switch 2 4) ∷ (0, of_switch 3 1) ∷ (0, says (announced 2 1 2 0)) ∷ (0, of_switch 1 4) ∷ [])

abbrev loud-expected : List Answered
loud-expected =
    replicate 3 (Ok Recorded) ++ (Err ChassisLoud ∷ Ok Refreshed ∷ Ok UnknownGoodbye ∷ Ok Recorded ∷ [])
    ++ replicate 3 (Ok Recorded) ++ (Err ChassisLoud ∷ Err ChassisLoud ∷ Err PortFull ∷ Ok Gone ∷ Ok Recorded ∷ [])

pub loud-answers : answers_to bench-ports [] loud-frames ≡ loud-expected
unfolding answer count_neighbours count_by latest hearing answer_by room share beyond sum same same_id same_octets
loud-answers = refl

pub loud-replies : replies_to bench-ports (run bench-ports []) loud-frames ≡ loud-expected
unfolding after_frame reply swap room share beyond sum same same_id same_octets
loud-replies = refl

-- Time: with 120 seconds left 119 pass, then 1 more

abbrev aged : History
aged = passed 119 ∷ first 0 1

pub one_left : latest bench-ports aged (whose 0 (agent 1 120)) ≡ some (record { said = agent 1 120; since = 119 })
unfolding latest hearing answer_by count_by room share beyond sum same same_id same_octets
one_left = refl

pub one-left-kept : get_or (run bench-ports aged) 0 none ≡ some (record { who = whose 0 (agent 1 120); left = 1; octets = (agent 1 120).octets; sender = address 1 })
unfolding after_frame reply tick room share beyond sum same same_id same_octets
one-left-kept = refl

pub then-gone : present bench-ports (passed 1 ∷ aged) (whose 0 (agent 1 120)) ≡ false
unfolding present latest hearing answer_by count_by room share beyond sum same same_id same_octets
then-gone = refl

pub then-free : run bench-ports (passed 1 ∷ aged) ≡ run bench-ports []
unfolding after_frame reply tick room share beyond sum same same_id same_octets
then-free = refl

-- Senders: one neighbour from two sources in turn is one record, and the second is its sender; a goodbye from a third frees its place

abbrev two-sources : History
two-sources = frame 0 (says (agent_from 2 1 120)) ∷ first 0 1

pub second-said : latest bench-ports two-sources (whose 0 (agent 1 120)) ≡ some (record { said = agent_from 2 1 120; since = 0 })
unfolding latest hearing answer_by count_by room share beyond sum same same_id same_octets
second-said = refl

pub second-sender : run bench-ports two-sources
    ≡ some (record { who = whose 0 (agent 1 120); left = 120; octets = (agent 1 120).octets; sender = address 2 }) ∷ drop 1 (run bench-ports [])
unfolding after_frame reply swap room share beyond sum same same_id same_octets
second-sender = refl

pub third-gone : present bench-ports (frame 0 (says (agent_from 3 1 0)) ∷ two-sources) (whose 0 (agent 1 120)) ≡ false
unfolding present latest hearing answer_by count_by room share beyond sum same same_id same_octets
third-gone = refl

pub third-frees : run bench-ports (frame 0 (says (agent_from 3 1 0)) ∷ two-sources) ≡ run bench-ports []
unfolding after_frame reply swap room share beyond sum same same_id same_octets
third-frees = refl

-- Either order (B26): what two frames on different ports get in the one order, and in the other

abbrev answers_both : History → (ℕ × Heard) → (ℕ × Heard) → List (List Answered)
answers_both h x y = answers_to bench-ports h (x ∷ y ∷ []) ∷ answers_to bench-ports h (y ∷ x ∷ []) ∷ []

abbrev replies_both : History → (ℕ × Heard) → (ℕ × Heard) → List (List Answered)
replies_both h x y = replies_to bench-ports (run bench-ports h) (x ∷ y ∷ []) ∷ replies_to bench-ports (run bench-ports h) (y ∷ x ∷ []) ∷ []

-- one common place is left, and the two ports that hold two ask for it: whoever is first gets it
abbrev one-place-left : History
one-place-left = first (suc half) 2 ++ first half 2 ++ first (half - 1) 5 ++ sixes (half - 1)

abbrev last-expected : List (List Answered)
last-expected = (Ok Recorded ∷ Err CommonTaken ∷ []) ∷ (Ok Recorded ∷ Err CommonTaken ∷ []) ∷ []

pub last-answers : answers_both one-place-left (half, hello 3) (suc half, hello 3) ≡ last-expected
unfolding answer count_neighbours count_by latest hearing answer_by room share beyond sum same same_id same_octets
last-answers = refl

pub last-replies : replies_both one-place-left (half, hello 3) (suc half, hello 3) ≡ last-expected
unfolding after_frame reply swap room share beyond sum same same_id same_octets
last-replies = refl

-- so it is (a) of E2
third-asks : (t : Places) (p : ℕ) → p < bench-ports → lookup (whose p (agent 3 120)) t ≡ none → holds_in t p ≡ 2 → holds_of t p (agent 3 120).chassis ≡ 2
    → AsksCommon bench-ports t p (hello 3)
third-asks t p l e two c =
    record { asks = record { port = l; unknown = e; lives = omega arith; quiet = omega (arith, c) }; two = omega (arith, two); five = omega (arith, two) }

pub last-place : LastPlace bench-ports (run bench-ports one-place-left) half (hello 3) (suc half) (hello 3)
unfolding after_frame reply room share beyond sum same same_id same_octets
last-place =
    record {
      one_left = refl;
      x_asks = third-asks (run bench-ports one-place-left) half (omega arith) refl refl refl;
      y_asks = third-asks (run bench-ports one-place-left) (suc half) (omega arith) refl refl refl;
    }

-- none is left, and a goodbye on a port that holds six frees one before a port that holds two asks for it, or behind
abbrev freed-expected : List (List Answered)
freed-expected = (Ok Gone ∷ Ok Recorded ∷ []) ∷ (Err CommonTaken ∷ Ok Gone ∷ []) ∷ []

pub freed-answers : answers_both bench (0, goodbye 1) (half, hello 3) ≡ freed-expected
unfolding answer count_neighbours count_by latest hearing answer_by room share beyond sum same same_id same_octets
freed-answers = refl

pub freed-replies : replies_both bench (0, goodbye 1) (half, hello 3) ≡ freed-expected
unfolding after_frame reply swap room share beyond sum same same_id same_octets
freed-replies = refl

-- so it is (b) of E2
first-leaves : (t : Places) → is_some (lookup (whose 0 (agent 1 0)) t) ≡ true → holds_in t 0 ≡ 6 → FreesCommon bench-ports t 0 (goodbye 1)
first-leaves t k six = record { leaves = record { port = omega arith; known = k; goodbye = refl }; three = omega (arith, six) }

pub freed-place : FreedPlace bench-ports (run bench-ports bench) 0 (goodbye 1) half (hello 3)
unfolding after_frame reply room share beyond sum same same_id same_octets
freed-place =
    record {
      none_left = refl;
      frees = first-leaves (run bench-ports bench) refl refl;
      asks = third-asks (run bench-ports bench) half (omega arith) refl refl refl;
    }

-- the same goodbye, and a port that holds one: both orders answer alike, and leave the new record in another place
abbrev with-one : History
with-one = first (suc half) 1 ++ bench

abbrev sure-expected : List (List Answered)
sure-expected = (Ok Gone ∷ Ok Recorded ∷ []) ∷ (Ok Recorded ∷ Ok Gone ∷ []) ∷ []

pub sure-answers : answers_both with-one (0, goodbye 1) (suc half, hello 2) ≡ sure-expected
unfolding answer count_neighbours count_by latest hearing answer_by room share beyond sum same same_id same_octets
sure-answers = refl

pub sure-replies : replies_both with-one (0, goodbye 1) (suc half, hello 2) ≡ sure-expected
unfolding after_frame reply swap room share beyond sum same same_id same_octets
sure-replies = refl

pub other_place : (get_or (run bench-ports (frame (suc half) (hello 2) ∷ frame 0 (goodbye 1) ∷ with-one)) 0 none
    ≡ some (record { who = whose (suc half) (agent 2 120); left = 120; octets = (agent 2 120).octets; sender = address 2 }))
    × (get_or (run bench-ports (frame 0 (goodbye 1) ∷ frame (suc half) (hello 2) ∷ with-one)) 0 none ≡ none)
unfolding after_frame reply swap room share beyond sum same same_id same_octets
other_place = (refl, refl)

-- where the order mattered, what comes next in one order may differ too: behind (b), a third on a port that holds two
abbrev two-more : History
two-more = first (suc half) 2 ++ bench

pub goes_on : (replies_to bench-ports (run bench-ports two-more) ((0, goodbye 1) ∷ (half, hello 3) ∷ (suc half, hello 3) ∷ []) ≡ Ok Gone ∷ Ok Recorded ∷ Err CommonTaken ∷ [])
    × (replies_to bench-ports (run bench-ports two-more) ((half, hello 3) ∷ (0, goodbye 1) ∷ (suc half, hello 3) ∷ []) ≡ Err CommonTaken ∷ Ok Gone ∷ Ok Recorded ∷ [])
unfolding after_frame reply swap room share beyond sum same same_id same_octets
goes_on = (refl, refl)

-- and it ends where the one that was refused is heard again and a place is left: the one table refreshes it, the other records it
pub comes-together : (replies_to bench-ports (run bench-ports bench) ((0, goodbye 1) ∷ (half, hello 3) ∷ (half, hello 3) ∷ []) ≡ Ok Gone ∷ Ok Recorded ∷ Ok Refreshed ∷ [])
    × (replies_to bench-ports (run bench-ports bench) ((half, hello 3) ∷ (0, goodbye 1) ∷ (half, hello 3) ∷ []) ≡ Err CommonTaken ∷ Ok Gone ∷ Ok Recorded ∷ [])
unfolding after_frame reply swap room share beyond sum same same_id same_octets
comes-together = (refl, refl)
