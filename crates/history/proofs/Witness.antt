-- Every sequence of calls is a run that the contracts allow, and there is one for any calls: so what Runs.antt says of runs is said of something.
-- Each call is given a result and octets, and its contract is shown to allow them.
use Prim.{tt}
use Prim.Native.Nat.{ℕ}
use denote.Ref.{Bor, MutBor}
use mathlib.Core.Path.{◌≡◌, refl, ap}
use mathlib.Core.Bool.{Bool, true, false}
use mathlib.Core.List.{List, [], ◌∷◌}
use borrow.Author.Tests.{ltb-true, ltb-false}
use lib.Dec.{ltb}
use lib.ListN.{length, replicate, length-replicate}
use Rattle.refusal.specs.declared.Refusal.TheVariants.{NoPort}
use Rattle.rules.specs.Events as event
use Rattle.rules.specs.Events.{History}
use Rattle.numbers.specs.Sizes.{ports, places}
use Rattle.place.specs.State.{State, octets, each, empty}
use Rattle.freeing.specs.Changes.{aged, lost}
use Rattle.freeing.specs.Calls.{refused_outcome, state_after, started, passed, link_lost}
use Rattle.hearing.specs.Frame.{heard_of, state_told, heard}
use Rattle.freeing.proofs.CallLaws.{done, start-done, passed-done, lost-port, lost-done}
use Rattle.hearing.proofs.ReplyLaws.{hears-exactly}
use Rattle.history.specs.Calls.{Called, begun, frame, waited, unplugged}
use Rattle.history.proofs.CallsLaws.{always-fit}
use Rattle.history.proofs.Runs.{Ran, ran-start, ran-frame, ran-passed, ran-lost}

-- octets that are lent, each in a block of its own: the buffer, and the frame
abbrev lent : List ℕ → MutBor (List ℕ)
lent b = record { ref_ptr = (0, 0); ghost_name = 0; now = b }

abbrev shown : List ℕ → Bor (List ℕ)
shown b = record { ref_ptr = (1, 0); now = b }

ends : {s s' : State} {h : History} → s ≡ s' → Ran s h → Ran s' h
ends e c = rw (← e) c

-- `link_lost` after a run: done, or refused for a port that there is not
loses : {s : State} {h : History} → Called s h → Ran s h → (p : ℕ) → Ran (state_after (link_lost p s)) (event.lost p ∷ h)
loses {s} {h} c ran p = go (ltb p ports) refl
  where
    go : (b : Bool) → ltb p ports ≡ b → Ran (state_after (link_lost p s)) (event.lost p ∷ h)
    go true e =
        let s' = each (lost p) places s in
        let post = lost-done s p (always-fit c) (ltb-true p ports e) refl in
        ends (ap state_after post.exact) (ran-lost ([], tt) (s.table, (lent s.buf, (p, tt))) (done s'.table) (s.table, (lent s'.buf, (p, tt))) ran post)
    go false e =
        let post = lost-port s p (always-fit c) (ltb-false p ports e) refl in
        ends (ap state_after post.exact) (ran-lost ([], tt) (s.table, (lent s.buf, (p, tt))) (refused_outcome s.table NoPort) (s.table, (lent s.buf, (p, tt))) ran post)

pub called-ran : {s : State} {h : History} → Called s h → Ran s h
called-ran (begun s l) =
    let post = start-done s l refl refl in
    ends (ap state_after post.exact)
    (ran-start ([], tt) (s.table, (lent s.buf, tt)) (done empty.table) (s.table, (lent (replicate (length s.buf) 0), tt)) l post)
called-ran (frame {s} {h} c p f) =
    let t = heard p f s in
    ran-frame ([], ([], tt)) (s.table, (lent s.buf, (p, (shown f, tt)))) t.outcome (s.table, (lent t.buf, (p, (shown f, tt)))) (called-ran c) (hears-exactly p f s refl)
called-ran (waited {s} {h} c n) =
    let s' = each (aged n) places s in
    let post = passed-done s n (always-fit c) refl in
    ends (ap state_after post.exact) (ran-passed ([], tt) (s.table, (lent s.buf, (n, tt))) (done s'.table) (s.table, (lent s'.buf, (n, tt))) (called-ran c) post)
called-ran (unplugged {s} {h} c p) = loses c (called-ran c) p

-- Any calls after a Start, newest first

pub data Call : Type 0 where
  frame_on : ℕ → List ℕ → Call
  wait : ℕ → Call
  unplug : ℕ → Call

abbrev pub history_of : List Call → History
history_of [] = []
history_of (frame_on p f ∷ l) = event.frame p (heard_of f) ∷ history_of l
history_of (wait n ∷ l) = event.passed n ∷ history_of l
history_of (unplug p ∷ l) = event.lost p ∷ history_of l

all-called : (l : List Call) → (s : State) × Called s (history_of l)
all-called [] = (state_after (started empty), begun empty (length-replicate {A = ℕ} octets 0))
all-called (frame_on p f ∷ l) = let c = all-called l in (state_told (heard p f c.0), frame c.1 p f)
all-called (wait n ∷ l) = let c = all-called l in (state_after (passed n c.0), waited c.1 n)
all-called (unplug p ∷ l) = let c = all-called l in (state_after (link_lost p c.0), unplugged c.1 p)

pub any-calls : (l : List Call) → (s : State) × Ran s (history_of l)
any-calls l = let c = all-called l in (c.0, called-ran c.1)
