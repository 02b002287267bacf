-- Laws of the table place by place: a place put back, a change at one place, every place in turn.
-- They hold for any state, fit or not.
use Prim.Native.Nat.{ℕ, ◌+◌}
use mathlib.Core.Path.{◌≡◌, refl, ap, sym, ◌∙◌}
use mathlib.Core.List.{List, ◌++◌}
use native.Mathlib.Numerals.{add-one}
use lib.ListN.{get_or, set, take, drop, take-append-drop}
use lib.Seq.{set-get_or, drop-drop}
use Rattle.numbers.specs.declared.Sender.{Sender}
use Rattle.place.specs.State.{Place, State, no_sender, state, at, put, change_at, each}

-- the octets of a place put back where they were
body_back : (a n : ℕ) (l : List ℕ) → take a l ++ (take n (drop a l) ++ drop (a + n) l) ≡ l
body_back a n l =
    ap (λ (x : List ℕ). take a l ++ (take n (drop a l) ++ x)) (sym (drop-drop n a l))
    ∙ ap (λ (x : List ℕ). take a l ++ x) (take-append-drop n (drop a l))
    ∙ take-append-drop a l

-- the sender of a place put back
sender-back : (l : List Sender) (k : ℕ) → set l k (record { octets = (get_or l k no_sender).octets }) ≡ l
sender-back l k = set-get_or l k no_sender

-- a place put back with other seconds
module _ (s : State) (k : ℕ) where
  pub put-seconds : (v : ℕ) → state (record { port = s.table.port; seconds = set s.table.seconds k v; length = s.table.length; sender = s.table.sender }) s.buf
      ≡ put s k (record { port = (at s k).port; seconds = v; len = (at s k).len; sender = (at s k).sender; body = (at s k).body })
  unfolding put at
  put-seconds v = simp (set-get_or, sender-back, body_back)

-- a change, by what g makes of place k
module _ (g : Place → Place) (k : ℕ) (s : State) where
  pub change-puts : {x : Place} {r : State} → r ≡ put s k x → g (at s k) ≡ x → r ≡ change_at g k s
  unfolding change_at
  change-puts e d = e ∙ sym (ap (put s k) d)

-- every place in turn
module _ (g : Place → Place) where
  pub each_none : (s : State) → each g 0 s ≡ s
  unfolding each
  each_none s = refl

  pub each_more : (i : ℕ) (s : State) {r t : State} → t ≡ change_at g i r → r ≡ each g i s → t ≡ each g (i + 1) s
  unfolding each
  each_more i s e d = e ∙ ap (change_at g i) d ∙ rw add-one
