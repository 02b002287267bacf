-- Writing places: what is put at place k is there, every other place is as it was, and all lengths stay.
-- `each-law` says the same of a change of every place by itself. All of it is over any number n of places.
use Prim.Native.Nat.{ℕ, zero, suc, ◌+◌, ◌-◌, ◌*◌, ◌≤◌, ◌<◌}
use mathlib.Core.Path.{◌≡◌, refl, sym, ap, ◌∙◌}
use mathlib.Core.Logic.{◌≢◌, ◌⊎◌, inl, inr, ⊎_elim}
use mathlib.Core.List.{List, ◌++◌, append_assoc}
use native.Mathlib.Decide.{dec_lt}
use native.Mathlib.Nat.{eq-or-lt_of_le, le_of_suc-le-suc, not-suc-le-zero}
use native.Mathlib.Omega.{arith}
use lib.ListN.{length, take, drop, length-set, length-append, length-drop, take-append-drop}
use lib.Seq.{get_or-set_same, get_or-set_other, drop-append-le, take-append-le, drop-drop, length-take-le, take_at, drop_at}
use Rattle.place.specs.State.{Place, State, Sized, size, no_sender, at, put, change_at, each}

-- Octets over octets

-- l with y in the place of the n octets from a on
unfoldable over : List ℕ → ℕ → ℕ → List ℕ → List ℕ
over l a n y = take a l ++ (y ++ drop (a + n) l)

module _ (l y : List ℕ) (a n : ℕ) (fits : a + n ≤ length l) (long : length y ≡ n) where
  head-long : length (take a l) ≡ a
  head-long = length-take-le a l (omega arith)

  over-long : length (over l a n y) ≡ length l
  unfolding over
  over-long = simp (length-append, length-drop) (omega (arith, head-long))

  over-same : take n (drop a (over l a n y)) ≡ y
  unfolding over
  over-same = rw (drop_at (take a l) (y ++ drop (a + n) l) a head-long, take_at y (drop (a + n) l) n long)

  -- what lies before a is the same whatever stands from a on
  over-before : (c m : ℕ) → c + m ≤ a → take m (drop c (over l a n y)) ≡ take m (drop c l)
  unfolding over
  over-before c m h = front (y ++ drop (a + n) l) ∙ sym (front (drop a l)) ∙ ap (λ (x : List ℕ). take m (drop c x)) (take-append-drop a l)
    where
      front : (r : List ℕ) → take m (drop c (take a l ++ r)) ≡ take m (drop c (take a l))
      front r =
          ap (take m) (drop-append-le c (take a l) r (omega (arith, head-long)))
          ∙ take-append-le m (drop c (take a l)) r (omega (arith, head-long, length-drop c (take a l)))

  past : drop (a + n) (over l a n y) ≡ drop (a + n) l
  unfolding over
  past =
      ap (drop (a + n)) (sym (append_assoc (take a l) y (drop (a + n) l)))
      ∙ drop_at (take a l ++ y) (drop (a + n) l) (a + n) (length-append (take a l) y ∙ omega (arith, head-long))

  over-after : (c : ℕ) → a + n ≤ c → drop c (over l a n y) ≡ drop c l
  over-after c h =
      let e : c ≡ a + n + (c - (a + n)) = omega arith in
      rw (e, ← drop-drop (c - (a + n)) (a + n) (over l a n y), past) (drop-drop (c - (a + n)) (a + n) l)

-- One place

apart : (j k : ℕ) → j ≢ k → (j < k) ⊎ (k < j)
apart j k d = elim (dec_lt j k) [ yes a ↦ inl a | no f ↦ inr (omega arith) ]

-- the octets of a place there is
pub body-long : (n : ℕ) (s : State) → Sized n s → (k : ℕ) → k < n → length (at s k).body ≡ size
unfolding at
body-long n s z k h = length-take-le size (drop (k * size) s.buf) (omega (arith, z.buf_long, length-drop (k * size) s.buf))

module _ (n : ℕ) (s : State) (z : Sized n s) (k : ℕ) (h : k < n) (p : Place) (long : length p.body ≡ size) where
  inside : k * size + size ≤ length s.buf
  inside = omega (arith, z.buf_long)

  pub put-sized : Sized n (put s k p)
  unfolding put over
  put-sized =
      record {
        ports_long = length-set s.table.port k p.port ∙ z.ports_long;
        seconds_long = length-set s.table.seconds k p.seconds ∙ z.seconds_long;
        lengths_long = length-set s.table.length k p.len ∙ z.lengths_long;
        senders_long = length-set s.table.sender k (record { octets = p.sender }) ∙ z.senders_long;
        buf_long = over-long s.buf p.body (k * size) size inside long ∙ z.buf_long;
      }

  pub at-put-same : at (put s k p) k ≡ p
  unfolding put at over
  at-put-same =
      let a = get_or-set_same s.table.port k p.port 0 (omega (arith, z.ports_long)) in
      let b = get_or-set_same s.table.seconds k p.seconds 0 (omega (arith, z.seconds_long)) in
      let c = get_or-set_same s.table.length k p.len 0 (omega (arith, z.lengths_long)) in
      let f = get_or-set_same s.table.sender k (record { octets = p.sender }) no_sender (omega (arith, z.senders_long)) in
      let d = over-same s.buf p.body (k * size) size inside long in
      λ i. record { port = a i; seconds = b i; len = c i; sender = (f i).octets; body = d i }

  pub at-put-other : (j : ℕ) → j ≢ k → at (put s k p) j ≡ at s j
  unfolding put at over
  at-put-other j d =
      let a = get_or-set_other s.table.port k j p.port 0 d in
      let b = get_or-set_other s.table.seconds k j p.seconds 0 d in
      let c = get_or-set_other s.table.length k j p.len 0 d in
      let f = get_or-set_other s.table.sender k j (record { octets = p.sender }) no_sender d in
      let e = octets-other in
      λ i. record { port = a i; seconds = b i; len = c i; sender = (f i).octets; body = e i }
    where
      octets-other : take size (drop (j * size) (over s.buf (k * size) size p.body)) ≡ take size (drop (j * size) s.buf)
      octets-other =
          ⊎_elim
          (λ (l : j < k). over-before s.buf p.body (k * size) size inside long (j * size) size (omega arith))
          (λ (l : k < j). ap (take size) (over-after s.buf p.body (k * size) size inside long (j * size) (omega arith)))
          (apart j k d)

-- Every place by itself

-- a change of a place that keeps the number of its octets
abbrev pub KeepsLong : (Place → Place) → Type 0
KeepsLong g = (x : Place) → length x.body ≡ size → length (g x).body ≡ size

-- t is s with the places below m changed by g
pub record Changed (n : ℕ) (g : Place → Place) (m : ℕ) (s t : State) : Type 0 where
  pub sized : Sized n t
  pub below : (k : ℕ) → k < m → at t k ≡ g (at s k)
  pub above : (k : ℕ) → m ≤ k → k < n → at t k ≡ at s k

module _ (n : ℕ) (s : State) (z : Sized n s) (g : Place → Place) (keeps : KeepsLong g) where
  -- one place more
  next : (m : ℕ) (t : State) → m < n → Changed n g m s t → Changed n g (suc m) s (change_at g m t)
  unfolding change_at
  next m t h c =
      let l = keeps (at t m) (body-long n t c.sized m h) in
      let here : at (put t m (g (at t m))) m ≡ g (at s m) = at-put-same n t c.sized m h (g (at t m)) l ∙ ap g (c.above m (omega arith) h) in
      record {
        sized = put-sized n t c.sized m h (g (at t m)) l;
        below = λ k b.
            ⊎_elim
            (λ (e : k ≡ m). rw e here)
            (λ (d : k < m). at-put-other n t c.sized m h (g (at t m)) l k (λ e. omega arith) ∙ c.below k d)
            (eq-or-lt_of_le (le_of_suc-le-suc b));
        above = λ k a b. at-put-other n t c.sized m h (g (at t m)) l k (λ e. omega arith) ∙ c.above k (omega arith) b;
      }

  pub each-law : (m : ℕ) → m ≤ n → Changed n g m s (each g m s)
  unfolding each
  each-law zero h = record { sized = z; below = λ k l. absurd (not-suc-le-zero l); above = λ k l r. refl }
  each-law (suc m) h = next m (each g m s) h (each-law m (omega arith))
