-- Laws of a table as octets: octets, taken as a table and written down again, are the same octets; and a table, written down and taken again, is the same table.
-- The first asks for right lengths and octets below 256, the second for arrays of their lengths and senders of six octets.
use Prim.Native.Nat.{ℕ, zero, suc, ◌+◌, ◌*◌, ◌/◌, ◌%◌, ◌<◌}
use mathlib.Core.Path.{◌≡◌, refl, sym, ap, ap₂, ◌∙◌}
use mathlib.Core.Bool.{Bool, true, false}
use mathlib.Core.List.{List, [], ◌∷◌, ◌++◌}
use native.Mathlib.Omega.{arith}
use mir.Syntax.{w8}
use mir.Val.{Fits}
use borrow.Author.Tests.{eqb-true}
use lib.ListN.{length, get_or, set, drop}
use lib.Seq.{ext_get_or, take_all, get_or-append-add, get_or-drop}
use lib.Dec.{eqb}
use Rattle.tally.specs.Tab.{tab}
use Rattle.tally.proofs.TestsLaws.{held}
use Rattle.tally.proofs.TabLaws.{length-tab, get_or-tab, tab-get_or, tab-same, filled_more}
use Rattle.octets.specs.Numbers.{pair_of, two_octets}
use Rattle.octets.specs.Address.{six_at}
use Rattle.octets.proofs.AddressLaws.{six-there}
use Rattle.whole.specs.Whole.{filled}
use Rattle.whole.proofs.WholeLaws.{filled-octet}
use Rattle.numbers.specs.Sizes.{places}
use Rattle.numbers.specs.declared.Sender.{Sender}
use Rattle.numbers.specs.declared.Table.{Table}
use Rattle.place.specs.State.{no_sender}
use Rattle.octet_table.specs.Lent.{Lent, lent, numbers_long, senders_len, lengths_right, lengths_ok, one_per_place, numbers_in, senders_in, table_in, number_octet, number_octets, sender_octet, sender_octets, lent_of, Puts}

-- as many ports as there are places
pub one_each : (o : List ℕ) → length o ≡ places → one_per_place o ≡ o
one_each o e = ap (λ (n : ℕ). tab n (λ i. get_or o i 0)) (sym e) ∙ tab-get_or o 0

-- One octet

pub high-octet : (l : List ℕ) (i : ℕ) → number_octet l (2 * i) ≡ get_or l i 0 / 256 % 256
high-octet l i =
    let d : 2 * i / 2 ≡ i = omega arith in
    let m : 2 * i % 2 ≡ 0 = omega arith in
    rw (d, m) refl

pub low-octet : (l : List ℕ) (i : ℕ) → number_octet l (2 * i + 1) ≡ get_or l i 0 % 256
low-octet l i =
    let d : (2 * i + 1) / 2 ≡ i = omega arith in
    let m : (2 * i + 1) % 2 ≡ 1 = omega arith in
    rw (d, m) refl

pub sender-octet : (l : List Sender) (i j : ℕ) {k : ℕ} → j < 6 → 6 * i + j ≡ k → sender_octet l k ≡ get_or (get_or l i no_sender).octets j 0
sender-octet l i j {k} h e =
    let d : k / 6 ≡ i = omega (arith, e) in
    let m : k % 6 ≡ j = omega (arith, e) in
    rw (d, m) refl

six-octet : (o : List ℕ) (at j : ℕ) → j < 6 → get_or (six_at o at) j 0 ≡ get_or o (at + j) 0
unfolding six_at
six-octet o at zero h = ap (λ (k : ℕ). get_or o k 0) (omega arith)
six-octet o at (suc zero) h = refl
six-octet o at (suc (suc zero)) h = refl
six-octet o at (suc (suc (suc zero))) h = refl
six-octet o at (suc (suc (suc (suc zero)))) h = refl
six-octet o at (suc (suc (suc (suc (suc zero))))) h = refl
six-octet o at (suc (suc (suc (suc (suc (suc j)))))) h = absurd (omega arith)

-- Octets, taken and written down again

module _ (o : List ℕ) where
  abbrev pub number : ℕ → ℕ
  number i = pair_of (get_or o (2 * i) 0) (get_or o (2 * i + 1) 0)

  module _ (fits : (i : ℕ) → Fits w8 (get_or o i 0)) where
    high-again : (i : ℕ) → number i / 256 % 256 ≡ get_or o (2 * i) 0
    high-again i = omega (arith, fits (2 * i), fits (2 * i + 1))

    low_again : (i : ℕ) → number i % 256 ≡ get_or o (2 * i + 1) 0
    low_again i = omega (arith, fits (2 * i), fits (2 * i + 1))

    number-again : (k : ℕ) → k < numbers_long → number_octet (numbers_in o) k ≡ get_or o k 0
    number-again k h =
        let half : get_or (numbers_in o) (k / 2) 0 ≡ number (k / 2) = get_or-tab places number (k / 2) 0 (omega arith) in
        ap (λ (n : ℕ). get_or (two_octets n) (k % 2) 0) half ∙ go (k % 2) refl
      where
        go : (m : ℕ) → k % 2 ≡ m → get_or (two_octets (number (k / 2))) m 0 ≡ get_or o k 0
        go zero e = high-again (k / 2) ∙ ap (λ (i : ℕ). get_or o i 0) (omega (arith, e))
        go (suc zero) e = low_again (k / 2) ∙ ap (λ (i : ℕ). get_or o i 0) (omega (arith, e))
        go (suc (suc m)) e = absurd (omega (arith, e))

    numbers-again : length o ≡ numbers_long → number_octets (numbers_in o) ≡ o
    numbers-again e =
        ext_get_or 0 (number_octets (numbers_in o)) o (length-tab numbers_long (number_octet (numbers_in o)) ∙ sym e)
        (λ i l. let h : i < numbers_long = omega (arith, length-tab numbers_long (number_octet (numbers_in o))) in get_or-tab numbers_long (number_octet (numbers_in o)) i 0 h ∙ number-again i h)

  abbrev sender_at : ℕ → Sender
  sender_at i = record { octets = six_at o (6 * i) }

  senders-again : length o ≡ senders_len → sender_octets (senders_in o) ≡ o
  senders-again e =
      ext_get_or 0 (sender_octets (senders_in o)) o (length-tab senders_len (sender_octet (senders_in o)) ∙ sym e)
      (λ k l.
      let h : k < senders_len = omega (arith, length-tab senders_len (sender_octet (senders_in o))) in
      get_or-tab senders_len (sender_octet (senders_in o)) k 0 h
      ∙ ap (λ (s : Sender). get_or s.octets (k % 6) 0) (get_or-tab places sender_at (k / 6) no_sender (omega arith))
      ∙ six-octet o (6 * (k / 6)) (k % 6) (omega arith)
      ∙ ap (λ (i : ℕ). get_or o i 0) (omega arith))

-- Octets that are brought to the full length mean the same

module _ (o : List ℕ) where
  pub full-ports : one_per_place (filled o places) ≡ one_per_place o
  full-ports = tab-same places (λ i. get_or o i 0) (λ i. get_or (filled o places) i 0) (λ i h. filled-octet o places i h)

  pub full-numbers : numbers_in (filled o numbers_long) ≡ numbers_in o
  full-numbers =
      tab-same places (number o) (number (filled o numbers_long))
      (λ i h. ap₂ pair_of (filled-octet o numbers_long (2 * i) (omega arith)) (filled-octet o numbers_long (2 * i + 1) (omega arith)))

  pub full-senders : senders_in (filled o senders_len) ≡ senders_in o
  unfolding six_at
  full-senders =
      tab-same places (sender_at o) (sender_at (filled o senders_len))
      (λ i h.
      let at : (k : ℕ) → k < 6 * i + 6 → get_or (filled o senders_len) k 0 ≡ get_or o k 0 = λ k b. filled-octet o senders_len k (omega arith) in
      rw (at (6 * i) (omega arith), at (6 * i + 1) (omega arith), at (6 * i + 2) (omega arith), at (6 * i + 3) (omega arith), at (6 * i + 4) (omega arith), at (6 * i + 5) (omega arith)) refl)

-- Numbers that were read low octet first, turned one after the other

abbrev pub turned : ℕ → ℕ
turned n = n % 256 * 256 + n / 256

abbrev pub low_first : List ℕ → ℕ → ℕ
low_first o i = pair_of (get_or o (2 * i + 1) 0) (get_or o (2 * i) 0)

-- the first n are done, and the next is as it was
next-stays : (f : ℕ → ℕ) (n : ℕ) (d : List ℕ) → get_or (tab n f ++ drop n d) n 0 ≡ get_or d n 0
next-stays f n d =
    let e : n ≡ length (tab n f) + 0 = omega (arith, length-tab n f) in
    let z : n + 0 ≡ n = omega arith in
    ap (λ (k : ℕ). get_or (tab n f ++ drop n d) k 0) e ∙ get_or-append-add (tab n f) (drop n d) 0 0 ∙ get_or-drop n d 0 0 ∙ ap (λ (k : ℕ). get_or d k 0) z

module _ (o d a : List ℕ) (i : ℕ) (h : i < places) (e : d ≡ tab places (low_first o)) (w : a ≡ tab i (number o) ++ drop i d) where
  pub turn-next : get_or a i 0 ≡ low_first o i
  turn-next = ap (λ (l : List ℕ). get_or l i 0) w ∙ next-stays (number o) i d ∙ ap (λ (l : List ℕ). get_or l i 0) e ∙ get_or-tab places (low_first o) i 0 h

  pub turn_more : ((k : ℕ) → Fits w8 (get_or o k 0)) → set a i (turned (get_or a i 0)) ≡ tab (i + 1) (number o) ++ drop (i + 1) d
  turn_more fits =
      let back : turned (low_first o i) ≡ number o i = omega (arith, fits (2 * i), fits (2 * i + 1)) in
      filled_more (number o) i d (omega (arith, ap (λ (l : List ℕ). length l) e ∙ length-tab places (low_first o))) w (ap turned turn-next ∙ back) refl

-- A table, written down and taken again

pub numbers-back : (l : List ℕ) → length l ≡ places → ((i : ℕ) → get_or l i 0 < 65536) → numbers_in (number_octets l) ≡ l
numbers-back l e small =
    let o = number_octets l in
    ext_get_or 0 (numbers_in o) l (length-tab places (number o) ∙ sym e)
    (λ i b.
    let h : i < places = omega (arith, length-tab places (number o)) in
    let hi = get_or-tab numbers_long (number_octet l) (2 * i) 0 (omega arith) ∙ high-octet l i in
    let lo = get_or-tab numbers_long (number_octet l) (2 * i + 1) 0 (omega arith) ∙ low-octet l i in
    get_or-tab places (number o) i 0 h ∙ ap₂ pair_of hi lo ∙ omega (arith, small i))

pub senders-back : (l : List Sender) → length l ≡ places → ((i : ℕ) → i < places → length (get_or l i no_sender).octets ≡ 6) → senders_in (sender_octets l) ≡ l
unfolding six_at
senders-back l e six =
    let o = sender_octets l in
    ext_get_or no_sender (senders_in o) l (length-tab places (sender_at o) ∙ sym e)
    (λ i b.
    let h : i < places = omega (arith, length-tab places (sender_at o)) in
    let x = (get_or l i no_sender).octets in
    let at : (j k : ℕ) → j < 6 → 6 * i + j ≡ k → get_or o k 0 ≡ get_or x j 0 = λ j k b q. get_or-tab senders_len (sender_octet l) k 0 (omega (arith, q)) ∙ sender-octet l i j b q in
    get_or-tab places (sender_at o) i no_sender h
    ∙ ap (λ (y : List ℕ). record { octets = y })
    (rw (at 0 (6 * i) (omega arith) (omega arith), at 1 (6 * i + 1) (omega arith) refl, at 2 (6 * i + 2) (omega arith) refl, at 3 (6 * i + 3) (omega arith) refl, at 4 (6 * i + 4) (omega arith) refl, at 5 (6 * i + 5) (omega arith) refl)
    (six-there x 0 (omega (arith, six i h)) ∙ take_all 6 x (omega (arith, six i h)))))

-- The whole

-- the four lengths, from the test and back to it
pub record Long (x : Lent) : Type 0 where
  pub ports : length x.ports ≡ places
  pub seconds : length x.seconds ≡ numbers_long
  pub lengths : length x.lengths ≡ numbers_long
  pub senders : length x.senders ≡ senders_len

pub long : (x : Lent) → lengths_ok x ≡ true → Long x
unfolding lengths_right
long x e =
    let h = held (eqb (length x.ports) places ∷ eqb (length x.seconds) numbers_long ∷ eqb (length x.lengths) numbers_long ∷ eqb (length x.senders) senders_len ∷ []) e in
    record {
      ports = eqb-true _ _ h.0;
      seconds = eqb-true _ _ h.1.0;
      lengths = eqb-true _ _ h.1.1.0;
      senders = eqb-true _ _ h.1.1.1.0;
    }

-- octets below 256, taken and written down again, are the same
pub again : (x : Lent) → lengths_ok x ≡ true → ((i : ℕ) → Fits w8 (get_or x.seconds i 0)) → ((i : ℕ) → Fits w8 (get_or x.lengths i 0)) → lent_of (table_in x) ≡ x
unfolding lent_of table_in
again x e f g =
    let h = long x e in
    let p = one_each (one_per_place x.ports) (length-tab places (λ i. get_or x.ports i 0)) ∙ one_each x.ports h.ports in
    let s = numbers-again x.seconds f h.seconds in
    let l = numbers-again x.lengths g h.lengths in
    let n = senders-again x.senders h.senders in
    λ i. record { ports = p i; seconds = s i; lengths = l i; senders = n i }

-- a table whose arrays have their lengths, numbers that fit in two octets and senders of six: written down and taken again, it is the same
pub back : (t : Table) → length t.port ≡ places → length t.seconds ≡ places → length t.length ≡ places → length t.sender ≡ places
    → ((i : ℕ) → get_or t.seconds i 0 < 65536) → ((i : ℕ) → get_or t.length i 0 < 65536) → ((i : ℕ) → i < places → length (get_or t.sender i no_sender).octets ≡ 6)
    → table_in (lent_of t) ≡ t
unfolding lent_of table_in
back t p s l n small short six =
    let a = one_each t.port p in
    let b = ap one_per_place a ∙ a in
    let c = numbers-back t.seconds s small in
    let d = numbers-back t.length l short in
    let e = senders-back t.sender n six in
    λ i. record { port = b i; seconds = c i; length = d i; sender = e i }

-- Slices x that hold y once a table was put into them

module _ (t : Table) (x : Lent) where
  pub put-there : (p s l n : List ℕ) → lengths_ok x ≡ true
      → (p ≡ one_per_place t.port) × (one_per_place p ≡ t.port)
      → (s ≡ number_octets t.seconds) × (numbers_in s ≡ t.seconds)
      → (l ≡ number_octets t.length) × (numbers_in l ≡ t.length)
      → (n ≡ sender_octets t.sender) × (senders_in n ≡ t.sender) → Puts t x (lent p s l n)
  unfolding lent_of table_in
  put-there p s l n e a b c d =
      let y : lent p s l n ≡ lent_of t = λ i. record { ports = a.0 i; seconds = b.0 i; lengths = c.0 i; senders = d.0 i } in
      record { exact = rw e y; means = λ e i. record { port = a.1 i; seconds = b.1 i; length = c.1 i; sender = d.1 i } }

  pub put-nowhere : lengths_ok x ≡ false → Puts t x x
  put-nowhere e = record { exact = rw e; means = λ z. let u : ◌≡◌ {A = Bool} false true = sym e ∙ z in cc }
