-- Why the shares leave a free place: a record that gets room finds one, and the table then is as fit as before.
-- The ports hold no more than their sure places and the common ones that are taken; that is fewer than there are.
use Prim.Native.Nat.{ℕ, zero, suc, ◌+◌, ◌-◌, ◌*◌, ◌≤◌, ◌<◌}
use mathlib.Core.Path.{◌≡◌, refl, sym, ap, ◌∙◌}
use mathlib.Core.List.{[], ◌∷◌}
use mathlib.Core.Bool.{Bool, true, false, not}
use mathlib.Core.Logic.{◌≢◌}
use mathlib.Core.Option.{Option, none, some}
use native.Mathlib.Omega.{arith}
use borrow.Author.Tests.{eqb-true, eqb-false, eq-eqb, ne_eqb, ltb-true, ltb-false, lt-ltb, le-ltb}
use lib.Dec.{ltb, eqb}
use lib.ListN.{length}
use Rattle.tally.specs.Tests.{pick, both}
use Rattle.tally.specs.Counts.{one, sum}
use Rattle.tally.proofs.TestsLaws.{both_true, both_hold}
use Rattle.tally.proofs.CountsLaws.{sum-but, sum_same, sum-le, sum-add, sum-zero, sum_one}
use Rattle.ids.specs.Id.{Id, same_id}
use Rattle.ids.proofs.IdLaws.{same-id-true, same-id-self}
use Rattle.rules.specs.Identity.{Ident}
use Rattle.rules.specs.Shares.{sure, most, per_chassis, common_for, beyond, share, port_is, chassis_is, room}
use Rattle.rules.specs.declared.Room.TheVariants.{Enough, Loud, Full, Taken}
use Rattle.rules.specs.Model.{Rec, Places, tally, holds_in, holds_of, enter, each_record}
use Rattle.rules.specs.Fit.{Absent, Ports, FitPlaces}
use Rattle.rules.proofs.EachLaws.{Keeps, Free, in-each, once-each, length-each, tally-each, in-enter, once-enter, length-enter, tally-enter}

-- Who is counted for a chassis

pub chassis-true : (q : ℕ) (c : Id) (w : Ident) → chassis_is q c w ≡ true → (w.port ≡ q) × (w.chassis ≡ c)
chassis-true q c w e =
    let h = both_true (port_is q w) (same_id w.chassis c) e in
    (eqb-true w.port q h.0, same-id-true w.chassis c h.1)

pub chassis-is : (q : ℕ) (c : Id) (w : Ident) → w.port ≡ q → w.chassis ≡ c → chassis_is q c w ≡ true
chassis-is q c w e d = both_hold (eq-eqb w.port q e) (rw d (same-id-self c))

-- heard on port q from another chassis than c
abbrev pub other_on : ℕ → Id → Ident → Bool
other_on q c w = both (port_is q w) (not (same_id w.chassis c))

-- what a port holds is of the chassis or of another
pub port-parts : (t : Places) (q : ℕ) (c : Id) → holds_in t q ≡ holds_of t q c + tally (other_on q c) t
port-parts [] q c = refl
port-parts (none ∷ t) q c = omega (arith, port-parts t q c)
port-parts (some r ∷ t) q c = omega (arith, parts (port_is q r.who) (same_id r.who.chassis c), port-parts t q c)
  where
    parts : (a b : Bool) → one a ≡ one (both a b) + one (both a (not b))
    parts true true = refl
    parts true false = refl
    parts false b = refl

-- so a chassis with three means a port with three
pub chassis-port : (t : Places) (q : ℕ) (c : Id) → holds_of t q c ≤ holds_in t q
chassis-port t q c = omega (arith, port-parts t q c)

-- Numbers by port

-- what the ports hold is at most the sure places and the common ones that are taken
shares : (n : ℕ) (f : ℕ → ℕ) → sum f n ≤ sure * n + beyond n f
unfolding beyond sum
shares zero f = omega arith
shares (suc n) f = omega (arith, shares n f)

-- the common places that are taken, where another number is held on port q alone
pub beyond-but : (n q : ℕ) (f g : ℕ → ℕ) → q < n → ((k : ℕ) → k ≢ q → f k ≡ g k) → beyond n f + (g q - sure) ≡ beyond n g + (f q - sure)
unfolding beyond
beyond-but n q f g l e = sum-but (λ k. f k - sure) (λ k. g k - sure) q n l (λ k d. ap (λ (m : ℕ). m - sure) (e k d))

-- one more on a port with a sure place left takes no common place
still-sure : (f : ℕ → ℕ) (p q : ℕ) → f p < sure → one (eqb p q) + f q - sure ≡ f q - sure
still-sure f p q l = go (eqb p q) refl
  where
    go : (b : Bool) → eqb p q ≡ b → one b + f q - sure ≡ f q - sure
    go true e = let m : f q < sure = rw (eqb-true p q e) at l in omega arith
    go false e = omega arith

-- so with a sure place left, they hold less
shares-lt : (n p : ℕ) (f : ℕ → ℕ) → p < n → f p < sure → sum f n < sure * n + beyond n f
unfolding beyond
shares-lt n p f l k =
    let more = shares n (λ q. one (eqb p q) + f q) in
    let still = sum_same (λ q. one (eqb p q) + f q - sure) (λ q. f q - sure) n (λ q m. still-sure f p q k) in
    omega (arith, more, still, sum-add (λ q. one (eqb p q)) f n, sum_one p n l)

-- The room, line by line
module _ (n : ℕ) (f : ℕ → ℕ) (own p : ℕ) where
  pub share-loud : own ≡ per_chassis → share n f own p ≡ Loud
  unfolding share
  share-loud o = rw (eq-eqb own per_chassis o)

  module _ (o : own ≢ per_chassis) where
    pub share-sure : f p < sure → share n f own p ≡ Enough
    unfolding share
    share-sure l = rw (ne_eqb own per_chassis o, lt-ltb (f p) sure l)

    pub share-full : f p ≡ most → share n f own p ≡ Full
    unfolding share
    share-full e = rw (ne_eqb own per_chassis o, le-ltb (f p) sure (omega arith), eq-eqb (f p) most e)

    pub share-taken : sure ≤ f p → f p ≢ most → beyond n f ≡ common_for n → share n f own p ≡ Taken
    unfolding share
    share-taken l m e = rw (ne_eqb own per_chassis o, le-ltb (f p) sure l, ne_eqb (f p) most m, eq-eqb (beyond n f) (common_for n) e)

    pub share-left : sure ≤ f p → f p ≢ most → beyond n f ≢ common_for n → share n f own p ≡ Enough
    unfolding share
    share-left l m e = rw (ne_eqb own per_chassis o, le-ltb (f p) sure l, ne_eqb (f p) most m, ne_eqb (beyond n f) (common_for n) e)

-- what the room rule says where it lets a new one in
pub record Fits (n : ℕ) (f : ℕ → ℕ) (own p : ℕ) : Type 0 where
  pub three : own ≢ per_chassis
  pub six : f p ≢ most
  pub common : sure ≤ f p → beyond n f ≢ common_for n

pub share-fits : (n : ℕ) (f : ℕ → ℕ) (own p : ℕ) → share n f own p ≡ Enough → Fits n f own p
unfolding share
share-fits n f own p e = go (eqb own per_chassis) refl (ltb (f p) sure) refl (eqb (f p) most) refl (eqb (beyond n f) (common_for n)) refl e
  where
    go : (l : Bool) → eqb own per_chassis ≡ l → (a : Bool) → ltb (f p) sure ≡ a → (b : Bool) → eqb (f p) most ≡ b → (c : Bool) → eqb (beyond n f) (common_for n) ≡ c
        → pick l Loud (pick a Enough (pick b Full (pick c Taken Enough))) ≡ Enough → Fits n f own p
    go true q a d b x c y z = absurd (let w : ◌≡◌ {A = ℕ} 0 1 = cc in omega arith)
    go false q true d b x c y z =
        let l : f p < sure = ltb-true (f p) sure d in
        record { three = eqb-false own per_chassis q; six = omega arith; common = λ m. absurd (omega arith) }
    go false q false d true x c y z = absurd (let w : ◌≡◌ {A = ℕ} 0 1 = cc in omega arith)
    go false q false d false x true y z = absurd (let w : ◌≡◌ {A = ℕ} 0 1 = cc in omega arith)
    go false q false d false x false y z =
        record { three = eqb-false own per_chassis q; six = eqb-false (f p) most x; common = λ m. eqb-false (beyond n f) (common_for n) y }

pub room_fits : (n : ℕ) (number : (Ident → Bool) → ℕ) (w : Ident) → room n number w ≡ Enough
    → Fits n (λ q. number (port_is q)) (number (chassis_is w.port w.chassis)) w.port
unfolding room
room_fits n number w e = share-fits n (λ q. number (port_is q)) (number (chassis_is w.port w.chassis)) w.port e

-- Places that are used, and free ones

abbrev used : Places → ℕ
used t = tally (λ v. true) t

used-sum : (n : ℕ) (t : Places) → Ports n t → used t ≡ sum (holds_in t) n
used-sum n [] h = sym (sum-zero n)
used-sum n (none ∷ t) h = omega (arith, used-sum n t h.1, sum-add (λ q. 0) (holds_in t) n, sum-zero n)
used-sum n (some r ∷ t) h =
    omega (arith, used-sum n t h.1, sum-add (λ q. one (eqb r.who.port q)) (holds_in t) n, sum_one r.who.port n h.0)

free : (t : Places) → used t < length t → Free t
free [] h = omega arith
free (none ∷ t) h = tt
free (some r ∷ t) h = free t (omega arith)

-- a port that there is not holds nothing
pub ports-none : (n q : ℕ) (t : Places) → Ports n t → n ≤ q → holds_in t q ≡ 0
ports-none n q [] h l = refl
ports-none n q (none ∷ t) h l = omega (arith, ports-none n q t h.1 l)
ports-none n q (some r ∷ t) h l = rw (ne_eqb r.who.port q (omega (arith, h.0))) (omega (arith, ports-none n q t h.1 l))

-- Fit tables

-- room means a free place
pub room-free : (n : ℕ) (t : Places) (own p : ℕ) → FitPlaces n t → p < n → Fits n (holds_in t) own p → Free t
room-free n t own p f l k = free t (go (ltb (holds_in t p) sure) refl)
  where
    go : (b : Bool) → ltb (holds_in t p) sure ≡ b → used t < length t
    go true e = omega (arith, f.size, f.common, used-sum n t f.ports, shares-lt n p (holds_in t) l (ltb-true (holds_in t p) sure e))
    go false e = omega (arith, f.size, f.common, used-sum n t f.ports, shares n (holds_in t), k.common (ltb-false (holds_in t p) sure e))

pub fit-each : (f : Rec → Option Rec) → Keeps f → (n : ℕ) (t : Places) → FitPlaces n t → FitPlaces n (each_record f t)
unfolding beyond
fit-each f k n t h =
    record {
      size = length-each f k t ∙ h.size;
      once = once-each f k t h.once;
      ports = in-each f k (λ v. v.port < n) t h.ports;
      six = λ q. omega (arith, fewer q, h.six q);
      common = omega (arith, h.common, sum-le (λ q. holds_in (each_record f t) q - sure) (λ q. holds_in t q - sure) n (λ q m. omega (arith, fewer q)));
      three = λ q c. omega (arith, tally-each f k (chassis_is q c) t, h.three q c);
    }
  where
    fewer : (q : ℕ) → holds_in (each_record f t) q ≤ holds_in t q
    fewer q = tally-each f k (port_is q) t

-- a record of a new identity, where the shares have room for it
module _ (r : Rec) (n : ℕ) (t : Places) (h : FitPlaces n t) (l : r.who.port < n)
    (k : Fits n (holds_in t) (holds_of t r.who.port r.who.chassis) r.who.port) where
  abbrev p : ℕ
  p = r.who.port

  found-free : Free t
  found-free = room-free n t (holds_of t p r.who.chassis) p h l k

  rises : (q : ℕ) → holds_in (enter r t) q ≡ one (eqb p q) + holds_in t q
  rises q = tally-enter r (port_is q) t found-free

  six-enter : (q : ℕ) → holds_in (enter r t) q ≤ most
  six-enter q = go (eqb p q) refl
    where
      go : (b : Bool) → eqb p q ≡ b → holds_in (enter r t) q ≤ most
      go true e =
          let d : holds_in t q ≢ most = rw (eqb-true p q e) at k.six in
          omega (arith, rw e at (rises q), h.six q)
      go false e = omega (arith, rw e at (rises q), h.six q)

  common-enter : beyond n (holds_in (enter r t)) ≤ common_for n
  unfolding beyond
  common-enter = go (ltb (holds_in t p) sure) refl
    where
      go : (b : Bool) → ltb (holds_in t p) sure ≡ b → sum (λ q. holds_in (enter r t) q - sure) n ≤ common_for n
      go true e =
          let s = ltb-true (holds_in t p) sure e in
          let at : (q : ℕ) → holds_in (enter r t) q - sure ≡ holds_in t q - sure = λ q. omega (arith, rises q, still-sure (holds_in t) p q s) in
          omega (arith, h.common, sum_same (λ q. holds_in (enter r t) q - sure) (λ q. holds_in t q - sure) n (λ q m. at q))
      go false e =
          let s = k.common (ltb-false (holds_in t p) sure e) in
          let m = sum-le (λ q. holds_in (enter r t) q - sure) (λ q. one (eqb p q) + (holds_in t q - sure)) n (λ q m. omega (arith, rises q)) in
          omega (arith, h.common, m, sum-add (λ q. one (eqb p q)) (λ q. holds_in t q - sure) n, sum_one p n l)

  three-enter : (q : ℕ) (c : Id) → holds_of (enter r t) q c ≤ per_chassis
  three-enter q c = go (chassis_is q c r.who) refl
    where
      more : holds_of (enter r t) q c ≡ one (chassis_is q c r.who) + holds_of t q c
      more = tally-enter r (chassis_is q c) t found-free

      go : (b : Bool) → chassis_is q c r.who ≡ b → holds_of (enter r t) q c ≤ per_chassis
      go true e =
          let z = chassis-true q c r.who e in
          let d : holds_of t q c ≢ per_chassis = rw (z.0, z.1) at k.three in
          omega (arith, rw e at more, h.three q c)
      go false e = omega (arith, rw e at more, h.three q c)

  pub fit-enter : Absent r.who t → FitPlaces n (enter r t)
  fit-enter a =
      record {
        size = length-enter r t ∙ h.size;
        once = once-enter r t a h.once;
        ports = in-enter r (λ v. v.port < n) l t h.ports;
        six = six-enter;
        common = common-enter;
        three = three-enter;
      }
