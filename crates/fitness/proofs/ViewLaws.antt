-- The table as the model's list of places: what is seen at a place, that counting agrees, and that fitness passes both ways.
-- What the view does not show is the buffer's length and what lies inside a place; `fit-view` asks for these beside it.
use Prim.Native.Nat.{ℕ, zero, suc, ◌≤◌, ◌<◌}
use mathlib.Core.Path.{◌≡◌, refl, sym, ap, ap₂, ◌∙◌, fun_ext}
use mathlib.Core.Logic.{◌≢◌, ⊎_elim}
use mathlib.Core.Bool.{Bool, true, false, not}
use mathlib.Core.Option.{Option, none, some, none-ne-some}
use native.Mathlib.Omega.{arith}
use borrow.Author.Tests.{eqb-true, eqb-false, eq-eqb, ne_eqb, ltb-true, ltb-false, leb-true, le-leb, not-true}
use lib.Dec.{leb, ltb, eqb}
use lib.ListN.{length, get_or}
use Rattle.tally.specs.Tests.{pick, both}
use Rattle.tally.specs.Ranges.{all_below}
use Rattle.tally.specs.Counts.{one, count}
use Rattle.tally.specs.Tab.{tab}
use Rattle.tally.proofs.TestsLaws.{both_true}
use Rattle.tally.proofs.RangesLaws.{all_true, all-each}
use Rattle.tally.proofs.CountsLaws.{count-some}
use Rattle.tally.proofs.TabLaws.{length-tab, get_or-tab}
use Rattle.ids.specs.Id.{Id}
use Rattle.rules.specs.Identity.{Ident, same}
use Rattle.rules.specs.Shares.{most, per_chassis, beyond, port_is, chassis_is}
use Rattle.rules.specs.Model as model
use Rattle.rules.specs.Model.{Rec, hits, tally}
use Rattle.rules.specs.Fit as model-fit
use Rattle.rules.specs.Fit.{Once}
use Rattle.rules.proofs.SharesLaws.{chassis-true, ports-none}
use Rattle.rules.proofs.TabLaws.{Apart, tally-tab, in-tab, once-tab, tab-once}
use Rattle.numbers.specs.Sizes.{ports, places}
use Rattle.numbers.specs.Numbers.{holds}
use Rattle.place.specs.State.{Place, State, octets, at, used, who_at, is_of, passes, count_records}
use Rattle.marks.specs.PlaceFit.{ok_place, ok_used}
use Rattle.fitness.specs.Fit.{single, within, Fit}
use Rattle.fitness.specs.View.{rec_of, place_of, view}

-- One place

pub place-free : (x : Place) → x.len ≡ 0 → place_of x ≡ none
unfolding place_of
place-free x e = rw (eq-eqb x.len 0 e)

pub place-used : (x : Place) → x.len ≢ 0 → place_of x ≡ some (rec_of x)
unfolding place_of
place-used x e = rw (ne_eqb x.len 0 e)

-- r is what is seen at a used place
pub record Seen (x : Place) (r : Rec) : Type 0 where
  pub used : x.len ≢ 0
  pub is : r ≡ rec_of x

unsome : (a b : Rec) → some a ≡ some b → b ≡ a
unsome a b e = sym (ap from e)
  where
    from : Option Rec → Rec
    from none = a
    from (some c) = c

pub seen : (x : Place) (r : Rec) → place_of x ≡ some r → Seen x r
unfolding place_of
seen x r e = go (eqb x.len 0) refl e
  where
    go : (b : Bool) → eqb x.len 0 ≡ b → pick b none (some (rec_of x)) ≡ some r → Seen x r
    go true d q = absurd (none-ne-some r q)
    go false d q = record { used = eqb-false x.len 0 d; is = unsome (rec_of x) r q }

pub unseen : (x : Place) → place_of x ≡ none → x.len ≡ 0
unfolding place_of
unseen x e = go (eqb x.len 0) refl e
  where
    go : (b : Bool) → eqb x.len 0 ≡ b → pick b none (some (rec_of x)) ≡ none → x.len ≡ 0
    go true d q = eqb-true x.len 0 d
    go false d q = absurd (none-ne-some (rec_of x) (sym q))

module _ (s : State) where
  -- what the model finds in each place
  abbrev pub placed : ℕ → Option Rec
  placed k = place_of (at s k)

  pub get_or-view : (k : ℕ) → k < places → get_or (view s) k none ≡ place_of (at s k)
  unfolding view
  get_or-view k l = get_or-tab places placed k none l

  pub view-long : length (view s) ≡ places
  unfolding view
  view-long = length-tab places placed

-- Counting

hits-place : (g : Ident → Bool) (x : Place) → hits g (place_of x) ≡ one (both (used x) (g (who_at x)))
unfolding place_of
hits-place g x = go (eqb x.len 0)
  where
    go : (b : Bool) → hits g (pick b none (some (rec_of x))) ≡ one (both (not b) (g (who_at x)))
    go true = refl
    go false = refl

module _ (s : State) where
  count-tab : (g : Ident → Bool) (m : ℕ) → count (λ k. both (used (at s k)) (g (who_at (at s k)))) m ≡ tally g (tab m (placed s))
  unfolding tab count
  count-tab g zero = refl
  count-tab g (suc m) = omega (arith, count-tab g m, tally-tab g m (placed s), hits-place g (at s m))

  pub count-view : (g : Ident → Bool) → count_records s g ≡ tally g (view s)
  unfolding count_records view
  count-view g = count-tab g places

  -- a port's number is that of the numbers alone: no octet of the buffer is asked
  pub count-holds : (q : ℕ) → count_records s (port_is q) ≡ holds s.table q
  unfolding count_records holds at
  count-holds q = refl

  pub holds-view : (q : ℕ) → model.holds_in (view s) q ≡ holds s.table q
  holds-view q = sym (count-view (port_is q)) ∙ count-holds q

  pub beyond-view : (n : ℕ) → beyond n (model.holds_in (view s)) ≡ beyond n (holds s.table)
  beyond-view n = ap (beyond n) (fun_ext holds-view)

-- From a fit table to a fit view

port-low : (x : Place) → ok_place x ≡ true → x.len ≢ 0 → x.port < ports
unfolding ok_place ok_used
port-low x e u = ltb-true x.port ports (both_true (ltb x.port ports) _ (rw (ne_eqb x.len 0 u) at e)).0

module _ (s : State) where
  single-apart : ((k : ℕ) → k < places → single s k ≡ true) → Apart places (placed s)
  unfolding single is_of
  single-apart h j k x y l m e d =
      let a = seen (at s j) x e in
      let b = seen (at s k) y d in
      let w = who_at (at s k) in
      let q : all_below (λ i. not (is_of s w i)) k ≡ true = rw (ne_eqb (at s k).len 0 b.used) at (h k m) in
      let r : is_of s w j ≡ false = not-true (is_of s w j) (all_true (λ i. not (is_of s w i)) k q j l) in
      let z : same (who_at (at s j)) w ≡ false = rw (ne_eqb (at s j).len 0 a.used) at r in
      ap₂ (λ (f g : Rec). same f.who g.who) a.is b.is ∙ z

  -- a chassis that holds none holds no more than three; one that holds some has a place, which was asked
  within-three : ((k : ℕ) → k < places → within s k ≡ true) → (q : ℕ) (c : Id) → model.holds_of (view s) q c ≤ per_chassis
  unfolding within count_records
  within-three h q c = rw (← count-view s (chassis_is q c)) (⊎_elim (λ z. omega (arith, z)) (λ z. asked z.0 z.1.0 z.1.1) (count-some (passes s (chassis_is q c)) places))
    where
      asked : (k : ℕ) → k < places → passes s (chassis_is q c) k ≡ true → count_records s (chassis_is q c) ≤ per_chassis
      asked k l e =
          let w = who_at (at s k) in
          let u = both_true (used (at s k)) (chassis_is q c w) e in
          let z = chassis-true q c w u.1 in
          let y : leb (count_records s (chassis_is w.port w.chassis)) per_chassis ≡ true = rw (not-true (eqb (at s k).len 0) u.0) at (h k l) in
          let x : leb (count_records s (chassis_is q c)) per_chassis ≡ true = ap₂ (λ (p : ℕ) (d : Id). leb (count_records s (chassis_is p d)) per_chassis) (sym z.0) (sym z.1) ∙ y in
          leb-true (count_records s (chassis_is q c)) per_chassis x

  pub view-fits : Fit s → model-fit.FitPlaces ports (view s)
  unfolding view
  view-fits f =
      let low : model-fit.Ports ports (view s) = in-tab (λ v. v.port < ports) places (placed s) (λ k y l e. port-of k y l (seen (at s k) y e)) in
      record {
        size = length-tab places (placed s);
        once = once-tab places (placed s) (single-apart f.alone);
        ports = low;
        six = λ q. six-of low q (ltb q ports) refl;
        common = rw (beyond-view s ports) f.taken;
        three = within-three f.three;
      }
    where
      port-of : (k : ℕ) (y : Rec) → k < places → Seen (at s k) y → y.who.port < ports
      port-of k y l z = rw z.is (port-low (at s k) (f.good k l) z.used)

      -- a port that there is not holds nothing
      six-of : model-fit.Ports ports (view s) → (q : ℕ) (b : Bool) → ltb q ports ≡ b → model.holds_in (view s) q ≤ most
      six-of low q true e = rw (holds-view s q) (f.six q (ltb-true q ports e))
      six-of low q false e = omega (arith, ports-none ports q (view s) low (ltb-false q ports e))

  -- And back

  pub single_of : Once (view s) → (k : ℕ) → k < places → single s k ≡ true
  unfolding single is_of view
  single_of o k m = go (eqb (at s k).len 0) refl
    where
      w : Ident
      w = who_at (at s k)

      below : (at s k).len ≢ 0 → (j : ℕ) → j < k → (b : Bool) → eqb (at s j).len 0 ≡ b → both (not b) (same (who_at (at s j)) w) ≡ false
      below u j l true e = refl
      below u j l false e =
          tab-once places (placed s) o j k (rec_of (at s j)) (rec_of (at s k)) l m
          (place-used (at s j) (eqb-false (at s j).len 0 e))
          (place-used (at s k) u)

      go : (b : Bool) → eqb (at s k).len 0 ≡ b → pick b true (all_below (λ j. not (is_of s w j)) k) ≡ true
      go true e = refl
      go false e = all-each (λ j. not (is_of s w j)) k (λ j l. ap not (below (eqb-false (at s k).len 0 e) j l (eqb (at s j).len 0) refl))

  within_of : ((q : ℕ) (c : Id) → model.holds_of (view s) q c ≤ per_chassis) → (k : ℕ) → k < places → within s k ≡ true
  unfolding within
  within_of h k m = go (eqb (at s k).len 0)
    where
      w : Ident
      w = who_at (at s k)

      low : count_records s (chassis_is w.port w.chassis) ≤ per_chassis
      low = rw (count-view s (chassis_is w.port w.chassis)) (h w.port w.chassis)

      go : (b : Bool) → pick b true (leb (count_records s (chassis_is w.port w.chassis)) per_chassis) ≡ true
      go true = refl
      go false = le-leb (count_records s (chassis_is w.port w.chassis)) per_chassis low

  pub fit-view : length s.buf ≡ octets → ((k : ℕ) → k < places → ok_place (at s k) ≡ true) → model-fit.FitPlaces ports (view s) → Fit s
  fit-view l g f =
      record {
        long = l;
        good = g;
        alone = single_of f.once;
        six = λ q h. rw (← holds-view s q) (f.six q);
        taken = rw (← beyond-view s ports) f.common;
        three = within_of f.three;
      }
