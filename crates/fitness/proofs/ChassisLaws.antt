-- Laws of no chassis above three on a port (N5 g), behind the marks and by the records below a place; last, of both questions that a place is asked beside
-- the others. Records of one chassis on one port have one chassis mark, so no more of them are there than marks that agree.
use Prim.Native.Nat.{ℕ, ◌/◌, ◌≤◌, ◌<◌}
use mathlib.Core.Path.{◌≡◌, refl, sym, ap, ap₂, ◌∙◌}
use mathlib.Core.Logic.{◌≢◌}
use mathlib.Core.Bool.{Bool, true, false, true≢false}
use mathlib.Core.List.{List}
use native.Mathlib.Omega.{arith}
use borrow.Author.Tests.{eq-eqb, ne_eqb, ltb-true, lt-ltb, leb-true, leb-false, le-leb, lt-leb, not-true}
use lib.Dec.{leb, eqb}
use lib.ListN.{get_or}
use Rattle.tally.specs.Tests.{pick, both}
use Rattle.tally.specs.Counts.{count}
use Rattle.tally.specs.Ranges.{all_below}
use Rattle.tally.proofs.TestsLaws.{both_true, both_hold}
use Rattle.tally.proofs.CountsLaws.{count-fewer}
use Rattle.tally.proofs.RangesLaws.{all-each}
use Rattle.ids.specs.Id.{Id}
use Rattle.rules.specs.Identity.{Ident}
use Rattle.rules.specs.Shares.{per_chassis, chassis_is}
use Rattle.rules.proofs.SharesLaws.{chassis-true, chassis-is}
use Rattle.numbers.specs.Sizes.{places}
use Rattle.place.specs.State.{State, at, used, who_at, passes, count_records}
use Rattle.fitness.specs.Fit.{single, within, fits_in}
use Rattle.fitness.specs.Beside.{no_fourth}
use Rattle.marks.specs.Marks.{chassis_mark, identity_mark, mark_at, alike, apart, kin, few, settled, few_below, Marked}
use Rattle.fitness.proofs.ReachLaws.{count-passed, count-reaches}
use Rattle.fitness.proofs.TwinLaws.{apart-single}

-- What the marks settle, by the two counts

module _ (marks : List ℕ) (i n : ℕ) where
  pub settled-free : n ≡ 0 → true ≡ settled marks i n
  unfolding apart few
  settled-free e = sym (rw (eq-eqb n 0 e))

  module _ (u : n ≢ 0) {a : ℕ} (e : a ≡ count (alike marks i) places) where
    pub settled-twice : 1 < a → false ≡ settled marks i n
    unfolding apart
    settled-twice h = sym (rw (ne_eqb n 0 u, sym e, lt-leb a 1 h))

    pub settled-counted : a ≤ 1 → {k : ℕ} → k ≡ count (kin marks i) places → leb k per_chassis ≡ settled marks i n
    unfolding apart few
    settled-counted h d = ap (λ (x : ℕ). leb x per_chassis) d ∙ sym (rw (ne_eqb n 0 u, sym e, le-leb a 1 h))

  -- a place of which they leave a question is used
  pub settled-used : settled marks i n ≡ false → n ≢ 0
  settled-used h e = true≢false (settled-free e ∙ h)

pub ruleset settling = (settled-free, settled-twice, settled-counted)

mark-front : (w : Ident) → identity_mark w / 65536 ≡ chassis_mark w.port w.chassis
unfolding identity_mark
mark-front w = omega arith

module _ (s : State) (marks : List ℕ) (h : Marked s marks) where
  front : (k : ℕ) → k < places → used (at s k) ≡ true → get_or marks k 0 / 65536 ≡ chassis_mark (who_at (at s k)).port (who_at (at s k)).chassis
  front k l u =
      let x : mark_at (at s k) ≡ identity_mark (who_at (at s k)) = rw u in
      ap (λ (m : ℕ). m / 65536) (h.right k l ∙ x) ∙ mark-front (who_at (at s k))

  -- what is of the chassis of place i, on its port, is its kin
  passes-kin : (i j : ℕ) → i < places → j < places → used (at s i) ≡ true
      → passes s (chassis_is (who_at (at s i)).port (who_at (at s i)).chassis) j ≡ true → kin marks i j ≡ true
  passes-kin i j a b u e =
      let w = who_at (at s i) in
      let v = who_at (at s j) in
      let r = both_true (used (at s j)) (chassis_is w.port w.chassis v) e in
      let z = chassis-true w.port w.chassis v r.1 in
      eq-eqb (get_or marks j 0 / 65536) (get_or marks i 0 / 65536) (front j b r.0 ∙ ap₂ chassis_mark z.0 z.1 ∙ sym (front i a u))

  -- so no more than three marks that agree settle it
  pub few-within : (i : ℕ) → i < places → few marks i (at s i).len ≡ true → within s i ≡ true
  unfolding few within count_records
  few-within i a e = go (eqb (at s i).len 0) refl e
    where
      own : Ident → Bool
      own = chassis_is (who_at (at s i)).port (who_at (at s i)).chassis

      go : (b : Bool) → eqb (at s i).len 0 ≡ b → pick b true (leb (count (kin marks i) places) per_chassis) ≡ true
          → pick b true (leb (count (passes s own) places) per_chassis) ≡ true
      go true d q = refl
      go false d q =
          let u : used (at s i) ≡ true = rw d in
          let m = count-fewer (passes s own) (kin marks i) places (λ j l. passes-kin i j a l u) in
          le-leb (count (passes s own) places) per_chassis (omega (arith, m, leb-true (count (kin marks i) places) per_chassis q))

-- Of four the last has three below it

module _ (s : State) where
  abbrev own : ℕ → Ident → Bool
  own k = chassis_is (who_at (at s k)).port (who_at (at s k)).chassis

  -- a place is counted beside those below it
  within-below : (k : ℕ) → k < places → used (at s k) ≡ true → within s k ≡ true → no_fourth s k ≡ true
  unfolding within no_fourth count_records
  within-below k l u e =
      let w = who_at (at s k) in
      let self = both_hold u (chassis-is w.port w.chassis w refl refl) in
      let total : leb (count (passes s (own k)) places) per_chassis ≡ true = rw (not-true (eqb (at s k).len 0) u) at e in
      lt-ltb (count (passes s (own k)) k) per_chassis
      (omega (arith, leb-true (count (passes s (own k)) places) per_chassis total, count-passed (passes s (own k)) k places l self))

  -- of more than three the fourth has three below it, which are of its chassis as well
  pub none_above : ((k : ℕ) → k < places → used (at s k) ≡ true → no_fourth s k ≡ true) → (k : ℕ) → within s k ≡ true
  unfolding within no_fourth count_records
  none_above h k = go (eqb (at s k).len 0) refl (leb (count (passes s (own k)) places) per_chassis) refl
    where
      fourth : per_chassis < count (passes s (own k)) places → pick (eqb (at s k).len 0) true (leb (count (passes s (own k)) places) per_chassis) ≡ true
      fourth q =
          let m = count-reaches (passes s (own k)) per_chassis places q in
          let v = who_at (at s m.0) in
          let r = both_true (used (at s m.0)) (own k v) m.1.1.0 in
          let z = chassis-true (who_at (at s k)).port (who_at (at s k)).chassis v r.1 in
          let alike = ap₂ (λ (p : ℕ) (c : Id). count (passes s (chassis_is p c)) m.0) z.0 z.1 in
          absurd (omega (arith, m.1.1.1, alike, ltb-true (count (passes s (own m.0)) m.0) per_chassis (h m.0 m.1.0 r.0)))

      go : (b : Bool) → eqb (at s k).len 0 ≡ b → (t : Bool) → leb (count (passes s (own k)) places) per_chassis ≡ t
          → pick (eqb (at s k).len 0) true (leb (count (passes s (own k)) places) per_chassis) ≡ true
      go true d t q = rw d refl
      go false d true q = rw d q
      go false d false q = fourth (leb-false (count (passes s (own k)) places) per_chassis q)

  -- where fewer kin stand below it there are no three
  pub few-below : (marks : List ℕ) → Marked s marks → (k : ℕ) → k < places → used (at s k) ≡ true → few_below marks k ≡ true → no_fourth s k ≡ true
  unfolding few_below no_fourth
  few-below marks h k l u e =
      lt-ltb (count (passes s (own k)) k) per_chassis
      (omega (arith, ltb-true (count (kin marks k) k) per_chassis e, count-fewer (passes s (own k)) (kin marks k) k (λ j q. passes-kin s marks h k j l (omega arith) u)))

-- Both questions

-- place k has an identity of its own, and where it is used it is no fourth
abbrev pub Beside : State → ℕ → Type 0
Beside s k = (single s k ≡ true) × (used (at s k) ≡ true → no_fourth s k ≡ true)

module _ (s : State) where
  -- where all are so, all fit in
  pub beside-all : ((k : ℕ) → k < places → Beside s k) → all_below (fits_in s) places ≡ true
  beside-all h = all-each (fits_in s) places (λ k l. both_hold (h k l).0 (none_above s (λ j q. (h j q).1) k))

  module _ (k : ℕ) (l : k < places) where
    pub asked-beside : both (single s k) (no_fourth s k) ≡ true → Beside s k
    asked-beside e = let z = both_true (single s k) (no_fourth s k) e in (z.0, λ u. z.1)

    -- one that is not so does not fit in
    pub not-beside : used (at s k) ≡ true → both (single s k) (no_fourth s k) ≡ false → fits_in s k ≡ false
    not-beside u e = go (single s k) refl (within s k) refl
      where
        go : (a : Bool) → single s k ≡ a → (b : Bool) → within s k ≡ b → fits_in s k ≡ false
        go true p true q = absurd (true≢false (sym (rw (p, within-below s k l u q)) ∙ e))
        go true p false q = rw (p, q)
        go false p b q = rw p refl

    pub settled-beside : (marks : List ℕ) → Marked s marks → settled marks k (at s k).len ≡ true → Beside s k
    settled-beside marks h e =
        let z = both_true (apart marks k (at s k).len) (few marks k (at s k).len) e in
        (apart-single s marks h k l z.0, λ u. within-below s k l u (few-within s marks h k l z.1))
