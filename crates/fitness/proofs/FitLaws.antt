-- The test of fitness and its parts (N5): as the code asks them, and as a fit table has them; its length, and a free place where the shares have room.
-- The room is the model's: a fit table is seen as a fit list of places, and there the shares leave a free one.
use Prim.Native.Nat.{ℕ, ◌≤◌, ◌<◌}
use mathlib.Core.Path.{◌≡◌, sym, ap, ◌∙◌, fun_ext}
use mathlib.Core.Logic.{◌≢◌}
use mathlib.Core.Bool.{Bool, true, false}
use mathlib.Core.List.{List, [], ◌∷◌}
use native.Mathlib.Omega.{arith}
use borrow.Author.Tests.{eqb-true, eq-eqb, ne_eqb, leb-true, le-leb}
use lib.Dec.{leb, eqb}
use lib.ListN.{length, get_or}
use Rattle.tally.specs.Ranges.{all_below}
use Rattle.tally.proofs.TestsLaws.{both_true, both_hold, both_end, held, all-fails}
use Rattle.tally.proofs.RangesLaws.{all_true, all-each}
use Rattle.tally.proofs.CountsLaws.{first-le}
use Rattle.rules.specs.Shares.{most, beyond, share}
use Rattle.rules.specs.declared.Room.TheVariants.{Enough}
use Rattle.rules.specs.Model as model
use Rattle.rules.proofs.SharesLaws.{share-fits, room-free}
use Rattle.rules.proofs.TabLaws.{free-tab}
use Rattle.numbers.specs.Sizes.{ports, places, common}
use Rattle.numbers.specs.Numbers.{is_free, holds, first_free, shares_ok}
use Rattle.place.specs.State.{State, octets, at}
use Rattle.marks.specs.PlaceFit.{ok_place}
use Rattle.fitness.specs.Fit.{single, within, fits_in, fit, Fit}
use Rattle.fitness.specs.View.{view}
use Rattle.fitness.proofs.ViewLaws.{unseen, placed, holds-view, view-fits}

module _ (s : State) where
  abbrev low : ℕ → Bool
  low p = leb (holds s.table p) most

  abbrev right : ℕ → Bool
  right k = ok_place (at s k)

  abbrev tests : List Bool
  tests = eqb (length s.buf) octets ∷ shares_ok (holds s.table) ∷ all_below right places ∷ all_below (fits_in s) places ∷ []

  -- one that fails decides, wherever it stands; where the first three hold, the last one does

  pub unfit-length : length s.buf ≢ octets → false ≡ fit s
  unfolding fit
  unfit-length e = sym (all-fails tests 0 (ne_eqb (length s.buf) octets e))

  pub unfit-shares : shares_ok (holds s.table) ≡ false → false ≡ fit s
  unfolding fit
  unfit-shares e = sym (all-fails tests 1 e)

  pub unfit-places : all_below right places ≡ false → false ≡ fit s
  unfolding fit
  unfit-places e = sym (all-fails tests 2 e)

  pub fit-by : {b : Bool} → length s.buf ≡ octets → shares_ok (holds s.table) ≡ true → all_below right places ≡ true
      → b ≡ all_below (fits_in s) places → b ≡ fit s
  unfolding fit
  fit-by l h p e = e ∙ sym (rw (eq-eqb (length s.buf) octets l, h, p, both_end (all_below (fits_in s) places)))

  -- the test, part by part

  pub fit_parts : fit s ≡ true → Fit s
  unfolding fit shares_ok
  fit_parts e =
      let h = held tests e in
      let b = both_true (all_below low ports) (leb (beyond ports (holds s.table)) common) h.1.0 in
      let beside : (k : ℕ) → k < places → (single s k ≡ true) × (within s k ≡ true) = λ k l. both_true (single s k) (within s k) (all_true (fits_in s) places h.1.1.1.0 k l) in
      record {
        long = eqb-true (length s.buf) octets h.0;
        good = all_true right places h.1.1.0;
        alone = λ k l. (beside k l).0;
        six = λ p l. leb-true (holds s.table p) most (all_true low ports b.0 p l);
        taken = leb-true (beyond ports (holds s.table)) common b.1;
        three = λ k l. (beside k l).1;
      }

  pub parts-fit : Fit s → fit s ≡ true
  unfolding fit shares_ok
  parts-fit f =
      rw (
        eq-eqb (length s.buf) octets f.long,
        all-each low ports (λ p l. le-leb (holds s.table p) most (f.six p l)),
        le-leb (beyond ports (holds s.table)) common f.taken,
        all-each right places f.good,
        all-each (fits_in s) places (λ k l. both_hold (f.alone k l) (f.three k l)),
      )

pub fit_length : (s : State) → fit s ≡ true → length s.buf ≡ octets
fit_length s e = (fit_parts s e).long

-- a place that is free is not before the first free one
first-free-le : (s : State) (k : ℕ) → k < places → (at s k).len ≡ 0 → first_free s.table ≤ k
unfolding first_free at
first-free-le s k l e = first-le (is_free s.table) places 0 k (omega arith) (omega arith) (eq-eqb (get_or s.table.length k 0) 0 e)

-- a new record that the shares have room for finds a place
pub room_for : (s : State) → fit s ≡ true → (own q : ℕ) → q < ports → share ports (holds s.table) own q ≡ Enough → first_free s.table < places
unfolding view
room_for s e own q l n =
    let m : share ports (model.holds_in (view s)) own q ≡ Enough = ap (λ (f : ℕ → ℕ). share ports f own q) (fun_ext (holds-view s)) ∙ n in
    let a = room-free ports (view s) own q (view-fits s (fit_parts s e)) l (share-fits ports (model.holds_in (view s)) own q m) in
    let k = free-tab places (placed s) a in
    let h = first-free-le s k.0 k.1 (unseen (at s k.0) k.2) in
    omega (arith, h, k.1)

-- a length or shares that fail
pub ruleset unfit = (unfit-length, unfit-shares)
