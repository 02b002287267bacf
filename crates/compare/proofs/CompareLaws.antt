-- What each return of compare tells: an unfit table, a list that is too short, or all entries in front of what was there.
-- The octets that were put together always had room: no table has more records than places.
use Prim.Native.Nat.{ℕ, ◌+◌, ◌/◌, ◌≤◌, ◌<◌}
use mathlib.Core.Path.{◌≡◌, sym, ap, ap₂, ◌∙◌}
use mathlib.Core.Bool.{true, false}
use mathlib.Core.List.{List, [], ◌∷◌, ◌++◌}
use mathlib.Core.Option.{none, some}
use native.Mathlib.Omega.{arith}
use borrow.Author.Tests.{le-leb, lt-leb, lt-ltb, le-ltb}
use lib.ListN.{length, take, drop}
use lib.Seq.{take-append_seam}
use Rattle.std.specs.Prelude.{Ok, Err}
use Rattle.refusal.specs.declared.Refusal.TheVariants.{Unfit, TooShort}
use Rattle.tally.specs.Tests.{both}
use Rattle.tally.proofs.TestsLaws.{both_false}
use Rattle.output.specs.Output.{Output, output_at, puts, Put}
use Rattle.output.specs.declared.Output.{Output as Lent}
use Rattle.output.proofs.OutputLaws.{put_then, put_same, puts-same, puts-fits}
use Rattle.rules.specs.Model.{Places}
use Rattle.rules.specs.Records.{records_in}
use Rattle.numbers.specs.Sizes.{places}
use Rattle.place.specs.State.{State}
use Rattle.fitness.specs.Fit.{fit}
use Rattle.fitness.specs.View.{view}
use Rattle.fitness.proofs.ViewLaws.{view-long}
use Rattle.changes.specs.Entries.{in_order, entries, octets_of}
use Rattle.changes.proofs.OrderLaws.{octets-append, octets-long}
use Rattle.changes.proofs.AccountLaws.{entries-few}
use Rattle.compare.specs.Compare.{first_gives, second_gives, entries_between, octets_due, refusal_on_comparing, looked, compared, Compares}

-- The first table's places, then the second's

pub put_both : (a b : State) {o p q : Lent} → Put (octets_of (in_order (first_gives a b) places)) o p
    → Put (octets_of (in_order (second_gives a b) places)) p q → Put (octets_of (entries_between a b)) o q
unfolding entries
put_both a b d e =
    put_same (put_then (octets_of (in_order (first_gives a b) places)) (octets_of (in_order (second_gives a b) places)) d e)
    (sym (octets-append (in_order (first_gives a b) places) (in_order (second_gives a b) places))
    ∙ ap₂ (λ (m n : ℕ). octets_of (in_order (first_gives a b) m ++ in_order (second_gives a b) n)) (sym (view-long a)) (sym (view-long b)))

-- octets x put at the front of l, where there is room
puts-front : (x l : List ℕ) → length x ≤ length l → puts x (output_at l 0) ≡ output_at (x ++ drop (length x) l) (length x)
puts-front x l h =
    let e : 0 + length x ≡ length x = omega arith in
    puts-fits x l 0 (omega (arith, h)) ∙ ap (λ (k : ℕ). output_at (x ++ drop k l) k) e

-- Room for all of them

records-few : (t : Places) → length (records_in t) ≤ length t
records-few [] = omega arith
records-few (none ∷ t) = omega (arith, records-few t)
records-few (some r ∷ t) = omega (arith, records-few t)

pub due-few : (a b : State) → octets_due a b ≤ places + places + (places + places)
due-few a b =
    omega (
      arith,
      octets-long (entries_between a b),
      entries-few (view a) (view b),
      records-few (view a),
      records-few (view b),
      view-long a,
      view-long b,
    )

-- The returns

module _ (a b : State) (l : List ℕ) where
  unfit : both (fit a) (fit b) ≡ false → Compares a b l (Err Unfit) l
  unfolding compared refusal_on_comparing
  unfit e = record { exact = sym (rw e); refusal = sym (rw e) }

  pub compares-first-unfit : fit a ≡ false → Compares a b l (Err Unfit) l
  compares-first-unfit e = unfit (rw e)

  pub compares-second-unfit : fit b ≡ false → Compares a b l (Err Unfit) l
  compares-second-unfit e = unfit (rw e (both_false (fit a)))

module _ (a b : State) (l : List ℕ) (fa : fit a ≡ true) (fb : fit b ≡ true) where
  -- z are the octets that all entries were put into, and n is how many they have
  module _ (z : List ℕ) {o : List ℕ} {n : ℕ} (h : places + places + (places + places) ≤ length z) (e : output_at o n ≡ puts (octets_of (entries_between a b)) (output_at z 0)) where
    placed : output_at o n ≡ output_at (octets_of (entries_between a b) ++ drop (octets_due a b) z) (octets_due a b)
    placed = e ∙ puts-front (octets_of (entries_between a b)) z (omega (arith, h, due-few a b))

    pub due : n ≡ octets_due a b
    due = ap (λ (x : Output). x.end) placed

    front : take n (drop 0 o) ≡ octets_of (entries_between a b)
    front =
        ap₂ (λ (k : ℕ) (x : List ℕ). take k x) due (ap (λ (x : Output). x.octets) placed)
        ∙ take-append_seam (octets_of (entries_between a b)) (drop (octets_due a b) z)

    -- the list has no room for so many
    pub compares-short : length l < n → Compares a b l (Err TooShort) l
    unfolding compared refusal_on_comparing
    compares-short h =
        let d : length l < octets_due a b = rw due at h in
        record {
          exact = sym (rw (fa, fb, lt-leb (octets_due a b) (length l) d));
          refusal = sym (rw (fa, fb, lt-ltb (length l) (octets_due a b) d));
        }

    -- it has; they, t, were put into it, which then holds m
    pub compares-listed : n ≤ length l → {t m : List ℕ} {k : ℕ} → t ≡ take n (drop 0 o) → output_at m k ≡ puts t (output_at l 0)
        → Compares a b l (Ok (n / 2)) m
    unfolding compared refusal_on_comparing
    compares-listed h {t} {m} et ep =
        let y = entries_between a b in
        let d : octets_due a b ≤ length l = rw due at h in
        let p = puts-same (output_at l 0) ep (et ∙ front) ∙ puts-front (octets_of y) l d in
        let q : n / 2 ≡ length y = omega (arith, due, octets-long y) in
        record {
          exact = ap₂ (λ (c : ℕ) (x : List ℕ). looked (Ok c) x) q (ap (λ (x : Output). x.octets) p) ∙ sym (rw (fa, fb, le-leb (octets_due a b) (length l) d));
          refusal = sym (rw (fa, fb, le-ltb (length l) (octets_due a b) d));
        }
