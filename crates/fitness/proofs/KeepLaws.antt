-- What lies inside a place (N5 b, c): a free place, and one that keeps a valid LLDPDU, are fit by themselves.
-- What is kept of a frame is its LLDPDU up to the End TLV; it is whole, and says what the frame says.
use Prim.Native.Nat.{ℕ, ◌-◌, ◌≤◌, ◌<◌}
use mathlib.Core.Path.{◌≡◌, refl, sym, ap, ◌∙◌}
use mathlib.Core.Bool.{Bool, true, false}
use mathlib.Core.List.{List, [], ◌∷◌, append-nil}
use native.Mathlib.Omega.{arith}
use borrow.Author.Tests.{eqb-true, eq-eqb, ne_eqb, leb-true, le-leb, lt-ltb}
use lib.Dec.{leb}
use lib.ListN.{length, take, drop, replicate, length-replicate}
use lib.Seq.{take_at, drop_at, length-take-le}
use Rattle.tally.proofs.TestsLaws.{both_end, held}
use Rattle.octets.specs.Address.{is_group}
use Rattle.octets.proofs.AddressLaws.{same_refl}
use Rattle.whole.specs.Whole.{zeros, filled}
use Rattle.whole.proofs.WholeLaws.{zeros-replicate, filled-front, filled-length}
use Rattle.lldpdu.specs.Extent.{extent_of}
use Rattle.lldpdu.specs.Outline.{outline_of, seconds_told}
use Rattle.lldpdu.proofs.ExtentLaws.{good}
use Rattle.lldpdu.proofs.Stable.{sized, extent-stable, outline-stable}
use Rattle.std.specs.Prelude.{Ok, Err}
use Rattle.walk.specs.Walk.{Extent}
use Rattle.numbers.specs.Sizes.{ports}
use Rattle.place.specs.State.{size, six_zeros, free, lldpdu_at, keep}
use Rattle.marks.specs.PlaceFit.{exactly, whole, ok_free, ok_used, ok_place}

-- A whole LLDPDU, and the test for it part by part

pub record Whole (l : List ℕ) (left : ℕ) : Type 0 where
  pub extent : extent_of l ≡ Ok (length l)
  pub least : 1 ≤ left
  pub most : left ≤ (seconds_told (outline_of l))

exactly-octets : (x : Extent) (n : ℕ) → exactly x n ≡ true → x ≡ Ok n
exactly-octets (Err r) n e = let z : ◌≡◌ {A = Bool} false true = e in cc
exactly-octets (Ok e) n q = ap Ok (eqb-true e n q)

pub whole_parts : (l : List ℕ) (left : ℕ) → whole l left ≡ true → Whole l left
unfolding whole
whole_parts l left e =
    let h = held (exactly (extent_of l) (length l) ∷ leb 1 left ∷ leb left (seconds_told (outline_of l)) ∷ []) e in
    record {
      extent = exactly-octets (extent_of l) (length l) h.0;
      least = leb-true 1 left h.1.0;
      most = leb-true left (seconds_told (outline_of l)) h.1.1.0;
    }

pub parts_whole : (l : List ℕ) (left : ℕ) → Whole l left → whole l left ≡ true
unfolding whole
parts_whole l left w =
    rw (
      w.extent,
      eq-eqb (length l) (length l) refl,
      le-leb 1 left w.least,
      le-leb left (seconds_told (outline_of l)) w.most,
    )

-- the first three TLVs alone have octets
pub whole-some : (l : List ℕ) → extent_of l ≡ Ok (length l) → 1 ≤ length l
whole-some l e = omega (arith, (sized (good l (length l) e)).seconds)

-- Free places

pub free-ok : ok_place free ≡ true
unfolding ok_place ok_free
free-ok = rw (same_refl six_zeros.octets, both_end (zeros free.body)) (zeros-replicate size)

pub free-long : length free.body ≡ size
free-long = length-replicate {A = ℕ} size 0

-- An LLDPDU l is kept

module _ (p n : ℕ) (sender l : List ℕ) where
  pub keep-long : length (keep p n sender l).body ≡ size
  unfolding keep
  keep-long = filled-length l size

  -- what a place is asked for is what it was given
  pub keep-lldpdu : length l ≤ size → lldpdu_at (keep p n sender l) ≡ l
  unfolding keep
  keep-lldpdu h = ap (take (length l)) (filled-front l size h) ∙ take_at l (replicate (size - length l) 0) (length l) refl

  keep-rest : length l ≤ size → zeros (drop (length l) (filled l size)) ≡ true
  keep-rest h =
      ap (λ (b : List ℕ). zeros (drop (length l) b)) (filled-front l size h)
      ∙ ap zeros (drop_at l (replicate (size - length l) 0) (length l) refl)
      ∙ zeros-replicate (size - length l)

  pub keep-ok : p < ports → is_group sender ≡ false → length l ≤ size → Whole l n → ok_place (keep p n sender l) ≡ true
  unfolding ok_place ok_used keep
  keep-ok a g h w =
      rw (
        ne_eqb (length l) 0 (λ e. omega (arith, whole-some l w.extent)),
        lt-ltb p ports a,
        g,
        le-leb (length l) size h,
        ap (λ (k : List ℕ). whole k n) (keep-lldpdu h) ∙ parts_whole l n w,
        keep-rest h,
      )

-- What is kept of octets d that begin with a valid LLDPDU of e octets

module _ (d : List ℕ) (e : ℕ) (v : extent_of d ≡ Ok e) where
  abbrev l : List ℕ
  l = take e d

  pub kept-long : length l ≡ e
  kept-long = length-take-le e d (sized (good d e v)).whole-inside

  pub kept-extent : extent_of l ≡ Ok (length l)
  kept-extent = ap extent_of (sym (append-nil l)) ∙ extent-stable d [] e v ∙ ap Ok (sym kept-long)

  pub kept-outline : outline_of l ≡ outline_of d
  kept-outline = ap outline_of (sym (append-nil l)) ∙ outline-stable d [] e v
