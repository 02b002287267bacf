-- Laws of what is gathered: what one TLV adds, and one step of the walk, in the shape of the loop.
-- A field of the walk is within its information string, so that the sums of the code do not wrap.
use Prim.{Unit}
use Prim.Native.Nat.{ℕ, ◌+◌, ◌-◌, ◌≤◌}
use mathlib.Core.Path.{◌≡◌, refl, ap, ◌∙◌}
use mathlib.Core.List.{List}
use mathlib.Core.Bool.{true}
use native.Mathlib.Omega.{arith}
use borrow.Author.Tests.{eq-eqb, ne_eqb}
use lib.ListN.{length, take, drop, set, length-drop}
use lib.Seq.{length-take-le}
use Rattle.text.specs.Part.{part, with_part}
use Rattle.text.specs.declared.Parts.{Parts}
use Rattle.fields.specs.Field.{management, field_of}
use Rattle.fields.specs.declared.Field.{Field}
use Rattle.fields.specs.declared.Field.TheVariants.{Skipped, Malformed, Says}
use Rattle.fields.proofs.FieldLaws.{Fits, field_fits}
use Rattle.walk.specs.Walk.{head_of, step_of, walk}
use Rattle.found.specs.Found.{marked_at, mark_of, noted, gather, survey_by}
use Rattle.walk.proofs.WalkLaws.{walk_refused, walk_end, walk-next, next_fits}
use Rattle.walk.specs.declared.Step.TheVariants.{End, Next}
use Rattle.refusal.specs.declared.Refusal.{Refusal}
use Rattle.std.specs.Prelude.{Ok, Err}
use Rattle.found.specs.declared.Mark.{Mark}
use Rattle.found.specs.declared.Found.{Found}

-- the information string of a TLV that the walk passes has the length that its header says
pub body-length : (s : List ℕ) (start len : ℕ) → start + len ≤ length s → length (take len (drop start s)) ≡ len
body-length s start len h = length-take-le len (drop start s) (omega (arith, length-drop start s))

-- a field whose content lies in an information string of len octets
abbrev pub Within : Field → ℕ → Type 0
Within Skipped len = Unit {0}
Within Malformed len = Unit {0}
Within (Says topic skip) len = (topic ≤ management) × (skip ≤ len)

within : (b : List ℕ) (f : Field) → Fits b f → Within f (length b)
within b Skipped h = h
within b Malformed h = h
within b (Says topic skip) h = (h.known, h.inside)

-- What one TLV adds, by what it says

module _ (f : Found) (start len : ℕ) {x : Field} where
  pub noted-skipped : x ≡ Skipped → f ≡ noted f x start len
  unfolding noted
  noted-skipped e = rw e

  pub noted-malformed : x ≡ Malformed → record { marks = f.marks; malformed = true; management = f.management } ≡ noted f x start len
  unfolding noted
  noted-malformed e = rw e refl

  module _ {topic skip : ℕ} (e : x ≡ Says topic skip) where
    pub noted-address : topic ≡ management → {l : Parts} → l ≡ with_part f.management (part (start + skip) (len - skip))
        → record { marks = f.marks; malformed = f.malformed; management = l } ≡ noted f x start len
    unfolding noted
    noted-address t m = rw (e, eq-eqb topic management t, m) refl

    pub noted-mark : (topic ≡ management → ⊥) → {m : Mark} → m ≡ marked_at (mark_of topic f) (start + skip) (len - skip)
        → record { marks = set f.marks topic m; malformed = f.malformed; management = f.management } ≡ noted f x start len
    unfolding noted
    noted-mark t m = rw (e, ne_eqb topic management t, m) refl

-- The loop

module _ (s : List ℕ) (at : ℕ) (f : Found) where
  pub survey-refused : {r : Refusal} → step_of (head_of (drop at s)) at ≡ Err r
      → survey_by f (walk (drop at s) 0 at) ≡ record { extent = Err r; found = f }
  unfolding survey_by gather
  survey-refused e = ap (survey_by f) (walk_refused s at e)

  pub survey-end : {end : ℕ} → step_of (head_of (drop at s)) at ≡ Ok (End end)
      → survey_by f (walk (drop at s) 0 at) ≡ record { extent = Ok end; found = f }
  unfolding survey_by gather
  survey-end e = ap (survey_by f) (walk_end s at e)

  module _ {kind start len : ℕ} (e : step_of (head_of (drop at s)) at ≡ Ok (Next kind start len)) where
    pub survey-next : survey_by f (walk (drop at s) 0 at)
        ≡ survey_by (noted f (field_of kind (take len (drop start s))) start len) (walk (drop (start + len) s) 0 (start + len))
    unfolding survey_by gather
    survey-next =
        ap (survey_by f) (walk-next s at e)
        ∙ ap (λ (n : ℕ). survey_by (noted f (field_of kind (take len (drop start s))) start n) (walk (drop (start + len) s) 0 (start + len)))
        (body-length s start len (next_fits s at e))

    pub next-within : Within (field_of kind (take len (drop start s))) len
    next-within =
        let b = take len (drop start s) in
        rw (body-length s start len (next_fits s at e)) at (within b (field_of kind b) (field_fits b kind))
