-- The verdict by the marks is the verdict of the rules (H1).
-- A mark counts up to two, which is all that the verdict asks.
use Prim.Native.Nat.{ℕ, zero, suc, ◌<◌}
use mathlib.Core.Path.{◌≡◌, refl, sym}
use mathlib.Core.List.{List, map}
use mathlib.Core.Bool.{Bool, true, false, not}
use native.Mathlib.Omega.{arith}
use borrow.Author.Tests.{ne_eqb, lt-leb}
use lib.ListN.{length}
use lib.Dec.{leb, eqb}
use Rattle.fields.specs.Field.{category, manufacturer, model_name, model_number, topics}
use Rattle.walk.specs.Walk.{Tlv, Placed}
use Rattle.found.specs.Contents.{contents, well_formed, htip_of}
use Rattle.found.specs.Found.{nothing, mark_of, gather, htip_in}
use Rattle.found.specs.declared.Found.{Found}
use Rattle.found.proofs.MarkLaws.{AllIn, up_to2, Means, topic-means, gather-formed}

once : (n : ℕ) → eqb (up_to2 n) 1 ≡ eqb n 1
once zero = refl
once (suc zero) = refl
once (suc (suc n)) = sym (ne_eqb (suc (suc n)) 1 (λ e. omega arith))

most-once : (n : ℕ) → leb (up_to2 n) 1 ≡ leb n 1
most-once zero = refl
most-once (suc zero) = refl
most-once (suc (suc n)) = sym (lt-leb (suc (suc n)) 1 (omega arith))

not-not : (b : Bool) → not (not b) ≡ b
not-not true = refl
not-not false = refl

module _ (s : List ℕ) (ps : List Placed) (i : AllIn s ps) where
  abbrev ts : List Tlv
  ts = map (λ p. p.tlv) ps

  abbrev found : Found
  found = gather nothing ps

  pub htip-means : htip_in found ≡ htip_of ts
  unfolding htip_in htip_of
  htip-means =
      let m : (t : ℕ) → t < topics → Means s (mark_of t found) (contents t ts) = λ t h. topic-means s t ps h i in
      let n : (t : ℕ) → ℕ = λ t. length (contents t ts) in
      rw (
        gather-formed nothing ps,
        not-not (well_formed ts),
        (m category (omega arith)).count,
        (m model_number (omega arith)).count,
        (m manufacturer (omega arith)).count,
        (m model_name (omega arith)).count,
        once (n category),
        once (n model_number),
        most-once (n manufacturer),
        most-once (n model_name),
      )
