-- What the parts that are kept of management addresses mean: the first four of their contents, in order (S5).
-- One induction over the TLVs, with the contents that were met before them, as for the marks.
use Prim.Native.Nat.{ℕ, zero, suc, ◌+◌, ◌-◌, ◌<◌, ◌≤◌}
use mathlib.Core.Path.{◌≡◌, refl, sym, ap, ap₂, ◌∙◌}
use mathlib.Core.List.{List, [], ◌∷◌, ◌++◌, map, map-append, append-nil}
use mathlib.Core.Bool.{Bool, true, false}
use native.Mathlib.Omega.{arith}
use native.Mathlib.Numerals.{add-one}
use borrow.Author.Tests.{eqb-true, eqb-false, eq-eqb, ne_eqb, ltb-true, ltb-false}
use lib.ListN.{length, take, drop, get_or, set, length-set}
use lib.Seq.{append_snoc, take-nil, take-suc-set, get_or-set_same, get_or-set_other, length-take-le}
use lib.Dec.{ltb, eqb}
use Rattle.tally.specs.Tests.{pick}
use Rattle.text.specs.Part.{part, nowhere, text_of, most_parts, empty_parts, with_part, texts_of}
use Rattle.text.specs.declared.Part.{Part}
use Rattle.text.specs.declared.Parts.{Parts}
use Rattle.text.proofs.PartsLaws.{texts-length}
use Rattle.fields.specs.Field.{management, field_of}
use Rattle.fields.specs.declared.Field.{Field}
use Rattle.fields.specs.declared.Field.TheVariants.{Skipped, Malformed, Says}
use Rattle.fields.proofs.FieldLaws.{Fits, field_fits}
use Rattle.walk.specs.Walk.{Placed}
use Rattle.found.specs.Contents.{on_field, contents}
use Rattle.found.specs.Found.{nothing, noted, gather}
use Rattle.found.specs.declared.Found.{Found}
use Rattle.found.proofs.MarkLaws.{In, AllIn, content-lies, tlv_of}

-- the first n of a list that grows at its end

grows : {A : Type 0} (n : ℕ) (l : List A) (x : A) → length (take n l) < n → take n (l ++ (x ∷ [])) ≡ take n l ++ (x ∷ [])
grows zero l x h = absurd (omega arith)
grows (suc n) [] x h = ap (λ t. x ∷ t) (take-nil n)
grows (suc n) (y ∷ l) x h = ap (λ t. y ∷ t) (grows n l x (omega arith))

full : {A : Type 0} (n : ℕ) (l : List A) (x : A) → n ≤ length (take n l) → take n (l ++ (x ∷ [])) ≡ take n l
full zero l x h = refl
full (suc n) [] x h = absurd (omega arith)
full (suc n) (y ∷ l) x h = ap (λ t. y ∷ t) (full n l x (omega arith))

-- Parts and the contents that were met

pub record Lists (s : List ℕ) (l : Parts) (cs : List (List ℕ)) : Type 0 where
  pub long : length l.parts ≡ most_parts
  pub few : l.count ≤ most_parts
  pub texts : texts_of s l ≡ take most_parts cs
  pub inside : (i : ℕ) → (get_or l.parts i nowhere).start + (get_or l.parts i nowhere).len ≤ length s

module _ (s : List ℕ) (l : Parts) (cs : List (List ℕ)) (i : Lists s l cs) where
  counted : l.count ≡ length (take most_parts cs)
  counted = sym (length-take-le l.count l.parts (omega (arith, i.long, i.few))) ∙ sym (texts-length s l) ∙ ap length i.texts

  -- with the part p of one content more
  lists-more : (p : Part) (c : List ℕ) → p.start + p.len ≤ length s → text_of s p ≡ c → Lists s (with_part l p) (cs ++ (c ∷ []))
  unfolding with_part
  lists-more p c f e = go (ltb l.count most_parts) refl
    where
      kept : (k : ℕ) → l.count < most_parts → (get_or (set l.parts l.count p) k nowhere).start + (get_or (set l.parts l.count p) k nowhere).len ≤ length s
      kept k h = at (eqb k l.count) refl
        where
          at : (t : Bool) → eqb k l.count ≡ t → (get_or (set l.parts l.count p) k nowhere).start + (get_or (set l.parts l.count p) k nowhere).len ≤ length s
          at true q = rw (eqb-true k l.count q, get_or-set_same l.parts l.count p nowhere (omega (arith, i.long))) f
          at false q = rw (get_or-set_other l.parts l.count k p nowhere (eqb-false k l.count q)) (i.inside k)

      go : (t : Bool) → ltb l.count most_parts ≡ t
          → Lists s (pick t (record { count = l.count + 1; parts = set l.parts l.count p }) l) (cs ++ (c ∷ []))
      go true t =
          let h : l.count < most_parts = ltb-true l.count most_parts t in
          record {
            long = length-set l.parts l.count p ∙ i.long;
            few = omega arith;
            texts =
                ap (λ (n : ℕ). map (text_of s) (take n (set l.parts l.count p))) (add-one l.count)
                ∙ ap (map (text_of s)) (take-suc-set l.parts l.count p (omega (arith, i.long)))
                ∙ map-append (text_of s) (take l.count l.parts) (p ∷ [])
                ∙ ap₂ (λ (x : List (List ℕ)) (y : List ℕ). x ++ (y ∷ [])) i.texts e
                ∙ sym (grows most_parts cs c (omega (arith, counted)));
            inside = λ k. kept k h;
          }
      go false t =
          record {
            long = i.long;
            few = i.few;
            texts = i.texts ∙ sym (full most_parts cs c (omega (arith, counted, ltb-false l.count most_parts t)));
            inside = i.inside;
          }

-- What is gathered

module _ (s : List ℕ) where
  noted-lists : (f : Found) (p : Placed) (cs : List (List ℕ)) → In s p → Lists s f.management cs → (x : Field) → Fits p.tlv.body x → (more : List (List ℕ))
      → (c : List (List ℕ)) × ((cs ++ on_field x management p.tlv.body more ≡ c ++ more) × Lists s (noted f x p.start (length p.tlv.body)).management c)
  unfolding noted
  noted-lists f p cs i m Skipped h more = (cs, (refl, m))
  noted-lists f p cs i m Malformed h more = (cs, (refl, m))
  noted-lists f p cs i m (Says n skip) h more = go (eqb n management) refl
    where
      b : List ℕ
      b = p.tlv.body

      put : Part
      put = part (p.start + skip) (length p.tlv.body - skip)

      go : (t : Bool) → eqb n management ≡ t
          → (c : List (List ℕ)) × ((cs ++ pick (eqb management n) (drop skip p.tlv.body ∷ more) more ≡ c ++ more)
          × Lists s (pick t (with_part f.management put) f.management) c)
      go true e =
          let same : management ≡ n = sym (eqb-true n management e) in
          rw (eq-eqb management n same) (
            cs ++ (drop skip b ∷ []),
            (sym (append_snoc cs (drop skip b) more), lists-more s f.management cs m put (drop skip b) (omega (arith, i.fits, h.inside)) (content-lies s p skip i)),
          )
      go false e = rw (ne_eqb management n (λ q. eqb-false n management e (sym q))) (cs, (refl, m))

  gather-lists : (f : Found) (ps : List Placed) (cs : List (List ℕ)) → AllIn s ps → Lists s f.management cs
      → Lists s (gather f ps).management (cs ++ contents management (map tlv_of ps))
  unfolding gather contents
  gather-lists f [] cs i m = rw (append-nil cs) m
  gather-lists f (p ∷ ps) cs i m =
      let b = p.tlv.body in
      let x = field_of p.tlv.kind b in
      let d = noted-lists f p cs i.0 m x (field_fits b p.tlv.kind) (contents management (map tlv_of ps)) in
      rw d.1.0 (gather-lists (noted f x p.start (length b)) ps d.0 i.1 d.1.1)

  none_inside : (i : ℕ) → (get_or empty_parts.parts i nowhere).start + (get_or empty_parts.parts i nowhere).len ≤ length s
  none_inside zero = omega arith
  none_inside (suc zero) = omega arith
  none_inside (suc (suc zero)) = omega arith
  none_inside (suc (suc (suc zero))) = omega arith
  none_inside (suc (suc (suc (suc i)))) = omega arith

  pub management-means : (ps : List Placed) → AllIn s ps → Lists s (gather nothing ps).management (contents management (map tlv_of ps))
  management-means ps i =
      gather-lists nothing ps [] i (record { long = refl; few = omega arith; texts = refl; inside = none_inside })
