-- What the marks mean: for each topic, how often it was met and its first content, as specs/Contents.antt says them.
-- One induction over the TLVs, with the contents that were met before them.
use Prim.{Unit, tt}
use Prim.Native.Nat.{ℕ, zero, suc, ◌+◌, ◌-◌, ◌<◌, ◌≤◌}
use mathlib.Core.Path.{◌≡◌, refl, sym, ap, ap₂, ◌∙◌}
use mathlib.Core.List.{List, [], ◌∷◌, ◌++◌, map, append-nil}
use mathlib.Core.Bool.{Bool, true, false, not}
use native.Mathlib.Omega.{arith}
use native.Mathlib.Numerals.{add-one}
use borrow.Author.Tests.{eqb-true, eqb-false, eq-eqb, ne_eqb}
use lib.ListN.{length, take, drop, get_or, set, length-append, length-set, length-drop, get_or-replicate}
use lib.Seq.{drop-drop, append_snoc, get_or-set_same, get_or-set_other, length-take-le}
use lib.Dec.{eqb}
use Rattle.tally.specs.Tests.{pick, both, either}
use Rattle.octets.specs.Header.{length_in}
use Rattle.octets.proofs.PartLaws.{drop-take}
use Rattle.fields.specs.Field.{topics, management, field_of}
use Rattle.fields.specs.declared.Field.{Field}
use Rattle.fields.specs.declared.Field.TheVariants.{Skipped, Malformed, Says}
use Rattle.fields.proofs.FieldLaws.{Fits, field_fits}
use Rattle.walk.specs.Walk.{Tlv, Placed, head_of, step_of, Walked, on_step, walk}
use Rattle.found.specs.Found.{unmarked, nothing, marked_at, mark_of, noted, gather}
use Rattle.found.specs.Contents.{on_field, contents, formed, well_formed, first}
use Rattle.walk.proofs.WalkLaws.{whole, stepped}
use Rattle.walk.specs.declared.Step.{Step}
use Rattle.walk.specs.declared.Step.TheVariants.{End, Next}
use Rattle.refusal.specs.declared.Refusal.{Refusal}
use Rattle.std.specs.Prelude.{Result, Ok, Err}
use Rattle.found.specs.declared.Mark.{Mark}
use Rattle.found.specs.declared.Found.{Found}

-- The TLVs lie in the LLDPDU

pub record In (s : List ℕ) (p : Placed) : Type 0 where
  pub fits : p.start + length p.tlv.body ≤ length s
  pub lies : take (length p.tlv.body) (drop p.start s) ≡ p.tlv.body

abbrev pub AllIn : List ℕ → List Placed → Type 0
AllIn s [] = Unit {0}
AllIn s (p ∷ ps) = In s p × AllIn s ps

step_in : (s r : List ℕ) (hi lo at : ℕ) (more : Walked) → drop at s ≡ hi ∷ lo ∷ r → AllIn s more.tlvs
    → (x : Result Step Refusal) → step_of (head_of (hi ∷ lo ∷ r)) at ≡ x → AllIn s (on_step x (take (length_in hi lo) r) more).tlvs
step_in s r hi lo at more d ih (Err why) e = tt
step_in s r hi lo at more d ih (Ok (End end)) e = tt
step_in s r hi lo at more d ih (Ok (Next kind start len)) e =
    let t = stepped (head_of (hi ∷ lo ∷ r)) at e in
    let w = whole (hi ∷ lo ∷ r) kind len t.head in
    let n = length_in hi lo in
    let size : length s - at ≡ suc (suc (length r)) = sym (length-drop at s) ∙ ap length d in
    let l : length (take n r) ≡ n = length-take-le n r (omega arith) in
    let here : drop start s ≡ r = ap (λ (k : ℕ). drop k s) t.place ∙ sym (drop-drop 2 at s) ∙ ap (drop 2) d in
    (record { fits = omega (arith, t.place, l); lies = ap₂ take l here }, ih)

pub walk-in : (s l : List ℕ) (k at : ℕ) → drop at s ≡ l → AllIn s (walk l k at).tlvs
unfolding walk
walk-in s [] k at d = tt
walk-in s (x ∷ l) (suc k) at d = walk-in s l k (at + 1) (sym (drop-drop 1 at s) ∙ ap (drop 1) d)
walk-in s (hi ∷ []) zero at d = tt
walk-in s (hi ∷ lo ∷ r) zero at d =
    step_in s r hi lo at (walk r (length_in hi lo) (at + 2)) d
    (walk-in s r (length_in hi lo) (at + 2) (sym (drop-drop 2 at s) ∙ ap (drop 2) d))
    (step_of (head_of (hi ∷ lo ∷ r)) at)
    refl

-- The contents lie there too

abbrev pub text_at : List ℕ → Mark → List ℕ
text_at s m = take m.len (drop m.start s)

-- the content behind `skip` octets of an information string, by its place
pub content-lies : (s : List ℕ) (p : Placed) (skip : ℕ) → In s p
    → take (length p.tlv.body - skip) (drop (p.start + skip) s) ≡ drop skip p.tlv.body
content-lies s p skip i =
    let n = length p.tlv.body in
    ap (take (n - skip)) (sym (drop-drop skip p.start s)) ∙ sym (drop-take skip n (drop p.start s)) ∙ ap (drop skip) i.lies

-- A mark and the contents that were met

abbrev pub up_to2 : ℕ → ℕ
up_to2 zero = 0
up_to2 (suc zero) = 1
up_to2 (suc (suc n)) = 2

pub record Means (s : List ℕ) (m : Mark) (cs : List (List ℕ)) : Type 0 where
  pub count : m.times ≡ up_to2 (length cs)
  pub text : text_at s m ≡ first cs
  pub inside : m.start + m.len ≤ length s

means-more : (s : List ℕ) (m : Mark) (cs : List (List ℕ)) (c : List ℕ) (start len : ℕ)
    → start + len ≤ length s → take len (drop start s) ≡ c → Means s m cs → Means s (marked_at m start len) (cs ++ (c ∷ []))
unfolding marked_at
means-more s m [] c start len f e i =
    rw (eq-eqb m.times 0 i.count) (record { count = refl; text = e; inside = f })
means-more s m (x ∷ cs) c start len f e i =
    let t : eqb m.times 0 ≡ false = more (length cs) i.count in
    rw t
    (record {
      count = sym (ap (λ (n : ℕ). up_to2 (suc n)) (length-append cs (c ∷ []) ∙ add-one (length cs)));
      text = i.text;
      inside = i.inside;
    })
  where
    more : (n : ℕ) → m.times ≡ up_to2 (suc n) → eqb m.times 0 ≡ false
    more zero q = rw q
    more (suc n) q = rw q

-- What is gathered

abbrev pub tlv_of : Placed → Tlv
tlv_of p = p.tlv

module _ (s : List ℕ) (topic : ℕ) (known : topic < topics) where
  -- marks with the contents that were met of the topic, where those and what is to come are `whole`
  abbrev Marked : List Mark → List (List ℕ) → List (List ℕ) → Type 0
  Marked marks whole more =
      (c : List (List ℕ)) × ((whole ≡ c ++ more) × ((length marks ≡ topics) × Means s (get_or marks topic unmarked) c))

  -- one TLV more
  noted-means : (f : Found) (p : Placed) (cs : List (List ℕ)) → length f.marks ≡ topics → In s p → Means s (mark_of topic f) cs
      → (x : Field) → Fits p.tlv.body x → (more : List (List ℕ))
      → Marked (noted f x p.start (length p.tlv.body)).marks (cs ++ on_field x topic p.tlv.body more) more
  unfolding noted
  noted-means f p cs l i m Skipped h more = (cs, (refl, (l, m)))
  noted-means f p cs l i m Malformed h more = (cs, (refl, (l, m)))
  noted-means f p cs l i m (Says n skip) h more = at (eqb n management) refl
    where
      b : List ℕ
      b = p.tlv.body

      put : Mark
      put = marked_at (mark_of n f) (p.start + skip) (length p.tlv.body - skip)

      long : length (set f.marks n put) ≡ topics
      long = length-set f.marks n put ∙ l

      go : (t : Bool) → eqb topic n ≡ t → Marked (set f.marks n put) (cs ++ pick t (drop skip p.tlv.body ∷ more) more) more
      go true e =
          let same : topic ≡ n = eqb-true topic n e in
          let at : get_or (set f.marks n put) n unmarked ≡ put = get_or-set_same f.marks n put unmarked (omega arith) in
          let made = means-more s (mark_of topic f) cs (drop skip b) (p.start + skip) (length b - skip) (omega (arith, i.fits, h.inside)) (content-lies s p skip i) m in
          (cs ++ (drop skip b ∷ []), (sym (append_snoc cs (drop skip b) more), (long, rw (same, at) (rw same at made))))
      go false e =
          let at : get_or (set f.marks n put) topic unmarked ≡ mark_of topic f = get_or-set_other f.marks n topic put unmarked (eqb-false topic n e) in
          (cs, (refl, (long, rw at m)))

      -- a management address leaves the marks as they are
      at : (t : Bool) → eqb n management ≡ t
          → Marked (pick t f.marks (set f.marks n put)) (cs ++ pick (eqb topic n) (drop skip p.tlv.body ∷ more) more) more
      at true e = rw (ne_eqb topic n (λ q. omega (arith, eqb-true n management e))) (cs, (refl, (l, m)))
      at false e = go (eqb topic n) refl

  gather-means : (f : Found) (ps : List Placed) (cs : List (List ℕ)) → length f.marks ≡ topics → AllIn s ps → Means s (mark_of topic f) cs
      → Means s (mark_of topic (gather f ps)) (cs ++ contents topic (map tlv_of ps))
  unfolding gather contents
  gather-means f [] cs l i m = rw (append-nil cs) m
  gather-means f (p ∷ ps) cs l i m =
      let b = p.tlv.body in
      let x = field_of p.tlv.kind b in
      let d = noted-means f p cs l i.0 m x (field_fits b p.tlv.kind) (contents topic (map tlv_of ps)) in
      rw d.1.0 (gather-means (noted f x p.start (length b)) ps d.0 d.1.1.0 i.1 d.1.1.1)

-- whether anything was malformed
pub gather-formed : (f : Found) (ps : List Placed) → (gather f ps).malformed ≡ either f.malformed (not (well_formed (map tlv_of ps)))
unfolding gather well_formed noted
gather-formed f [] = last f.malformed
  where
    last : (b : Bool) → b ≡ either b false
    last true = refl
    last false = refl
gather-formed f (p ∷ ps) =
    go (field_of p.tlv.kind p.tlv.body) (λ g. gather-formed g ps)
  where
    done : (b : Bool) → true ≡ either b true
    done true = refl
    done false = refl

    go : (x : Field) → ((g : Found) → (gather g ps).malformed ≡ either g.malformed (not (well_formed (map tlv_of ps))))
        → (gather (noted f x p.start (length p.tlv.body)) ps).malformed
        ≡ either f.malformed (not (both (formed x) (well_formed (map tlv_of ps))))
    go Skipped ih = ih (noted f Skipped p.start (length p.tlv.body))
    go Malformed ih = ih (noted f Malformed p.start (length p.tlv.body)) ∙ done f.malformed
    go (Says n skip) ih = ih (noted f (Says n skip) p.start (length p.tlv.body))

-- from nothing
none-means : (s : List ℕ) {m : Mark} → m ≡ unmarked → Means s m []
none-means s e = rw e (record { count = refl; text = refl; inside = omega arith })

pub topic-means : (s : List ℕ) (topic : ℕ) (ps : List Placed) → topic < topics → AllIn s ps
    → Means s (mark_of topic (gather nothing ps)) (contents topic (map tlv_of ps))
topic-means s topic ps known i =
    gather-means s topic known nothing ps [] refl i (none-means s (get_or-replicate topics topic unmarked unmarked known))
