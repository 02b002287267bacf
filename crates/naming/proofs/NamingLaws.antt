-- Laws of who sees an address: one step of the walk in the shape of the loop, and what well formed link information of either kind lends.
-- The loop cites naming-hit and naming-miss with the information string as it has it.
use Prim.Native.Nat.{ℕ, ◌+◌, ◌*◌, ◌≤◌}
use mathlib.Core.Path.{◌≡◌, refl, sym, ap, ◌∙◌, fun_ext}
use mathlib.Core.List.{List, [], ◌∷◌, map}
use mathlib.Core.Option.{Option}
use mathlib.Core.Bool.{Bool, true, false, true≢false}
use native.Mathlib.Omega.{arith}
use borrow.Author.Tests.{eqb-true}
use lib.ListN.{length, take, drop, get_or, length-drop}
use lib.Seq.{drop-drop, get_or-drop}
use lib.Dec.{eqb}
use Rattle.tally.specs.Tests.{pick, both}
use Rattle.tally.specs.Ranges as ranges
use Rattle.octets.specs.Address.{six_at, same_octets}
use Rattle.links.specs.Link.{type_count, number_count, names_of}
use Rattle.extension.specs.Layout.{extension_ok, extension_names}
use Rattle.extension.specs.Table.{table_from}
use Rattle.extension.proofs.LayoutLaws.{extension-has}
use Rattle.extension.proofs.TableLaws.{names_table}
use Rattle.fields.specs.Field.{link, extension, field_of}
use Rattle.fields.specs.declared.Field.{Field}
use Rattle.fields.specs.declared.Field.TheVariants.{Skipped, Malformed, Says}
use Rattle.links.proofs.LinkLaws.{link-has}
use Rattle.fields.proofs.FieldLaws.{Fits, field_fits}
use Rattle.walk.specs.Walk.{Placed, head_of, step_of, Walked, walk, Extent}
use Rattle.lldpdu.specs.Extent.{rest_of, extent_of}
use Rattle.refusal.specs.Refusal.{refusal_of}
use Rattle.refusal.specs.declared.Refusal.{Refusal}
use Rattle.std.specs.Prelude.{Ok, Err, Option as CodeOption, Some, None}
use Rattle.naming.specs.Naming.{Answer, numbers_named, numbers_of, sees, sees_in, number_in, numbers_in, Numbered, first_naming, naming_at, naming_of, seen_by_link, seen_by_table, seen_by, first_seen, seen_at, Names}
use Rattle.naming.specs.declared.Number.{Number}
use Rattle.naming.specs.declared.Naming.{Naming}
use Rattle.walk.proofs.WalkLaws.{walk_refused, walk_end, walk-next}
use Rattle.walk.specs.declared.Step.TheVariants.{End, Next}

-- n and m stand in the content where they stand in the information string, four octets on
module _ (b : List ℕ) where
  place : (i j : ℕ) → 4 + i ≡ j → get_or (drop 4 b) i 0 ≡ get_or b j 0
  place i j q = get_or-drop 4 b i 0 ∙ ap (λ (k : ℕ). get_or b k 0) q

  types_same : type_count 0 (drop 4 b) ≡ type_count 4 b
  types_same = place 0 4 refl

  numbers-same : number_count 0 (drop 4 b) ≡ number_count 4 b
  numbers-same = rw types_same (place (1 + type_count 4 b) (5 + type_count 4 b) (omega arith))

-- what sees an address is well formed, so that its two numbers lie inside
extension-numbered : (b : List ℕ) → extension_ok (drop 4 b) ≡ true → Numbered b
extension-numbered b e =
    let h = extension-has (drop 4 b) e in
    record {
      type_short = omega (arith, h.type_short, types_same b);
      number_short = omega (arith, h.number_short, numbers-same b);
      inside = omega (arith, h.inside, types_same b, numbers-same b, length-drop 4 b);
    }

pub sees-numbered : (kind : ℕ) (b a : List ℕ) → sees_in kind b a ≡ true → Numbered b
sees-numbered kind b a e = go (field_of kind b) (field_fits b kind) e
  where
    go : (x : Field) → Fits b x → sees x b a ≡ true → Numbered b
    go Skipped h q = absurd (true≢false (sym q))
    go Malformed h q = absurd (true≢false (sym q))
    go (Says topic skip) h q = by-topic (eqb topic link) refl (eqb topic extension) refl q
      where
        by-topic : (u : Bool) → eqb topic link ≡ u → (v : Bool) → eqb topic extension ≡ v
            → pick u (names_of b a) (both v (extension_names (drop skip b) a)) ≡ true → Numbered b
        by-topic true l v x w =
            let h = link-has b (h.linked (eqb-true topic link l)).0 in
            record { type_short = h.type_short; number_short = h.number_short; inside = omega (arith, h.ends) }
        by-topic false l true x w = extension-numbered b (h.extended (eqb-true topic extension x)).0
        by-topic false l false x w = absurd (true≢false (sym w))

-- with the two counts as the code has read them
module _ (b : List ℕ) {n m : ℕ} (p : n ≡ get_or b 4 0) (q : m ≡ get_or b (5 + n) 0) where
  pub counts-short : Numbered b → (n ≤ 4) × ((m ≤ 4) × (6 + n + m ≤ length b))
  counts-short h = rw (q, p) (h.type_short, (h.number_short, h.inside))

  pub numbers-at : record { interface = number_in (take n (drop 5 b)); port = number_in (take m (drop (6 + n) b)) } ≡ numbers_in b
  unfolding numbers_in
  numbers-at = rw (q, p)

module _ (s : List ℕ) (at : ℕ) (a : List ℕ) where
  pub naming_refused : {r : Refusal} → step_of (head_of (drop at s)) at ≡ Err r → first_naming a (walk (drop at s) 0 at).tlvs ≡ None
  unfolding first_naming
  naming_refused e = ap (λ (w : Walked). first_naming a w.tlvs) (walk_refused s at e)

  pub naming_end : {end : ℕ} → step_of (head_of (drop at s)) at ≡ Ok (End end) → first_naming a (walk (drop at s) 0 at).tlvs ≡ None
  unfolding first_naming
  naming_end e = ap (λ (w : Walked). first_naming a w.tlvs) (walk_end s at e)

  module _ {kind start len : ℕ} (e : step_of (head_of (drop at s)) at ≡ Ok (Next kind start len)) where
    naming-next : first_naming a (walk (drop at s) 0 at).tlvs
        ≡ pick (sees_in kind (take len (drop start s)) a) (Some (numbers_in (take len (drop start s))))
        (first_naming a (walk (drop (start + len) s) 0 (start + len)).tlvs)
    unfolding first_naming
    naming-next = ap (λ (w : Walked). first_naming a w.tlvs) (walk-next s at e)

    -- with the information string b as the code has it
    module _ {b : List ℕ} (p : b ≡ take len (drop start s)) where
      pub naming-hit : sees_in kind b a ≡ true → first_naming a (walk (drop at s) 0 at).tlvs ≡ Some (numbers_in b)
      naming-hit i = naming-next ∙ rw (← p, i)

      pub naming-miss : sees_in kind b a ≡ false → first_naming a (walk (drop at s) 0 at).tlvs ≡ first_naming a (walk (drop (start + len) s) 0 (start + len)).tlvs
      naming-miss i = naming-next ∙ rw (← p, i)

-- What the answer says

-- it is refused exactly as the LLDPDU is, with the same number
pub naming-refusal : (s a : List ℕ) → refusal_of (naming_of s a) ≡ refusal_of (extent_of s)
unfolding naming_of
naming-refusal s a = go (extent_of s)
  where
    go : (x : Extent) → refusal_of (naming_at x s a) ≡ refusal_of x
    go (Err r) = refl
    go (Ok e) = refl

-- a content names what the information string names, and has its numbers
module _ (b a : List ℕ) where
  six-place : (i j : ℕ) → 4 + i ≡ j → six_at (drop 4 b) i ≡ six_at b j
  unfolding six_at
  six-place i j q =
      rw (
        place b i j q,
        place b (i + 1) (j + 1) (omega arith),
        place b (i + 2) (j + 2) (omega arith),
        place b (i + 3) (j + 3) (omega arith),
        place b (i + 4) (j + 4) (omega arith),
        place b (i + 5) (j + 5) (omega arith),
      )

  names-content : (n m : ℕ) → ranges.some_below (λ i. same_octets (six_at (drop 4 b) (3 + n + m + 6 * i)) a) ≡ ranges.some_below (λ i. same_octets (six_at b (7 + n + m + 6 * i)) a)
  names-content n m = ap ranges.some_below (fun_ext (λ i. ap (λ (x : List ℕ). same_octets x a) (six-place (3 + n + m + 6 * i) (7 + n + m + 6 * i) (omega arith))))

  rest-place : (i j : ℕ) → 4 + i ≡ j → drop i (drop 4 b) ≡ drop j b
  rest-place i j q = drop-drop i 4 b ∙ ap (λ (k : ℕ). drop k b) q

  link-content : (more : Option (Number × Number))
      → seen_by_link a (drop 4 b) (type_count 0 (drop 4 b)) (number_count 0 (drop 4 b)) more
      ≡ pick (names_of b a) (numbers_named (Some (numbers_in b))) more
  unfolding names_of numbers_in
  link-content more =
      let n = type_count 4 b in
      let m = number_count 4 b in
      rw (
        types_same b,
        place b (1 + n) (5 + n) (omega arith),
        place b (2 + n + m) (6 + n + m) (omega arith),
        names-content n m,
        rest-place 1 5 refl,
        rest-place (2 + n) (6 + n) (omega arith),
      )

  table-content : extension_ok (drop 4 b) ≡ true → (more : Option (Number × Number))
      → seen_by_table a (table_from (drop 4 b)) more ≡ pick (extension_names (drop 4 b) a) (numbers_named (Some (numbers_in b))) more
  unfolding numbers_in
  table-content e more =
      let n = type_count 4 b in
      rw (
        names_table (drop 4 b) a e,
        types_same b,
        place b (1 + n) (5 + n) (omega arith),
        rest-place 1 5 refl,
        rest-place (2 + n) (6 + n) (omega arith),
      )

picked : (t : Bool) (x y : CodeOption Naming) → numbers_named (pick t x y) ≡ pick t (numbers_named x) (numbers_named y)
picked true x y = refl
picked false x y = refl

-- one TLV in front of the others
field-seen : (a b : List ℕ) (x : Field) (rest : CodeOption Naming) (more : Option (Number × Number)) → Fits b x → numbers_named rest ≡ more
    → numbers_named (pick (sees x b a) (Some (numbers_in b)) rest) ≡ seen_by a x b more
field-seen a b Skipped rest more h ih = ih
field-seen a b Malformed rest more h ih = ih
field-seen a b (Says topic skip) rest more h ih = go (eqb topic link) refl (eqb topic extension) refl
  where
    go : (u : Bool) → eqb topic link ≡ u → (v : Bool) → eqb topic extension ≡ v
        → numbers_named (pick (pick u (names_of b a) (both v (extension_names (drop skip b) a))) (Some (numbers_in b)) rest)
        ≡ pick u (seen_by_link a (drop skip b) (type_count 0 (drop skip b)) (number_count 0 (drop skip b)) more) (pick v (seen_by_table a (table_from (drop skip b)) more) more)
    go true l v x = rw ((h.linked (eqb-true topic link l)).1, link-content b a more, ← ih) (picked (names_of b a) (Some (numbers_in b)) rest)
    go false l true x =
        let w = h.extended (eqb-true topic extension x) in
        rw (w.1, table-content b a w.0 more, ← ih) (picked (extension_names (drop 4 b) a) (Some (numbers_in b)) rest)
    go false l false x = ih

naming-seen : (a : List ℕ) (ps : List Placed) → numbers_named (first_naming a ps) ≡ first_seen a (map (λ p. p.tlv) ps)
unfolding first_naming first_seen
naming-seen a [] = refl
naming-seen a (p ∷ ps) =
    field-seen a p.tlv.body (field_of p.tlv.kind p.tlv.body) (first_naming a ps) (first_seen a (map (λ q. q.tlv) ps)) (field_fits p.tlv.body p.tlv.kind) (naming-seen a ps)

pub naming-numbers : (s a : List ℕ) → numbers_of (naming_of s a) ≡ seen_at (extent_of s) s a
unfolding naming_of
naming-numbers s a = go (extent_of s)
  where
    go : (x : Extent) → numbers_of (naming_at x s a) ≡ seen_at x s a
    go (Err r) = refl
    go (Ok e) = naming-seen a (rest_of s).tlvs

-- on a valid LLDPDU it is the first TLV that names the address
pub valid-naming : (s a : List ℕ) {e : ℕ} → extent_of s ≡ Ok e → Ok (first_naming a (rest_of s).tlvs) ≡ naming_of s a
unfolding naming_of
valid-naming s a v = sym (ap (λ (x : Extent). naming_at x s a) v)

-- the one answer says what it should
pub names-exactly : (s a : List ℕ) {r : Answer} → r ≡ naming_of s a → Names s a r
names-exactly s a e = record { exact = e; refusal = ap refusal_of e ∙ naming-refusal s a; numbers = ap numbers_of e ∙ naming-numbers s a }

-- a refusal alone
pub names_refused : (s a : List ℕ) {r : Refusal} → extent_of s ≡ Err r → Names s a (Err r)
unfolding naming_of
names_refused s a e = names-exactly s a (sym (ap (λ (x : Extent). naming_at x s a) e))
