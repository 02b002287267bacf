-- The reading means the answer of the rules: texts, link information, extension link information, address list and system fields, beside the verdict.
-- `reading-means` is the theorem; the code cites the laws of its survey and `reads-exactly`.
use Prim.{Unit, tt}
use Prim.Native.Nat.{ℕ, zero, suc, ◌+◌, ◌*◌, ◌<◌, ◌≤◌}
use mathlib.Core.Path.{◌≡◌, refl, sym, ap, ap₂, ◌∙◌}
use mathlib.Core.List.{List, [], ◌∷◌}
use mathlib.Core.Bool.{Bool, true, false}
use mathlib.Core.Option.{some}
use native.Mathlib.Omega.{arith}
use borrow.Author.Tests.{eqb-true, eq-eqb}
use lib.ListN.{length, drop, get_or, length-drop}
use lib.Seq.{get_or-drop, length-take-le}
use lib.Dec.{eqb}
use Rattle.tally.specs.Tests.{pick}
use Rattle.octets.proofs.PartLaws.{part-of-part, rest-of-part}
use Rattle.links.specs.Link.{type_count, number_count, address_count, link_ok}
use Rattle.fields.specs.Field.{port_description, category, manufacturer, model_name, model_number, link, address_list, extension, topics, field_of}
use Rattle.fields.specs.declared.Field.{Field}
use Rattle.fields.specs.declared.Field.TheVariants.{Skipped, Malformed, Says}
use Rattle.links.proofs.LinkLaws.{link-has}
use Rattle.fields.proofs.FieldLaws.{Fits, field_fits}
use Rattle.walk.specs.Walk.{Tlv, Walked, walk, Extent}
use Rattle.lldpdu.specs.Extent.{rest_place, rest_of, extent_of}
use Rattle.lldpdu.specs.Leading.{front_of}
use Rattle.lldpdu.specs.Outline.{outline_in, outline_at}
use Rattle.text.specs.Part.{optional_text}
use Rattle.found.specs.Found.{nothing, mark_of, gather, survey_by, htip_in}
use Rattle.reading.specs.Reading.{link_at, optional_at, found_in, description_at, reading_at, reading_of}
use Rattle.found.specs.Contents.{on_field, contents, link_in, tlvs_in}
use Rattle.reading.specs.Meaning.{first_link, first_content, said_in, answer_at, answer_of, link_meant, said_by, meant, Reads}
use Rattle.lldpdu.proofs.LeadingLaws.{front-refused, front-on}
use Rattle.found.proofs.MarkLaws.{AllIn, walk-in, text_at, up_to2, Means, topic-means}
use Rattle.found.proofs.VerdictLaws.{htip-means}
use Rattle.system.proofs.SystemLaws.{system-means}
use Rattle.refusal.specs.declared.Refusal.{Refusal}
use Rattle.std.specs.Prelude.{Result, Ok, Err, Option as CodeOption, Some, None}
use Rattle.lldpdu.specs.declared.outline.Outline.{Outline}
use Rattle.found.specs.declared.Mark.{Mark}
use Rattle.found.specs.declared.Survey.{Survey}
use Rattle.reading.specs.declared.Description.{Description}
use Rattle.reading.specs.declared.Link.{Link}
use Rattle.reading.specs.declared.Reading.{Reading}

-- Link information

-- a content of a well formed link information ends with its addresses
abbrev Ends : List ℕ → Type 0
Ends c = length c ≡ 3 + type_count 0 c + number_count 0 c + 6 * address_count 0 c

link-ends : (b : List ℕ) → link_ok b ≡ true → Ends (drop 4 b)
link-ends b e =
    let n = type_count 4 b in
    let m = number_count 4 b in
    let place : (i j : ℕ) → 4 + i ≡ j → get_or (drop 4 b) i 0 ≡ get_or b j 0 = λ i j q. get_or-drop 4 b i 0 ∙ ap (λ (k : ℕ). get_or b k 0) q in
    rw (place 0 4 refl, place (1 + n) (5 + n) (omega arith), place (2 + n + m) (6 + n + m) (omega arith))
    (length-drop 4 b ∙ omega (arith, (link-has b e).ends))

-- and so does every content of the topic
abbrev AllEnd : List (List ℕ) → Type 0
AllEnd [] = Unit {0}
AllEnd (c ∷ cs) = Ends c × AllEnd cs

field-ends : (b : List ℕ) (x : Field) (more : List (List ℕ)) → Fits b x → AllEnd more → AllEnd (on_field x link b more)
field-ends b Skipped more h i = i
field-ends b Malformed more h i = i
field-ends b (Says topic skip) more h i = go (eqb link topic) refl
  where
    go : (t : Bool) → eqb link topic ≡ t → AllEnd (pick t (drop skip b ∷ more) more)
    go true e =
        let w = h.linked (sym (eqb-true link topic e)) in
        (rw w.1 (link-ends b w.0), i)
    go false e = i

contents-end : (ts : List Tlv) → AllEnd (contents link ts)
unfolding contents
contents-end [] = tt
contents-end (t ∷ ts) =
    field-ends t.body (field_of t.kind t.body) (contents link ts) (field_fits t.body t.kind) (contents-end ts)

-- a topic that was met has a mark that was set
met : {s : List ℕ} {m : Mark} {c : List ℕ} {cs : List (List ℕ)} → Means s m (c ∷ cs) → eqb m.times 0 ≡ false
met {m = m} {cs = cs} i = go (length cs) i.count
  where
    go : (n : ℕ) → m.times ≡ up_to2 (suc n) → eqb m.times 0 ≡ false
    go zero q = rw q
    go (suc n) q = rw q

-- the parts of a link information lie in a text of n octets
abbrev pub LinkFits : ℕ → CodeOption Link → Type 0
LinkFits n None = Unit {0}
LinkFits n (Some l) = (l.interface.start + l.interface.len ≤ n) × ((l.port.start + l.port.len ≤ n) × (l.addresses.start + l.addresses.len ≤ n))

-- the link information at a mark that was set, by n, m and k of its content
module _ (s : List ℕ) (mark : Mark) (t : eqb mark.times 0 ≡ false) (h : mark.start + mark.len ≤ length s) (e : Ends (text_at s mark)) where
  abbrev n : ℕ
  n = type_count 0 (text_at s mark)

  abbrev m : ℕ
  m = number_count 0 (text_at s mark)

  abbrev k : ℕ
  k = address_count 0 (text_at s mark)

  link-size : mark.len ≡ 3 + n + m + 6 * k
  link-size = sym (length-take-le mark.len (drop mark.start s) (omega (arith, length-drop mark.start s))) ∙ e

  table-means : link_meant s (link_at s mark) ≡ some (link_in (text_at s mark) n m)
  unfolding link_at
  table-means =
      let a = mark.start in
      let size = link-size in
      rw (
        t,
        part-of-part s a mark.len 1 n {j = a + 1} (omega arith) refl,
        part-of-part s a mark.len (2 + n) m {j = a + 2 + n} (omega arith) (omega arith),
        rest-of-part s a mark.len (3 + n + m) (6 * k) {j = a + 3 + n + m} size (omega arith),
      )

  table_fits : LinkFits (length s) (link_at s mark)
  unfolding link_at
  table_fits =
      let size = link-size in
      rw t (omega arith, (omega arith, omega arith))

link-means : (s : List ℕ) (m : Mark) (cs : List (List ℕ)) → AllEnd cs → Means s m cs → link_meant s (link_at s m) ≡ first_link cs
unfolding link_at
link-means s m [] l i = rw (eq-eqb m.times 0 i.count)
link-means s m (c ∷ cs) l i = table-means s m (met i) i.inside (rw i.text l.0) ∙ ap (λ (x : List ℕ). first_link (x ∷ cs)) i.text

link_fits : (s : List ℕ) (m : Mark) (cs : List (List ℕ)) → AllEnd cs → Means s m cs → LinkFits (length s) (link_at s m)
unfolding link_at
link_fits s m [] l i = rw (eq-eqb m.times 0 i.count) tt
link_fits s m (c ∷ cs) l i = table_fits s m (met i) i.inside (rw i.text l.0)

optional-means : (s : List ℕ) (m : Mark) (cs : List (List ℕ)) → Means s m cs → optional_text s (optional_at m) ≡ first_content cs
unfolding optional_at
optional-means s m [] i = rw (eq-eqb m.times 0 i.count)
optional-means s m (c ∷ cs) i = rw (met i) (ap some i.text)

-- The whole answer

pub rest_in : (s : List ℕ) → AllIn s (rest_of s).tlvs
rest_in s = walk-in s (drop (rest_place s) s) 0 (rest_place s) refl

pub marks-inside : (s : List ℕ) (topic : ℕ) → topic < topics → (mark_of topic (found_in s)).start + (mark_of topic (found_in s)).len ≤ length s
marks-inside s topic h = (topic-means s topic (rest_of s).tlvs h (rest_in s)).inside

pub reading-link-fits : (s : List ℕ) → LinkFits (length s) (link_at s (mark_of link (found_in s)))
reading-link-fits s =
    link_fits s (mark_of link (found_in s)) (contents link (tlvs_in s)) (contents-end (tlvs_in s)) (topic-means s link (rest_of s).tlvs (omega arith) (rest_in s))

said-means : (s : List ℕ) (e : ℕ) → said_by s (description_at s (outline_in e s) (found_in s)) ≡ said_in s (tlvs_in s)
said-means s e =
    let m : (t : ℕ) → t < topics → Means s (mark_of t (found_in s)) (contents t (tlvs_in s)) = λ t h. topic-means s t (rest_of s).tlvs h (rest_in s) in
    rw (
      (m port_description (omega arith)).text,
      (m category (omega arith)).text,
      (m manufacturer (omega arith)).text,
      (m model_name (omega arith)).text,
      (m model_number (omega arith)).text,
      link-means s (mark_of link (found_in s)) (contents link (tlvs_in s)) (contents-end (tlvs_in s)) (m link (omega arith)),
      optional-means s (mark_of extension (found_in s)) (contents extension (tlvs_in s)) (m extension (omega arith)),
      optional-means s (mark_of address_list (found_in s)) (contents address_list (tlvs_in s)) (m address_list (omega arith)),
      system-means s (rest_of s).tlvs (rest_in s),
    )

pub reading-means : (s : List ℕ) → meant s (reading_of s) ≡ answer_of s
unfolding reading_of answer_of
reading-means s = go (extent_of s)
  where
    go : (x : Extent) → meant s (reading_at x s) ≡ answer_at x s
    go (Err r) = refl
    go (Ok e) = rw (htip-means s (rest_of s).tlvs (rest_in s), said-means s e)

-- the one answer means what it should
pub reads-exactly : (s : List ℕ) {r : Result Reading Refusal} → r ≡ reading_of s → Reads s r
reads-exactly s e = record { exact = e; means = ap (meant s) e ∙ reading-means s }

-- What the code has in hand of an LLDPDU: its first three TLVs, and what was gathered behind them

by-extent : (s : List ℕ) {x : Extent} → extent_of s ≡ x → reading_at x s ≡ reading_of s
unfolding reading_of
by-extent s e = ap (λ (x : Extent). reading_at x s) (sym e)

-- o is the outline of the first three
module _ (s : List ℕ) {o : Result Outline Refusal} (t : o ≡ outline_at (front_of s) s) where
  pub refuses : {r : Refusal} → o ≡ Err r → Err r ≡ reading_of s
  refuses {r} e = go (front_of s) refl (sym t ∙ e)
    where
      go : (x : Extent) → front_of s ≡ x → outline_at x s ≡ Err r → Err r ≡ reading_of s
      go (Err m) q w = let z : r ≡ m = cc in ap Err z ∙ by-extent s (front-refused s q)
      go (Ok e) q w = cc

  pub goes_on : {l : Outline} → o ≡ Ok l → (front_of s ≡ Ok l.octets) × (l ≡ outline_in l.octets s)
  goes_on {l} e = go (front_of s) refl (sym t ∙ e)
    where
      go : (x : Extent) → front_of s ≡ x → outline_at x s ≡ Ok l → (front_of s ≡ Ok l.octets) × (l ≡ outline_in l.octets s)
      go (Err m) q w = cc
      go (Ok n) q w =
          let z : outline_in n s ≡ l = cc in
          let k = ap (λ (y : Outline). y.octets) z in
          (q ∙ ap Ok k, sym z ∙ ap (λ (m : ℕ). outline_in m s) k)

-- v is what was gathered behind them
module _ (s : List ℕ) {from : ℕ} (t : front_of s ≡ Ok from) {v : Survey} (g : v ≡ survey_by nothing (walk (drop from s) 0 from)) where
  rest-is : walk (drop from s) 0 from ≡ rest_of s
  rest-is = ap (λ (n : ℕ). walk (drop n s) 0 n) (front-on s t).0

  extent-is : {x : Extent} → v.extent ≡ x → extent_of s ≡ x
  unfolding survey_by
  extent-is e = (front-on s t).1 ∙ ap (λ (w : Walked). w.extent) (sym rest-is) ∙ ap (λ (y : Survey). y.extent) (sym g) ∙ e

  found-is : v.found ≡ found_in s
  unfolding survey_by
  found-is = ap (λ (y : Survey). y.found) g ∙ ap (λ (w : Walked). gather nothing w.tlvs) rest-is

  pub walk-refuses : {r : Refusal} → v.extent ≡ Err r → Err r ≡ reading_of s
  walk-refuses e = by-extent s (extent-is e)

  pub ready : (mark_of link v.found).start ≤ length s
  ready =
      let inside = marks-inside s link (omega arith) in
      rw found-is (omega arith)

  pub assembled : {e : ℕ} → v.extent ≡ Ok e → {o : Outline} → o ≡ outline_in from s
      → {h : Bool} {d : Description} → h ≡ htip_in v.found → d ≡ description_at s o v.found
      → Ok (record { octets = e; htip = h; description = d }) ≡ reading_of s
  assembled {e = e} u o x y =
      let d = y ∙ ap₂ (description_at s) o found-is in
      let h = x ∙ ap htip_in found-is in
      (λ i. Ok (record { octets = e; htip = h i; description = d i })) ∙ by-extent s (extent-is u)

-- a refusal of the first three TLVs, which is all of the answer
pub refused_front : (s : List ℕ) {r : Refusal} → outline_at (front_of s) s ≡ Err r → front_of s ≡ Err r
refused_front s {r} e = go (front_of s) refl e
  where
    go : (x : Extent) → front_of s ≡ x → outline_at x s ≡ Err r → front_of s ≡ Err r
    go (Err m) q w = let z : r ≡ m = cc in q ∙ ap Err (sym z)
    go (Ok e) q w = cc

pub reads_front : (s : List ℕ) {r : Refusal} → front_of s ≡ Err r → Reads s (Err r)
reads_front s e = reads-exactly s (by-extent s (front-refused s e))
