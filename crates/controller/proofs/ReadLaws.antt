-- What is read crosses to C without loss (X5): the 85 octets mean the description that was read, and the answer its length. That each octet that was lent is below 256 is asked; it is so of any octets.
-- `small-reading` is the theorem; `c-read-means` and `c-read-lldpdu-means` say it for a caller in C, from the contracts of the exports alone.
use Prim.{tt}
use Prim.Native.Nat.{ℕ, zero, suc, ◌+◌, ◌-◌, ◌/◌, ◌%◌, ◌<◌, ◌≤◌}
use borrow.Fn.Kinds.{Dens, res_t, ended_of}
use contract.Lifetimes.{Lfts}
use denote.Triple.Clauses.{AtExit}
use mathlib.Core.Path.{◌≡◌, refl, sym, ap, ◌∙◌}
use mathlib.Core.Bool.{Bool, true, false}
use mathlib.Core.List.{List, [], ◌∷◌}
use native.Mathlib.Omega.{arith}
use lib.Dec.{eqb, ltb}
use lib.ListN.{length, take, drop, get_or, set, length-drop}
use lib.Seq.{get_or-drop, get_or-set_other}
use Rattle.std.specs.Prelude.{Option, Some, None, Result, Ok, Err}
use Rattle.tally.specs.Tests.{pick}
use Rattle.tally.specs.Counts.{one}
use Rattle.octets.specs.Numbers.{pair_of}
use Rattle.text.specs.Part.{part, nowhere, text_of, most_parts, empty_parts, with_part}
use Rattle.text.specs.declared.Part.{Part}
use Rattle.text.specs.declared.Parts.{Parts}
use Rattle.refusal.specs.Refusal.{number_of}
use Rattle.refusal.specs.declared.Refusal.{Refusal}
use Rattle.refusal.specs.declared.Refusal.TheVariants.{NoFrame}
use Rattle.walk.specs.Walk.{Extent, Placed}
use Rattle.fields.specs.Field.{port_description, category, manufacturer, model_name, model_number, link, address_list, extension, system_name, system_description, capabilities, management, topics, field_of}
use Rattle.fields.specs.declared.Field.{Field}
use Rattle.fields.specs.declared.Field.TheVariants.{Skipped, Malformed, Says}
use Rattle.lldpdu.specs.Extent.{port_place, seconds_place, id_at, rest_of, extent_of}
use Rattle.lldpdu.proofs.ExtentLaws.{good}
use Rattle.lldpdu.proofs.Stable.{sized}
use Rattle.lldpdu.proofs.Few.{Few, extent-few}
use Rattle.found.specs.Found.{nothing, part_at, mark_of, noted, gather}
use Rattle.found.specs.declared.Mark.{Mark}
use Rattle.found.specs.declared.Found.{Found}
use Rattle.found.proofs.ManagementLaws.{management-means}
use Rattle.system.specs.System.{short_at, capabilities_in}
use Rattle.system.specs.declared.Capabilities.{Capabilities}
use Rattle.system.proofs.SystemLaws.{short-inside}
use Rattle.reading.specs.Reading.{link_at, optional_at, found_in, reading_at, reading_of}
use Rattle.reading.specs.declared.Link.{Link}
use Rattle.reading.specs.declared.Reading.{Reading}
use Rattle.reading.proofs.MeaningLaws.{LinkFits, reading-link-fits, rest_in, marks-inside}
use Rattle.reader.specs.Frame.{frame_ok, on_frame}
use Rattle.reader.proofs.FrameLaws.{frame-size}
use Rattle.octet_description.specs.Octets.{description_octets, description_in}
use Rattle.octet_description.proofs.OctetsLaws.{SmallPart, SmallOptional, SmallLink, SmallFlags, SmallParts, Small, octets-back}
use Rattle.octet_answers.specs.Answers.{in_numbers, Back, back, read_right, on_reading, verdict_octets, read_answer}
use Rattle.exports.specs.Calls.{frame_reading, looked_at}
use Rattle.exports.proofs.tambolune_read.Kinds as read-kinds
use Rattle.exports.proofs.tambolune_read.Reads as read
use Rattle.exports.proofs.tambolune_read_lldpdu.Kinds as lldpdu-kinds
use Rattle.exports.proofs.tambolune_read_lldpdu.Reads as read-lldpdu

-- A text of octets: each is below 256. So is each of a part of it

abbrev pub Octets : List ℕ → Type 0
Octets s = (i : ℕ) → get_or s i 0 < 256

front-octets : (n : ℕ) (s : List ℕ) → Octets s → Octets (take n s)
front-octets zero s o i = omega arith
front-octets (suc n) [] o i = omega arith
front-octets (suc n) (x ∷ s) o zero = o zero
front-octets (suc n) (x ∷ s) o (suc i) = front-octets n s (λ j. o (suc j)) i

rest-octets : (n : ℕ) (s : List ℕ) → Octets s → Octets (drop n s)
rest-octets n s o i = rw (get_or-drop n s i 0) (o (n + i))

front-size : (n : ℕ) (s : List ℕ) → length (take n s) ≤ n
front-size zero s = omega arith
front-size (suc n) [] = omega arith
front-size (suc n) (x ∷ s) = let h = front-size n s in omega arith

small-pair : (hi lo : ℕ) → hi < 256 → lo < 256 → pair_of hi lo < 65536
small-pair hi lo p q = omega arith

-- What lies inside a text of n octets, 65,535 at most

module _ (n : ℕ) (most : n ≤ 65535) where
  small-part : (p : Part) → p.start + p.len ≤ n → SmallPart p
  small-part p h = record { start = omega arith; len = omega arith }

  small-link : (l : Option Link) → LinkFits n l → SmallLink l
  small-link None h = tt
  small-link (Some l) h = (small-part l.interface h.0, (small-part l.port h.1.0, small-part l.addresses h.1.1))

  small-optional : (m : Mark) → m.start + m.len ≤ n → SmallOptional (optional_at m)
  unfolding optional_at
  small-optional m h = go (eqb m.times 0)
    where
      go : (b : Bool) → SmallOptional (pick b None (Some (part_at m)))
      go true = tt
      go false = small-part (part_at m) h

small-flags : (b : List ℕ) → Octets b → SmallFlags (capabilities_in b)
unfolding capabilities_in
small-flags b o = go (eqb (length b) 4)
  where
    flags : Capabilities
    flags = record { able = pair_of (get_or b 0 0) (get_or b 1 0); enabled = pair_of (get_or b 2 0) (get_or b 3 0) }

    go : (t : Bool) → SmallFlags (pick t (Some flags) None)
    go true = (small-pair (get_or b 0 0) (get_or b 1 0) (o 0) (o 1), small-pair (get_or b 2 0) (get_or b 3 0) (o 2) (o 3))
    go false = tt

-- Management addresses that were gathered: behind their count there is nothing

abbrev Bare : Parts → Type 0
Bare l = (k : ℕ) → l.count ≤ k → get_or l.parts k nowhere ≡ nowhere

bare-none : Bare empty_parts
bare-none zero h = refl
bare-none (suc zero) h = refl
bare-none (suc (suc zero)) h = refl
bare-none (suc (suc (suc zero))) h = refl
bare-none (suc (suc (suc (suc k)))) h = refl

bare-more : (l : Parts) (p : Part) → Bare l → Bare (with_part l p)
unfolding with_part
bare-more l p b = go (ltb l.count most_parts)
  where
    go : (t : Bool) → Bare (pick t (record { count = l.count + 1; parts = set l.parts l.count p }) l)
    go true = λ k h. get_or-set_other l.parts l.count k p nowhere (λ q. omega arith) ∙ b k (omega arith)
    go false = b

bare-noted : (f : Found) (x : Field) (start len : ℕ) → Bare f.management → Bare (noted f x start len).management
unfolding noted
bare-noted f Skipped start len b = b
bare-noted f Malformed start len b = b
bare-noted f (Says topic skip) start len b = go (eqb topic management)
  where
    put : Part
    put = part (start + skip) (len - skip)

    go : (t : Bool) → Bare (pick t (with_part f.management put) f.management)
    go true = bare-more f.management put b
    go false = b

bare-gathered : (f : Found) (ps : List Placed) → Bare f.management → Bare (gather f ps).management
unfolding gather
bare-gathered f [] b = b
bare-gathered f (p ∷ ps) b =
    let x = field_of p.tlv.kind p.tlv.body in
    let n = length p.tlv.body in
    bare-gathered (noted f x p.start n) ps (bare-noted f x p.start n b)

-- Every reading is small

abbrev pub SmallReading : Result Reading Refusal → Type 0
SmallReading (Err r) = Unit {0}
SmallReading (Ok q) = Small q.description

module _ (s : List ℕ) (o : Octets s) (most : length s ≤ 65535) where
  small-management : SmallParts (found_in s).management
  small-management =
      let m = management-means s (rest_of s).tlvs (rest_in s) in
      record {
        room = m.long;
        few = m.few;
        rest = bare-gathered nothing (rest_of s).tlvs bare-none;
        each = λ k. small-part (length s) most (get_or (found_in s).management.parts k nowhere) (m.inside k);
      }

  small_at : (x : Extent) → extent_of s ≡ x → SmallReading (reading_at x s)
  small_at (Err r) v = tt
  small_at (Ok e) v =
      let z = sized (good s e v) in
      let mark : ℕ → Mark = λ t. mark_of t (found_in s) in
      let at : (t : ℕ) → t < topics → SmallPart (part_at (mark t)) = λ t h. small-part (length s) most (part_at (mark t)) (marks-inside s t h) in
      let short : (t : ℕ) → t < topics → SmallPart (short_at (mark t)) =
      λ t h. small-part (length s) most (short_at (mark t)) (short-inside (length s) (mark t) (marks-inside s t h)) in
      let flags = part_at (mark capabilities) in
      record {
        chassis = small-part (length s) most (id_at s 0).octets (omega (arith, z));
        port = small-part (length s) most (id_at s (port_place s)).octets (omega (arith, z));
        seconds = small-pair (get_or s (seconds_place s + 2) 0) (get_or s (seconds_place s + 3) 0) (o (seconds_place s + 2)) (o (seconds_place s + 3));
        words = at port_description (omega arith);
        category = at category (omega arith);
        manufacturer = at manufacturer (omega arith);
        model = at model_name (omega arith);
        number = at model_number (omega arith);
        link = small-link (length s) most (link_at s (mark link)) (reading-link-fits s);
        extension = small-optional (length s) most (mark extension) (marks-inside s extension (omega arith));
        list = small-optional (length s) most (mark address_list) (marks-inside s address_list (omega arith));
        name = short system_name (omega arith);
        description = short system_description (omega arith);
        capabilities = small-flags (text_of s flags) (front-octets flags.len (drop flags.start s) (rest-octets flags.start s o));
        management = small-management;
      }

  pub small-reading : SmallReading (reading_of s)
  unfolding reading_of
  small-reading = small_at (extent_of s) refl

-- of a frame: one that is not refused with 3 has at most 1,514 octets
small-frame : (f : List ℕ) → Octets f → SmallReading (frame_reading f)
unfolding on_frame
small-frame f o = go (frame_ok f) refl
  where
    go : (b : Bool) → frame_ok f ≡ b → SmallReading (pick b (reading_of (drop 14 f)) (Err NoFrame))
    go true e = small-reading (drop 14 f) (rest-octets 14 f o) (omega (arith, (frame-size f e).1, length-drop 14 f))
    go false e = tt

-- For a caller in C. A refusal has a number above 0, so 0 says that the octets were written; and a length fits in two octets

abbrev Numbered : Result Reading Refusal → Type 0
Numbered (Err r) = 1 ≤ number_of r
Numbered (Ok q) = q.octets < 65536

numbered-reading : (s : List ℕ) → length s ≤ 65535 → Numbered (reading_of s)
unfolding reading_of
numbered-reading s b = go (extent_of s) refl (extent-few s)
  where
    go : (x : Extent) → extent_of s ≡ x → Few x → Numbered (reading_at x s)
    go (Err r) v h = omega (arith, h.0)
    go (Ok e) v h = omega (arith, b, (sized (good s e v)).whole-inside)

numbered-frame : (f : List ℕ) → Numbered (frame_reading f)
unfolding on_frame
numbered-frame f = go (frame_ok f) refl
  where
    go : (b : Bool) → frame_ok f ≡ b → Numbered (pick b (reading_of (drop 14 f)) (Err NoFrame))
    go true e = numbered-reading (drop 14 f) (omega (arith, (frame-size f e).1, length-drop 14 f))
    go false e = omega arith

-- x was read, and the answer a and the octets d of a description say what it says
pub record Crossed (x : Result Reading Refusal) (a d : List ℕ) : Type 0 where
  pub reading : Reading
  pub is : x ≡ Ok reading
  pub description : description_in d ≡ reading.description
  pub octets : pair_of (get_or a 0 0) (get_or a 1 0) ≡ reading.octets
  pub htip : get_or a 2 0 ≡ one reading.htip

-- what was read was answered, into an answer and a description of the right lengths
module _ (q : Result Reading Refusal) (many : Numbered q) (small : SmallReading q) (a d : List ℕ) (right : read_right a d ≡ true)
    (r : ℕ) (a' d' : List ℕ) (exact : back r (a' ∷ d' ∷ []) ≡ read_answer (in_numbers q) a d) (zero_is : r ≡ 0) where
  crossed : Crossed q a' d'
  unfolding read_answer
  crossed = go q refl many small (rw right at exact)
    where
      go : (x : Result Reading Refusal) → q ≡ x → Numbered x → SmallReading x
          → back r (a' ∷ d' ∷ []) ≡ on_reading (in_numbers x) (a ∷ d ∷ []) (λ y. verdict_octets y ∷ description_octets y.description ∷ [])
          → Crossed q a' d'
      go (Err n) v h m e = absurd (omega (arith, ap (λ (b : Back). b.returned) e))
      go (Ok y) v h m e =
          let answer = ap (λ (b : Back). get_or b.slices 0 []) e in
          let number : pair_of (y.octets / 256 % 256) (y.octets % 256) ≡ y.octets = omega arith in
          record {
            reading = y;
            is = v;
            description = ap description_in (ap (λ (b : Back). get_or b.slices 1 []) e) ∙ octets-back y.description m;
            octets = ap (λ (l : List ℕ). pair_of (get_or l 0 0) (get_or l 1 0)) answer ∙ number;
            htip = ap (λ (l : List ℕ). get_or l 2 0) answer;
          }

-- a frame was read: the octets say what is read of the frame
pub c-read-means : (κs : Lfts 3) (a : Dens κs read-kinds.ps) (r : (res_t read-kinds.r κs).Denot) (x : AtExit (ended_of 3 read-kinds.ps read-kinds.r) κs)
    → Octets a.0.now → read_right a.1.0.now a.1.1.0.now ≡ true → read.Post κs a r x → r ≡ 0
    → Crossed (frame_reading a.0.now) x.1.0.now x.1.1.0.now
c-read-means κs a r x o right post e =
    let f = a.0.now in
    crossed (frame_reading f) (numbered-frame f) (small-frame f o) a.1.0.now a.1.1.0.now right r x.1.0.now x.1.1.0.now post.exact e

-- an LLDPDU was read: they say what is read of the octets that are looked at
pub c-read-lldpdu-means : (κs : Lfts 3) (a : Dens κs lldpdu-kinds.ps) (r : (res_t lldpdu-kinds.r κs).Denot) (x : AtExit (ended_of 3 lldpdu-kinds.ps lldpdu-kinds.r) κs)
    → Octets a.0.now → read_right a.1.0.now a.1.1.0.now ≡ true → read-lldpdu.Post κs a r x → r ≡ 0
    → Crossed (reading_of (looked_at a.0.now)) x.1.0.now x.1.1.0.now
c-read-lldpdu-means κs a r x o right post e =
    let s = looked_at a.0.now in
    let long = front-size 65535 a.0.now in
    crossed (reading_of s) (numbered-reading s long) (small-reading s (front-octets 65535 a.0.now o) long) a.1.0.now a.1.1.0.now right r
    x.1.0.now x.1.1.0.now post.exact e
