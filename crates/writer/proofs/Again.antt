-- The round trip (W6) for the code, from the contracts of `write`, `read_frame` and `read_lldpdu` alone.
-- What was written is read back as the same description, and that description written again gives the same octets.
use Prim.Native.Nat.{ℕ, ◌+◌, ◌-◌, ◌<◌, ◌≤◌}
use mathlib.Core.Path.{◌≡◌, refl, sym, ap, ap₂, ◌∙◌}
use mathlib.Core.List.{List, ◌++◌}
use mathlib.Core.Bool.{Bool, true, false}
use native.Mathlib.Omega.{arith}
use borrow.Author.Tests.{le-leb, leb-true}
use borrow.Fn.Kinds.{Dens, res_t, ended_of}
use contract.Lifetimes.{Lfts}
use denote.Triple.Clauses.{AtExit}
use lib.ListN.{length, take, drop, get_or}
use lib.Seq.{take_at, take_all, drop_at}
use lib.Dec.{leb, eqb}
use Rattle.tally.specs.Tests.{pick, both}
use Rattle.tally.proofs.RangesLaws.{all-each}
use Rattle.fields.specs.Field.{port_description, category, manufacturer, model_name, model_number, link, address_list, extension, system_name, system_description, management, topics}
use Rattle.lldpdu.specs.Extent.{port_place, id_at, rest_of, extent_of}
use Rattle.lldpdu.proofs.ExtentLaws.{good, reads}
use Rattle.lldpdu.proofs.Stable.{sized}
use Rattle.text.specs.Part.{nowhere, most_parts}
use Rattle.text.specs.declared.Part.{Part}
use Rattle.text.specs.declared.Parts.{Parts}
use Rattle.text.proofs.PartsLaws.{front_at}
use Rattle.found.specs.Contents.{contents, tlvs_in}
use Rattle.found.specs.Found.{part_at, mark_of, htip_in}
use Rattle.found.proofs.ManagementLaws.{Lists, management-means}
use Rattle.system.specs.System.{short_at}
use Rattle.system.proofs.SystemLaws.{short-inside}
use Rattle.std.specs.Prelude.{Option, Some, None, Result, Ok, Err}
use Rattle.refusal.specs.declared.Refusal.{Refusal}
use Rattle.refusal.specs.declared.Refusal.TheVariants.{BreaksARule, NoRoom}
use Rattle.lldpdu.specs.Outline.{outline_in}
use Rattle.reading.specs.Reading.{link_at, optional_at, description_at, found_in, reading_of}
use Rattle.reader.specs.Frame.{frame_ok, ReadsFrame}
use Rattle.reader.proofs.Agree.{frame-reads}
use Rattle.reading.specs.Meaning.{ReaderAnswer, answer_of, said_by, meant, Reads}
use Rattle.reading.proofs.MeaningLaws.{LinkFits, reading-link-fits, rest_in, marks-inside}
use Rattle.found.specs.declared.Mark.{Mark}
use Rattle.reading.specs.declared.Link.{Link}
use Rattle.reading.specs.declared.Description.{Description}
use Rattle.reading.specs.declared.Reading.{Reading}
use Rattle.announcement.specs.Encode.{encode}
use Rattle.parts.specs.Inside.{part_inside, parts_inside, link_inside, optional_inside, all_inside}
use Rattle.parts.proofs.InsideLaws.{asked, asked_is, asked-all}
use Rattle.description.specs.Rules.{sound_of}
use Rattle.writer.specs.Write.{Written, keeps, write_of, octets_written, over, Writes}
use Rattle.writer.proofs.RoundTrip.{answered, read_back, good-written}
use Rattle.reading.proofs.read_lldpdu.Kinds as lldpdu-kinds
use Rattle.reading.proofs.read_lldpdu.Reads as read-lldpdu
use Rattle.reader.proofs.read_frame.Kinds as frame-kinds
use Rattle.reader.proofs.read_frame.Reads as read-frame
use Rattle.writer.proofs.write.Kinds as write-kinds
use Rattle.writer.proofs.write.Reads as write

-- What the contracts state, as the toolchain reads them from the source: these records, of which all below speaks

pub write-states : (κs : Lfts 2) (a : Dens κs write-kinds.ps) (r : (res_t write-kinds.r κs).Denot) (x : AtExit (ended_of 2 write-kinds.ps write-kinds.r) κs)
    → write.Post κs a r x → Writes a.1.0.now a.0 a.1.1.0.now r x.1.1.0.now
write-states κs a r x post = post

pub lldpdu-states : (κs : Lfts 1) (a : Dens κs lldpdu-kinds.ps) (r : (res_t lldpdu-kinds.r κs).Denot) (x : AtExit (ended_of 1 lldpdu-kinds.ps lldpdu-kinds.r) κs)
    → read-lldpdu.Post κs a r x → Reads a.0.now r
lldpdu-states κs a r x post = post

pub frame-states : (κs : Lfts 1) (a : Dens κs frame-kinds.ps) (r : (res_t frame-kinds.r κs).Denot) (x : AtExit (ended_of 1 frame-kinds.ps frame-kinds.r) κs)
    → read-frame.Post κs a r x → ReadsFrame a.0.now r
frame-states κs a r x post = post

-- What an answer of n octets says of the description

pub record Done (s : List ℕ) (d : Description) (n : ℕ) : Type 0 where
  pub inside : all_inside (length s) d ≡ true
  pub sound : sound_of (said_by s d) ≡ true
  pub count : n ≡ length (encode (said_by s d))
  pub short : n ≤ 1500

done : (s : List ℕ) (d : Description) (room n : ℕ) → write_of s d room ≡ Ok n → Done s d n
unfolding write_of keeps
done s d room n e =
    go (all_inside (length s) d) refl (sound_of (said_by s d)) refl (leb size 1500) refl (leb size room) refl e
  where
    size : ℕ
    size = length (encode (said_by s d))

    go : (a : Bool) → all_inside (length s) d ≡ a → (b : Bool) → sound_of (said_by s d) ≡ b → (c : Bool) → leb (length (encode (said_by s d))) 1500 ≡ c
        → (f : Bool) → leb (length (encode (said_by s d))) room ≡ f
        → pick (both (both a b) c) (pick f (Ok (length (encode (said_by s d)))) (Err NoRoom)) (Err BreaksARule) ≡ Ok n
        → Done s d n
    go true p true q true r true v w =
        let x : length (encode (said_by s d)) ≡ n = cc in
        record {
          inside = p;
          sound = q;
          count = sym x;
          short = omega (arith, leb-true (length (encode (said_by s d))) 1500 r);
        }
    go true p true q true r false v w = cc
    go true p true q false r f v w = cc
    go true p false q c r f v w = cc
    go false p b q c r f v w = cc

-- The parts of what was read lie inside it

part-fits : (n : ℕ) (p : Part) → p.start + p.len ≤ n → part_inside n p ≡ true
part-fits n p h = rw (le-leb p.start n (omega arith), le-leb p.len (n - p.start) (omega arith))

link-inside : (n : ℕ) (l : Option Link) → LinkFits n l → link_inside n l ≡ true
link-inside n None h = refl
link-inside n (Some l) h = rw (part-fits n l.interface h.0, part-fits n l.port h.1.0, part-fits n l.addresses h.1.1)

optional-inside : (n : ℕ) (m : Mark) → m.start + m.len ≤ n → optional_inside n (optional_at m) ≡ true
unfolding optional_at
optional-inside n m h = go (eqb m.times 0)
  where
    go : (b : Bool) → optional_inside n (pick b None (Some (part_at m))) ≡ true
    go true = refl
    go false = part-fits n (part_at m) h

-- management addresses that were read: no more than four, each inside
parts-inside : (s : List ℕ) (l : Parts) (cs : List (List ℕ)) → Lists s l cs → parts_inside (length s) l ≡ true
parts-inside s l cs i =
    let n = length s in
    let each = all-each (asked n l) l.count (λ k h. asked_is n l k (sym (front_at l k h)) (sym (part-fits n (get_or l.parts k nowhere) (i.inside k)))) in
    rw (le-leb l.count most_parts i.few) (sym (asked-all n l i.long i.few) ∙ each)

-- what is read of an LLDPDU of e octets
abbrev read_as : List ℕ → ℕ → Reading
read_as s e = record { octets = e; htip = htip_in (found_in s); description = description_at s (outline_in e s) (found_in s) }

reading-is : (s : List ℕ) (e : ℕ) → extent_of s ≡ Ok e → reading_of s ≡ Ok (read_as s e)
unfolding reading_of
reading-is s e v = rw v

reading-inside : (s : List ℕ) (e : ℕ) → extent_of s ≡ Ok e → all_inside (length s) (read_as s e).description ≡ true
unfolding all_inside
reading-inside s e v =
    let z = sized (good s e v) in
    let m : (t : ℕ) → t < topics → part_inside (length s) (part_at (mark_of t (found_in s))) ≡ true =
    λ t h. part-fits (length s) (part_at (mark_of t (found_in s))) (marks-inside s t h) in
    let string : (t : ℕ) → t < topics → part_inside (length s) (short_at (mark_of t (found_in s))) ≡ true =
    λ t h. part-fits (length s) (short_at (mark_of t (found_in s))) (short-inside (length s) (mark_of t (found_in s)) (marks-inside s t h)) in
    rw (
      part-fits (length s) (id_at s 0).octets (omega (arith, z)),
      part-fits (length s) (id_at s (port_place s)).octets (omega (arith, z)),
      m port_description (omega arith),
      m category (omega arith),
      m manufacturer (omega arith),
      m model_name (omega arith),
      m model_number (omega arith),
      link-inside (length s) (link_at s (mark_of link (found_in s))) (reading-link-fits s),
      optional-inside (length s) (mark_of extension (found_in s)) (marks-inside s extension (omega arith)),
      optional-inside (length s) (mark_of address_list (found_in s)) (marks-inside s address_list (omega arith)),
      string system_name (omega arith),
      string system_description (omega arith),
      parts-inside s (found_in s).management (contents management (tlvs_in s)) (management-means s (rest_of s).tlvs (rest_in s)),
    )

-- The two sentences

-- `write` was called with d over s and wrote n octets to the front of out, which is now `now`
module _ (s : List ℕ) (d : Description) (out now : List ℕ) (n : ℕ) (w : Writes s d out (Ok n) now) where
  wrote : Done s d n
  wrote = done s d (length out) n (sym w.exact)

  now-is : now ≡ encode (said_by s d) ++ drop n out
  now-is = w.output ∙ ap (λ (l : List ℕ). l ++ drop n out) (take_all n (encode (said_by s d)) (omega (arith, wrote.count)))

  front : take n now ≡ encode (said_by s d)
  front = ap (take n) now-is ∙ take_at (encode (said_by s d)) (drop n out) n (sym wrote.count)

  -- `write` of any description that says the same over a text u, with its parts inside u, writes the same octets into an output with room
  again : (u : List ℕ) (e : Description) → all_inside (length u) e ≡ true → said_by u e ≡ said_by s d
      → (out₂ now₂ : List ℕ) (r₂ : Written) → Writes u e out₂ r₂ now₂ → n ≤ length out₂
      → (r₂ ≡ Ok n) × (take n now₂ ≡ take n now)
  unfolding write_of keeps
  again u e i v out₂ now₂ r₂ w₂ h =
      let x = encode (said_by s d) in
      let c = wrote.count in
      let a : r₂ ≡ Ok n = w₂.exact ∙ rw (i, v, wrote.sound, ← c, le-leb n 1500 wrote.short, le-leb n (length out₂) h) in
      let o : now₂ ≡ take n x ++ drop n out₂ =
      w₂.output ∙ ap₂ (λ (k : ℕ) (y : List ℕ). over k y out₂) (ap octets_written a) (ap encode v) in (
        a,
        ap (take n) (o ∙ ap (λ (l : List ℕ). l ++ drop n out₂) (take_all n x (omega (arith, c)))) ∙ take_at x (drop n out₂) n (sym c) ∙ sym front,
      )

  -- what was read of any text u that starts with these octets: the same description, of n octets, and HTIP exactly with seconds above 0
  module _ (u t : List ℕ) (b : u ≡ encode (said_by s d) ++ t) {q : Result Reading Refusal} (r : Reads u q) where
    read_same : meant u q ≡ answered (said_by s d)
    read_same = r.means ∙ ap answer_of b ∙ read_back (said_by s d) t wrote.sound

    extent-is-n : extent_of u ≡ Ok (length (encode (said_by s d)))
    extent-is-n = ap extent_of b ∙ reads (encode (said_by s d) ++ t) (length (encode (said_by s d))) (good-written (said_by s d) t wrote.sound)

    abbrev reading : Reading
    reading = read_as u (length (encode (said_by s d)))

    read-is : q ≡ Ok reading
    read-is = r.exact ∙ reading-is u (length (encode (said_by s d))) extent-is-n

    said_same : said_by u reading.description ≡ said_by s d
    said_same = ap (λ (a : ReaderAnswer). a.said) (sym (ap (meant u) read-is) ∙ read_same)

    read-inside : all_inside (length u) reading.description ≡ true
    read-inside = reading-inside u (length (encode (said_by s d))) extent-is-n

    -- it is a reading and no refusal, and `write` of it, over what was read, into an output with room writes the same octets again
    again_read : (g : Reading) × ((q ≡ Ok g)
        × ((out₂ now₂ : List ℕ) (r₂ : Written) → Writes u g.description out₂ r₂ now₂ → n ≤ length out₂ → (r₂ ≡ Ok n) × (take n now₂ ≡ take n now)))
    again_read = (reading, (read-is, again u reading.description read-inside said_same))

  -- `read_lldpdu` was called on the whole output
  module _ (q : Result Reading Refusal) (r : Reads now q) where
    pub same-description : meant now q ≡ answered (said_by s d)
    same-description = read_same now (drop n out) now-is r

    -- and `write` of what was read, over what was read, into an output with room writes the same octets again
    pub same-octets : (g : Reading) × ((q ≡ Ok g)
        × ((out₂ now₂ : List ℕ) (r₂ : Written) → Writes now g.description out₂ r₂ now₂ → n ≤ length out₂ → (r₂ ≡ Ok n) × (take n now₂ ≡ take n now)))
    same-octets = again_read now (drop n out) now-is r

  -- `read_frame` was called on these octets, behind any header that fits and with any padding
  module _ (h t : List ℕ) (q : Result Reading Refusal) (l : length h ≡ 14) (o : frame_ok h ≡ true) (m : length (take n now ++ t) ≤ 1500)
      (r : ReadsFrame (h ++ (take n now ++ t)) q) where
    abbrev lldpdu : List ℕ
    lldpdu = drop 14 (h ++ (take n now ++ t))

    behind : lldpdu ≡ encode (said_by s d) ++ t
    behind = drop_at h (take n now ++ t) 14 l ∙ ap (λ (x : List ℕ). x ++ t) front

    read_behind : Reads lldpdu q
    read_behind = frame-reads h (take n now ++ t) l o m r

    pub same-frame : meant lldpdu q ≡ answered (said_by s d)
    same-frame = read_same lldpdu t behind read_behind

    -- and `write` of what was read, over the octets behind the header, from which its parts count, writes the same octets again
    pub same-octets-frame : (g : Reading) × ((q ≡ Ok g)
        × ((out₂ now₂ : List ℕ) (r₂ : Written) → Writes lldpdu g.description out₂ r₂ now₂ → n ≤ length out₂ → (r₂ ≡ Ok n) × (take n now₂ ≡ take n now)))
    same-octets-frame = again_read lldpdu t behind read_behind
