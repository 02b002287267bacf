-- Laws of the answer: the ways to it, as the code goes them, and when each refusal is given.
-- 9 is decided first, by the answer for an output of 1,500 octets: what keeps the rules has room there.
use Prim.Native.Nat.{ℕ, ◌/◌, ◌<◌, ◌≤◌}
use mathlib.Core.Path.{◌≡◌, refl, sym, ap, ap₂, ◌∙◌}
use mathlib.Core.List.{List, [], ◌∷◌, ◌++◌}
use mathlib.Core.Bool.{Bool, true, false, not}
use mathlib.Core.Option.{Option, none, some}
use native.Mathlib.Decide.{dec_lt}
use native.Mathlib.Omega.{arith}
use native.Mathlib.Nat.{zero-add}
use borrow.Author.Tests.{le-leb, lt-leb}
use lib.ListN.{length, take, drop}
use lib.Seq.{take-length, take-append_seam}
use lib.Dec.{leb, eqb}
use Rattle.tally.specs.Tests.{pick, both, all}
use Rattle.tally.proofs.TestsLaws.{both_false}
use Rattle.output.specs.Output.{Output, output_at, puts}
use Rattle.output.proofs.OutputLaws.{puts-fits, puts-full}
use Rattle.text.specs.Part.{optional_text}
use Rattle.found.specs.Contents.{LinkInfo}
use Rattle.system.specs.System.{unsaid, empty_system, system_meant}
use Rattle.reading.specs.Meaning.{Said, said_by}
use Rattle.reading.specs.declared.Description.{Description}
use Rattle.tlvs.specs.Tlvs.{countable, countable_link, countable_list}
use Rattle.announcement.specs.Encode.{encode, countable_of}
use Rattle.announcement.proofs.EncodeLaws.{octets_without, without_extension, octets_before, without-both}
use Rattle.parts.specs.Inside.{system_inside, all_inside}
use Rattle.parts.proofs.InsideLaws.{inside_before, inside-without-extension, inside-without-both}
use Rattle.description.specs.Rules.{link_sound, list_sound, sound_of}
use Rattle.description.proofs.RulesLaws.{kept, table, listed, rules_without, rules-without-extension, rules_before, rules-without-both}
use Rattle.writer.specs.Write.{Written, octets_written, keeps, answer_for, write_of, over, Writes}
use Rattle.refusal.specs.Refusal.{refusal_of}
use Rattle.refusal.specs.declared.Refusal.{Refusal}
use Rattle.refusal.specs.declared.Refusal.TheVariants.{BreaksARule, NoRoom}
use Rattle.std.specs.Prelude.{Ok, Err, None}

-- n octets: the rules are kept, and n is the size
passed : (a b t : Bool) (l n : ℕ) → pick (both (both a b) t) (pick t (Ok l) (Err NoRoom)) (Err BreaksARule) ≡ Ok n → (b ≡ true) × (n ≡ l)
passed true true true l n e = (refl, sym (ap octets_written e))
passed true true false l n e = cc
passed true false t l n e = cc
passed false b t l n e = cc

-- the test that is left once 9 is decided
abbrev in_room : ℕ → Written → Written
in_room room (Ok n) = pick (leb n room) (Ok n) (Err NoRoom)
in_room room (Err r) = Err r

left : (k t : Bool) (l room : ℕ) → pick (both k t) (pick (leb l room) (Ok l) (Err NoRoom)) (Err BreaksARule) ≡ in_room room (pick (both k t) (pick t (Ok l) (Err NoRoom)) (Err BreaksARule))
left true true l room = refl
left true false l room = refl
left false t l room = refl

-- what is put at the front, and has room there, stands over what was there
put-zero : (out x : List ℕ) {now : List ℕ} {r : ℕ} → length x ≤ length out → output_at now r ≡ puts x (output_at out 0) → now ≡ over (length x) x out
put-zero out x h e =
    ap (λ (o : Output). o.octets) (e ∙ puts-fits x out 0 (omega arith))
    ∙ ap (λ (n : ℕ). x ++ drop n out) (zero-add (length x))
    ∙ ap (λ (l : List ℕ). l ++ drop (length x) out) (sym (take-length x))

-- the octets at the front of a room that an LLDPDU was put into are its octets
front_of : (room x : List ℕ) {now : List ℕ} {n : ℕ} → length x ≤ length room → output_at now n ≡ puts x (output_at room 0) → n ≡ length x → take n now ≡ x
front_of room x {now} {n} h e k =
    ap₂ take k (put-zero room x h e ∙ ap (λ (l : List ℕ). l ++ drop (length x) room) (take-length x)) ∙ take-append_seam x (drop (length x) room)

-- what keeps the rules has no string and no number of addresses that an octet cannot count

linked : (v : Option LinkInfo) → link_sound v ≡ true → countable_link v ≡ v
linked none e = refl
linked (some l) e =
    let n = length l.interface in
    let m = length l.port in
    let k = length l.addresses in
    let t = table n m k e in
    rw (le-leb n 255 (omega (arith, t.interface)), le-leb m 255 (omega (arith, t.port)), le-leb (k / 6) 255 (omega (arith, t.short)))

listed-all : (v : Option (List ℕ)) → list_sound v ≡ true → countable_list v ≡ v
listed-all none e = refl
listed-all (some a) e = rw (le-leb (length a / 6) 255 (omega (arith, (listed (length a) e).short)))

pub countable-all : (d : Said) → sound_of d ≡ true → countable_of d ≡ d
countable-all d e =
    let k = kept d e in
    let string : (x : List ℕ) → length x ≤ 255 → countable x ≡ x = λ x h. rw (le-leb (length x) 255 h) in
    let category = string d.category (omega arith) in
    let manufacturer = string d.manufacturer (omega arith) in
    let model = string d.model (omega arith) in
    let number = string d.number (omega arith) in
    let link = linked d.link k.link in
    let list = listed-all d.list k.list in
    λ i. record {
      chassis = d.chassis;
      port = d.port;
      seconds = d.seconds;
      words = d.words;
      category = category i;
      manufacturer = manufacturer i;
      model = model i;
      number = number i;
      link = link i;
      extension = d.extension;
      list = list i;
      system = d.system;
    }

module _ (s : List ℕ) (d : Description) where
  -- what was put is the whole
  pub put_whole : sound_of (said_by s d) ≡ true → (o : Output) {p : Output} → p ≡ puts (encode (countable_of (said_by s d))) o → p ≡ puts (encode (said_by s d)) o
  put_whole e o q = q ∙ ap (λ (x : Said). puts (encode x) o) (countable-all (said_by s d) e)

  -- The answer where any LLDPDU has room

  pub outside : all_inside (length s) d ≡ false → Err BreaksARule ≡ write_of s d 1500
  unfolding write_of keeps
  outside e = rw e

  pub unsound : sound_of (said_by s d) ≡ false → Err BreaksARule ≡ write_of s d 1500
  unfolding write_of keeps
  unsound e = rw (e, both_false (all_inside (length s) d))

  -- the number of octets, by the place behind them in a room of more than 1,500
  module _ (room : List ℕ) (z : 1500 < length room) {now : List ℕ} {n : ℕ} (q : output_at now n ≡ puts (encode (said_by s d)) (output_at room 0)) where
    abbrev size : ℕ
    size = length (encode (said_by s d))

    ends : n ≡ (puts (encode (said_by s d)) (output_at room 0)).end
    ends = ap (λ (o : Output). o.end) q

    ends-whole : size ≤ length room → n ≡ size
    ends-whole h = ends ∙ ap (λ (o : Output). o.end) (puts-fits (encode (said_by s d)) room 0 (omega arith)) ∙ zero-add size

    pub too_long : 1500 < n → Err BreaksARule ≡ write_of s d 1500
    unfolding write_of
    too_long h = elim (dec_lt 1500 size) [ yes l ↦ rw (lt-leb size 1500 l, both_false (keeps s d)) | no f ↦ absurd (omega (arith, ends-whole (omega arith))) ]

    -- what has room in the room is all in it
    counted : n ≤ 1500 → n ≡ size
    counted h =
        elim (dec_lt (length room) size) [
          | yes l ↦ absurd (omega (arith, ends, puts-full (encode (said_by s d)) room 0 (omega arith) (omega arith)))
          | no g ↦ ends-whole (omega arith)
        ]

    pub wanted : all_inside (length s) d ≡ true → sound_of (said_by s d) ≡ true → n ≤ 1500 → Ok n ≡ write_of s d 1500
    unfolding write_of keeps
    wanted e f h =
        let q = counted h in
        rw (e, f, q, le-leb size 1500 (omega arith))

    pub drafted : n ≤ 1500 → take n now ≡ encode (said_by s d)
    drafted h = let k = counted h in front_of room (encode (said_by s d)) (omega arith) q k

  -- From it to the answer for an output

  then : (out : List ℕ) {r : Written} → write_of s d 1500 ≡ r → in_room (length out) r ≡ write_of s d (length out)
  unfolding write_of
  then out e = sym (left (keeps s d) (leb (length (encode (said_by s d))) 1500) (length (encode (said_by s d))) (length out) ∙ ap (in_room (length out)) e)

  pub refuses : (out : List ℕ) {r : Refusal} → write_of s d 1500 ≡ Err r → Writes s d out (Err r) out
  refuses out e = record { exact = then out e; output = refl }

  module _ {n : ℕ} (e : write_of s d 1500 ≡ Ok n) where
    said : (sound_of (said_by s d) ≡ true) × (n ≡ length (encode (said_by s d)))
    unfolding write_of keeps
    said = passed (all_inside (length s) d) (sound_of (said_by s d)) (leb (length (encode (said_by s d))) 1500) (length (encode (said_by s d))) n e

    module _ (out : List ℕ) where
      pub too_short : length out < n → Writes s d out (Err NoRoom) out
      too_short k = record { exact = rw (lt-leb n (length out) k) at (then out e); output = refl }

      pub writes : n ≤ length out → {now : List ℕ} {r : ℕ} → output_at now r ≡ puts (encode (said_by s d)) (output_at out 0) → Writes s d out (Ok n) now
      writes k g =
          record {
            exact = rw (le-leb n (length out) k) at (then out e);
            output = rw said.1 (put-zero out (encode (said_by s d)) (omega (arith, said.1)) g);
          }

-- 9 exactly where a rule is broken or 1,500 octets do not hold it (R9), 10 exactly where they do and the output does not (R10)
module _ (s : List ℕ) (d : Description) (room : ℕ) where
  abbrev fits : Bool
  fits = both (keeps s d) (leb (length (encode (said_by s d))) 1500)

  pub nine : eqb (refusal_of (write_of s d room)) 9 ≡ not fits
  unfolding write_of
  nine = go fits (leb (length (encode (said_by s d))) room)
    where
      go : (a b : Bool) → eqb (refusal_of (pick a (pick b (Ok (length (encode (said_by s d)))) (Err NoRoom)) (Err BreaksARule))) 9 ≡ not a
      go true true = refl
      go true false = refl
      go false b = refl

  pub ten : eqb (refusal_of (write_of s d room)) 10 ≡ both fits (not (leb (length (encode (said_by s d))) room))
  unfolding write_of
  ten = go fits (leb (length (encode (said_by s d))) room)
    where
      go : (a b : Bool) → eqb (refusal_of (pick a (pick b (Ok (length (encode (said_by s d)))) (Err NoRoom)) (Err BreaksARule))) 10 ≡ both a (not b)
      go true true = refl
      go true false = refl
      go false b = refl

-- A description without extension link information gets the answer of before there was any, by the tests, the rules and the octets of then; and these octets
-- are what is written
module _ (s : List ℕ) (d : Description) (absent : d.extension ≡ None) where
  said-absent : optional_text s d.extension ≡ none
  said-absent = ap (optional_text s) absent

  pub octets-without-extension : encode (said_by s d) ≡ octets_without (said_by s d)
  octets-without-extension = without_extension (said_by s d) said-absent

  pub answer-without-extension : (room : ℕ)
      → write_of s d room
      ≡ answer_for (both (all (inside_before (length s) d (all (system_inside (length s) d.system) ∷ []))) (all (rules_without (said_by s d)))) (length (octets_without (said_by s d))) room
  unfolding write_of keeps
  answer-without-extension room =
      ap₂ (λ (k : Bool) (x : List ℕ). answer_for k (length x) room)
      (ap₂ both (inside-without-extension (length s) d absent) (rules-without-extension (said_by s d) said-absent))
      octets-without-extension

  -- One that says nothing of the system either gets the answer of before there were system fields, likewise. Its empty parts must lie inside the text, as
  -- those of `empty_system` do
  module _ (silent : system_meant s d.system ≡ unsaid) where
    pub octets-as-before : encode (said_by s d) ≡ octets_before (said_by s d)
    octets-as-before = without-both (said_by s d) silent said-absent

    pub answer-as-before : all (system_inside (length s) d.system) ≡ true → (room : ℕ)
        → write_of s d room
        ≡ answer_for (both (all (inside_before (length s) d [])) (all (rules_before (said_by s d)))) (length (octets_before (said_by s d))) room
    unfolding write_of keeps
    answer-as-before inside room =
        ap₂ (λ (k : Bool) (x : List ℕ). answer_for k (length x) room)
        (ap₂ both (inside-without-both (length s) d inside absent) (rules-without-both (said_by s d) silent said-absent))
        octets-as-before

pub empty-silent : (s : List ℕ) → system_meant s empty_system ≡ unsaid
empty-silent s = refl
