-- Laws of what an export gives: a slice of a wrong length, a reading, an announcement, a call on the table, a question.
-- Each is said over what the code has in hand when it returns, and ends in the contract.
use Prim.Native.Nat.{ℕ}
use mathlib.Core.Path.{◌≡◌, refl, sym, ap, ap₂, ◌∙◌}
use mathlib.Core.Logic.{◌≢◌}
use mathlib.Core.Bool.{Bool, true, false}
use mathlib.Core.List.{List, [], ◌∷◌, ◌++◌}
use native.Mathlib.Omega.{arith}
use mir.Syntax.{w8}
use mir.Val.{Fits}
use borrow.Author.Tests.{eq-eqb}
use lib.ListN.{length, get_or}
use lib.Seq.{take_all}
use lib.Dec.{eqb}
use Rattle.tally.specs.Tests.{pick}
use Rattle.tally.proofs.TestsLaws.{both_hold, both_end}
use Rattle.std.specs.Prelude.{Option, Some, None, Result, Ok, Err}
use Rattle.octets.specs.Address.{six_at}
use Rattle.octets.proofs.AddressLaws.{six-there}
use Rattle.refusal.specs.Refusal.{refusal_of}
use Rattle.refusal.specs.declared.Refusal.{Refusal}
use Rattle.walk.specs.Walk.{Extent}
use Rattle.lldpdu.specs.Extent.{extent_of}
use Rattle.reading.specs.Reading.{reading_at, reading_of}
use Rattle.reader.specs.Frame.{lldpdu_of, frame_refusal, ReadsFrame}
use Rattle.reader.proofs.Refusals.{answer-rows}
use Rattle.reading.specs.Meaning.{ReaderAnswer, meant, Reads}
use Rattle.reading.specs.declared.Reading.{Reading}
use Rattle.reading.specs.declared.Description.{Description}
use Rattle.writer.specs.Write.{Written, write_of, Writes}
use Rattle.rules.specs.Answers.{Answered}
use Rattle.rules.specs.declared.Reply.{Reply}
use Rattle.numbers.specs.declared.Table.{Table}
use Rattle.place.specs.State.{State, state}
use Rattle.freeing.specs.Calls.{After, Answer, after, state_after}
use Rattle.freeing.specs.declared.Outcome.{Outcome}
use Rattle.hearing.specs.Frame.{Told, state_told, heard}
use Rattle.hearing.specs.declared.Reception.{Reception}
use Rattle.hearing.specs.Frame as hearing
use Rattle.questions.specs.Sight as questions
use Rattle.questions.specs.Sight.{sight}
use Rattle.questions.specs.declared.Sight.{Sight}
use Rattle.table.proofs.RefusalLaws.{Unchanged, Untold}
use Rattle.octet_table.specs.Lent.{Lent, lengths_ok, lent_of, Puts}
use Rattle.octet_table.proofs.LentLaws.{again}
use Rattle.octet_description.specs.Octets.{description_octets, description_in, presences_ok}
use Rattle.octet_answers.specs.Answers as answers
use Rattle.octet_answers.proofs.AnswersLaws.{written-numbers, reply-numbers}
use Rattle.octet_answers.specs.Answers.{in_numbers, number_in, Back, back, if_right, written_long, count_long, sight_long, judge_right, read_right, on_reading, verdict_octets, judged_octets, judged, read_answer, written, written_octets, reply_long, reply_octets, replied, count_octets, sight_octets}
use Rattle.exports.specs.Calls.{Gives, Changes, address_long, due_if_right, write_right, on_written, writing, refusal_on_writing, state_in, table_slices, state_slices, after_call, frame_right, framing, count_right, counting, see_right, seeing}

-- What is to be shown of what an export gives, once it is known to be b
pub gives : {ss : List (List ℕ)} {want b : Back} {due : ℕ} → b ≡ want → want.returned ≡ due → (want.returned ≢ 0 → want.slices ≡ ss) → Gives ss want due b
gives e d s = record { exact = e; refusal = ap (λ (x : Back). x.returned) e ∙ d; stays = λ h. ap (λ (x : Back). x.slices) e ∙ s (λ z. h (ap (λ (x : Back). x.returned) e ∙ z)) }

no : {A : Type 0} → ◌≡◌ {A = Bool} false true → A
no e = absurd (let z : ◌≡◌ {A = ℕ} 0 1 = ap (λ (t : Bool). pick t 1 0) e in omega (arith, z))

-- A slice of a wrong length

module _ {right : Bool} (ss : List (List ℕ)) (b : Back) (due : ℕ) (e : right ≡ false) where
  pub wrong-gives : Gives ss (if_right right ss b) (due_if_right right due) (back 1 ss)
  wrong-gives = gives (sym (ap (λ (t : Bool). if_right t ss b) e)) (ap (λ (t : Bool). (if_right t ss b).returned) e ∙ sym (ap (λ (t : Bool). due_if_right t due) e)) (λ h. ap (λ (t : Bool). (if_right t ss b).slices) e)

  pub wrong-changes : (left s : State) → Changes right ss (if_right right ss b) (due_if_right right due) left s (back 1 ss)
  wrong-changes left s = record { gives = wrong-gives; means = λ z. no (sym e ∙ z) }

-- the number of what was answered is what is returned
pub numbered : {n m : ℕ} {ss : List (List ℕ)} {b : Back} → n ≡ m → back m ss ≡ b → back n ss ≡ b
numbered {ss = ss} e h = ap (λ (k : ℕ). back k ss) e ∙ h

-- A reading

reading-gives : (right : Bool) (q : Result Reading Refusal) (ss : List (List ℕ)) (f : Reading → List (List ℕ)) (due : ℕ) {b : Back}
    → b ≡ if_right right ss (on_reading (in_numbers q) ss f) → refusal_of q ≡ due → Gives ss (if_right right ss (on_reading (in_numbers q) ss f)) (due_if_right right due) b
reading-gives true (Err r) ss f due e d = gives e d (λ h. refl)
reading-gives true (Ok r) ss f due e d = gives e d (λ h. absurd (h refl))
reading-gives false q ss f due e d = gives e refl (λ h. refl)

meant-refusal : (s : List ℕ) (q : Result Reading Refusal) → (meant s q).refusal ≡ refusal_of q
meant-refusal s (Err r) = refl
meant-refusal s (Ok r) = refl

-- the refusal of a reading, by the rules: of a frame row by row, of an LLDPDU by its extent
pub frame-due : (f : List ℕ) {q : Result Reading Refusal} → ReadsFrame f q → refusal_of q ≡ frame_refusal f
frame-due f {q} e = sym (meant-refusal (lldpdu_of f) q) ∙ ap (λ (a : ReaderAnswer). a.refusal) e.means ∙ answer-rows f

pub lldpdu-due : (s : List ℕ) {q : Result Reading Refusal} → Reads s q → refusal_of q ≡ refusal_of (extent_of s)
unfolding reading_of
lldpdu-due s e = ap (λ (x : Result Reading Refusal). refusal_of x) e.exact ∙ go (extent_of s)
  where
    go : (x : Extent) → refusal_of (reading_at x s) ≡ refusal_of x
    go (Err r) = refl
    go (Ok n) = refl

-- the reading r that the code has in hand is q, and n is r with the number of its refusal
module _ (r q : Result Reading Refusal) (same : r ≡ q) {n : Result Reading ℕ} (numbers : n ≡ in_numbers r) (due : ℕ) (d : refusal_of r ≡ due) (a : List ℕ) where
  number : refusal_of q ≡ due
  number = sym (ap (λ (x : Result Reading Refusal). refusal_of x) same) ∙ d

  numbered-same : n ≡ in_numbers q
  numbered-same = numbers ∙ ap (λ (x : Result Reading Refusal). in_numbers x) same

  pub judged-gives : {b : Back} → b ≡ judged n a → Gives (a ∷ []) (judged (in_numbers q) a) (due_if_right (judge_right a) due) b
  unfolding judged
  judged-gives e = reading-gives (judge_right a) q (a ∷ []) (λ x. judged_octets x ∷ []) due (e ∙ ap (λ (x : Result Reading ℕ). judged x a) numbered-same) number

  pub read-gives : (s : List ℕ) {b : Back} → b ≡ read_answer n a s → Gives (a ∷ s ∷ []) (read_answer (in_numbers q) a s) (due_if_right (read_right a s) due) b
  unfolding read_answer
  read-gives s e =
      reading-gives (read_right a s) q (a ∷ s ∷ []) (λ x. verdict_octets x ∷ description_octets x.description ∷ []) due
      (e ∙ ap (λ (x : Result Reading ℕ). read_answer x a s) numbered-same) number

-- An announcement: the octets o of a description, the text s, the output and the answer a

module _ (o s out a : List ℕ) where
  abbrev d : Description
  d = description_in o

  write-gives : (right ok : Bool) (w : Written) {b : Back} → b ≡ if_right right (out ∷ a ∷ []) (pick ok (on_written w s d out a) (back 9 (out ∷ a ∷ [])))
      → Gives (out ∷ a ∷ []) (if_right right (out ∷ a ∷ []) (pick ok (on_written w s d out a) (back 9 (out ∷ a ∷ [])))) (due_if_right right (pick ok (refusal_of w) 9)) b
  write-gives true true (Err r) e = gives e refl (λ h. refl)
  write-gives true true (Ok n) e = gives e refl (λ h. absurd (h refl))
  write-gives true false w e = gives e refl (λ h. refl)
  write-gives false ok w e = gives e refl (λ h. refl)

  -- a presence that is neither 0 nor 1
  pub presence-gives : write_right o a ≡ true → presences_ok o ≡ false
      → Gives (out ∷ a ∷ []) (writing o s out a) (due_if_right (write_right o a) (refusal_on_writing o s out)) (back 9 (out ∷ a ∷ []))
  unfolding writing refusal_on_writing
  presence-gives r p = write-gives (write_right o a) (presences_ok o) (write_of s d (length out)) (rw (r, p) refl)

  -- what the writer answered w, with the output then holding u, and the answer v
  pub written-gives : {e : Description} {w : Written} {m : Result ℕ ℕ} {n : ℕ} (u v : List ℕ) → length a ≡ written_long → write_right o a ≡ true → presences_ok o ≡ true
      → e ≡ d → Writes s e out w u → m ≡ in_numbers w → back n (v ∷ []) ≡ written m a
      → Gives (out ∷ a ∷ []) (writing o s out a) (due_if_right (write_right o a) (refusal_on_writing o s out)) (back n (u ∷ v ∷ []))
  unfolding writing refusal_on_writing written
  written-gives {e} {w} {m} {n} u v l r p q h i k =
      let told : back n (v ∷ []) ≡ back (number_in m) (written_octets m a ∷ []) = rw (eq-eqb (length a) written_long l) at k in
      let z = told ∙ ap (λ (x : Result ℕ ℕ). back (number_in x) (written_octets x a ∷ [])) i ∙ written-numbers w a in
      let y : back n (u ∷ v ∷ []) ≡ on_written w s e out a = ap₂ (λ (x : Back) (m : List ℕ). back x.returned (m ∷ x.slices)) z h.output in
      let x : on_written w s e out a ≡ on_written (write_of s d (length out)) s d out a =
      ap₂ (λ (x : Written) (y : Description). on_written x s y out a) (h.exact ∙ ap (λ (y : Description). write_of s y (length out)) q) q in
      write-gives (write_right o a) (presences_ok o) (write_of s d (length out)) (rw (r, p) (y ∙ x))

-- A call on the table that slices x and a buffer b mean; they then hold y and c, and the call left the table t in the struct

pub right-gives : {right : Bool} {ss : List (List ℕ)} {want b : Back} {due : ℕ} → right ≡ true → Gives ss want due b → Gives ss (if_right right ss want) (due_if_right right due) b
right-gives e g = rw e g

module _ (x y : Lent) (b c : List ℕ) (t : Table) (right : lengths_ok x ≡ true) (f : (i : ℕ) → Fits w8 (get_or x.seconds i 0)) (g : (i : ℕ) → Fits w8 (get_or x.lengths i 0)) (put : Puts t x y) where
  abbrev s : State
  s = state_in x b

  table-meant : (u : State) → state t c ≡ u → state_in y c ≡ u
  table-meant u e = ap (λ (z : Table). state z c) (put.means right) ∙ e

  table-octets : (u : State) → state t c ≡ u → table_slices y c ≡ state_slices u
  table-octets u e =
      let p : y ≡ lent_of t = rw right at put.exact in
      ap (λ (z : Lent). table_slices z c) p ∙ ap state_slices e

  -- a refusal puts the same octets back
  same-octets : (u : State) → u ≡ s → state_slices u ≡ table_slices x b
  same-octets u q = ap state_slices q ∙ ap (λ (z : Lent). table_slices z b) (again x right f g)

  -- calls that answer done or a refusal
  module _ (call : State → After) (unchanged : Unchanged s (call s)) where
    after-stays : refusal_of (call s).outcome.answer ≢ 0 → state_slices (state_after (call s)) ≡ table_slices x b
    after-stays = go (call s).outcome.answer refl
      where
        go : (v : Answer) → (call s).outcome.answer ≡ v → refusal_of v ≢ 0 → state_slices (state_after (call s)) ≡ table_slices x b
        go (Ok u) e h = absurd (h refl)
        go (Err r) e h = same-octets (state_after (call s)) (unchanged r e)

    pub after-changes : (due : ℕ) {n : ℕ} (o : Outcome) → o.table ≡ t → after o c ≡ call s → refusal_of o.answer ≡ due → n ≡ refusal_of o.answer
        → Changes (lengths_ok x) (table_slices x b) (after_call call x b) (due_if_right (lengths_ok x) due) (state_after (call s)) (state_in y c) (back n (table_slices y c))
    after-changes due o own e d k =
        let left : state t c ≡ state_after (call s) = ap (λ (z : Table). state z c) (sym own) ∙ ap state_after e in
        let number = ap (λ (z : After). refusal_of z.outcome.answer) e in
        record {
          gives = right-gives right (gives (ap₂ back (k ∙ number) (table-octets (state_after (call s)) left)) (sym number ∙ d) after-stays);
          means = λ z. table-meant (state_after (call s)) left;
        }

  -- a frame on a port, with the answer a, which then holds v
  module _ (p : ℕ) (h : List ℕ) (unchanged : Untold s (heard p h s)) (a v : List ℕ) where
    abbrev heard_now : Told
    heard_now = heard p h s

    frame-stays : refusal_of heard_now.outcome.reply ≢ 0
        → state_slices (state_told heard_now) ++ (reply_octets heard_now.outcome.reply a ∷ []) ≡ table_slices x b ++ (a ∷ [])
    frame-stays = go heard_now.outcome.reply refl
      where
        go : (v : Answered) → heard_now.outcome.reply ≡ v → refusal_of v ≢ 0 → state_slices (state_told heard_now) ++ (reply_octets v a ∷ []) ≡ table_slices x b ++ (a ∷ [])
        go (Ok r) e z = absurd (z refl)
        go (Err r) e z = ap (λ (l : List (List ℕ)). l ++ (a ∷ [])) (same-octets (state_told heard_now) (unchanged r e))

    pub frame-changes : (due : ℕ) {n : ℕ} {m : Result Reply ℕ} (o : Reception) → o.table ≡ t → length a ≡ reply_long → hearing.told o c ≡ heard_now → refusal_of o.reply ≡ due
        → m ≡ in_numbers o.reply → back n (v ∷ []) ≡ replied m a
        → Changes (frame_right x a) (table_slices x b ++ (a ∷ [])) (framing p h x b a) (due_if_right (frame_right x a) due) (state_told heard_now) (state_in y c) (back n (table_slices y c ++ (v ∷ [])))
    unfolding framing replied
    frame-changes due {n} {m} o own l e d i k =
        let left : state t c ≡ state_told heard_now = ap (λ (z : Table). state z c) (sym own) ∙ ap state_told e in
        let told : back n (v ∷ []) ≡ back (number_in m) (reply_octets m a ∷ []) = rw (eq-eqb (length a) reply_long l) at k in
        let same = told ∙ ap (λ (z : Result Reply ℕ). back (number_in z) (reply_octets z a ∷ [])) i ∙ reply-numbers o.reply a in
        let answer = same ∙ ap (λ (z : Told). back (refusal_of z.outcome.reply) (reply_octets z.outcome.reply a ∷ [])) e in
        let number = ap (λ (z : Told). refusal_of z.outcome.reply) e in
        record {
          gives =
              right-gives (both_hold right (eq-eqb (length a) reply_long l))
              (gives (ap₂ (λ (z : Back) (l : List (List ℕ)). back z.returned (l ++ z.slices)) answer (table-octets (state_told heard_now) left)) (sym number ∙ d) frame-stays);
          means = λ z. table-meant (state_told heard_now) left;
        }

-- an address that is lent as six octets is the six at its front
pub whole-six : (w : List ℕ) → length w ≡ address_long → six_at w 0 ≡ w
whole-six w e = six-there w 0 (omega (arith, e)) ∙ take_all 6 w (omega (arith, e))

-- A question about the table that slices x and a buffer b mean, with the answer a

module _ (x : Lent) (b a : List ℕ) (long : lengths_ok x ≡ true) where
  pub count_gives : (p due : ℕ) {r : Back} {q : Result ℕ Refusal} {m : Result ℕ ℕ} → q ≡ questions.counted p (state_in x b) → refusal_of q ≡ due → m ≡ in_numbers q → r ≡ answers.counted m a
      → Gives (a ∷ []) (counting p x b a) (due_if_right (count_right x a) due) r
  unfolding counting answers.counted
  count_gives p due {r} {q} e d i k =
      rw long (go (eqb (length a) count_long) (questions.counted p (state_in x b)) (sym (ap refusal_of e) ∙ d) (k ∙ ap (λ (z : Result ℕ ℕ). answers.counted z a) (i ∙ ap (λ (z : Result ℕ Refusal). in_numbers z) e)))
    where
      go : (t : Bool) (z : Result ℕ Refusal) → refusal_of z ≡ due → r ≡ if_right t (a ∷ []) (back (number_in (in_numbers z)) (count_octets (in_numbers z) a ∷ []))
          → Gives (a ∷ []) (if_right t (a ∷ []) (back (refusal_of z) (count_octets z a ∷ []))) (due_if_right t due) r
      go true (Ok n) d k = gives k d (λ h. absurd (h refl))
      go true (Err n) d k = gives k d (λ h. refl)
      go false z d k = gives k refl (λ h. refl)

  pub sight-gives : (w : List ℕ) (from due : ℕ) {r : Back} {q : Result (Option Sight) Refusal} {m : Result (Option Sight) ℕ} → eqb (length w) address_long ≡ true → q ≡ sight w from (state_in x b) → refusal_of q ≡ due → m ≡ in_numbers q → r ≡ answers.seen m a
      → Gives (a ∷ []) (seeing w from x b a) (due_if_right (see_right x w a) due) r
  unfolding seeing answers.seen
  sight-gives w from due {r} {q} six e d i k =
      rw (long, six) (rw (both_end (eqb (length a) sight_long)) (go (eqb (length a) sight_long) (sight w from (state_in x b)) (sym (ap refusal_of e) ∙ d) (k ∙ ap (λ (z : Result (Option Sight) ℕ). answers.seen z a) (i ∙ ap (λ (z : Result (Option Sight) Refusal). in_numbers z) e))))
    where
      go : (t : Bool) (z : Result (Option Sight) Refusal) → refusal_of z ≡ due → r ≡ if_right t (a ∷ []) (back (number_in (in_numbers z)) (sight_octets (in_numbers z) a ∷ []))
          → Gives (a ∷ []) (if_right t (a ∷ []) (back (refusal_of z) (sight_octets z a ∷ []))) (due_if_right t due) r
      go true (Err n) d k = gives k d (λ h. refl)
      go true (Ok None) d k = gives k d (λ h. absurd (h refl))
      go true (Ok (Some v)) d k = gives k d (λ h. absurd (h refl))
      go false z d k = gives k refl (λ h. refl)
