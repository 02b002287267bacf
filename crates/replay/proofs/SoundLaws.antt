-- Every place that a replay makes is sound (C10), so that `feed` and `finish` go on from it; and pieces are fed as one.
-- A place stays sound octet by octet; the record buffer keeps its length.
use Prim.Native.Nat.{ℕ, ◌+◌, ◌-◌, ◌<◌, ◌≤◌}
use mathlib.Core.Path.{◌≡◌, refl, sym, ap, ◌∙◌}
use mathlib.Core.Logic.{◌⊎◌, inl, inr}
use mathlib.Core.List.{List, [], ◌∷◌, ◌++◌}
use mathlib.Core.Bool.{Bool, true, false, not, ◌&&◌, ◌||◌}
use native.Mathlib.Omega.{arith}
use borrow.Author.Tests.{eq-eqb, ne_eqb, eqb-true, eqb-false, lt-ltb, ltb-true, ltb-false, le-leb, leb-true}
use lib.ListN.{length, set, length-set}
use lib.Dec.{leb, ltb, eqb}
use Rattle.std.specs.Prelude.{Option, Some, None, Ok, Err}
use Rattle.tally.specs.Tests.{pick, both}
use Rattle.refusal.specs.declared.Refusal.TheVariants.{Unfit}
use Rattle.output.specs.Output.{output_at}
use Rattle.capture.specs.Layout.{file_header, layout_of, record_header}
use Rattle.capture.specs.declared.Layout.{Layout}
use Rattle.capture.specs.declared.Layout.TheVariants.{HighFirst, LowFirst, Foreign}
use Rattle.numbers.specs.Sizes.{ports, places}
use Rattle.place.specs.State.{State, each}
use Rattle.fitness.specs.Fit.{fit}
use Rattle.freeing.specs.Changes.{aged}
use Rattle.freeing.specs.Calls.{Answer, answered, state_after, passed}
use Rattle.records.specs.Place.{gap, place_at, refused_with, next, opened, fate_of, is_heard, in_body}
use Rattle.records.specs.Turns.{turn, met, on_answer, closed, headed_by, turned, settled}
use Rattle.records.proofs.PlaceLaws.{next-stops, next-goes}
use Rattle.replay.specs.Place.{room_octets, opening, beginning, keeps}
use Rattle.replay.specs.Sound.{is_first, in_file, in_header, in_record, is_stopped, sound_at, sound}
use Rattle.replay.specs.Feeding.{Moment, moment, held_to, took, settled_in, step, fed}
use Rattle.replay.specs.Promises.{feeding}
use Rattle.records.specs.declared.Fate.{Fate}
use Rattle.records.specs.declared.Fate.TheVariants.{Heard, Skipped, TooLong}
use Rattle.records.specs.declared.Stage.{Stage}
use Rattle.records.specs.declared.Stage.TheVariants.{Opening, Heading, Body, Stopped, Refused}
use Rattle.records.specs.declared.Replay.{Replay}
use Rattle.output.proofs.OutputLaws.{puts_one, more_room}
use Rattle.replay.proofs.FeedingLaws.{fed-append, took-kept, took-passed, positive}
use Rattle.replay.proofs.ContractLaws.{sound-at, feeds-sound}

and_parts : (a b : Bool) → (a && b) ≡ true → (a ≡ true) × (b ≡ true)
and_parts true b e = (refl, e)
and_parts false b e = let z : ◌≡◌ {A = ℕ} 0 1 = cc in absurd (omega arith)

and_both : {a b : Bool} → a ≡ true → b ≡ true → (a && b) ≡ true
and_both e d = rw (e, d)

not-zero : (n : ℕ) → not (eqb n 0) ≡ true → n ≡ 0 → ⊥
not-zero n e z = let y : ◌≡◌ {A = Bool} false true = sym (ap not (eq-eqb n 0 z)) ∙ e in let d : ◌≡◌ {A = ℕ} 0 1 = cc in omega arith

-- What holds of a place in a file

record Facts (r : Replay) : Type 0 where
  port : r.port < ports
  left : r.left ≤ r.limit
  whole : is_first r.before ≡ true → r.left ≡ r.limit

file-facts : (r : Replay) → in_file r ≡ true → Facts r
file-facts r e =
    let a = and_parts (ltb r.port ports && leb r.left r.limit) (not (is_first r.before) || eqb r.left r.limit) e in
    let b = and_parts (ltb r.port ports) (leb r.left r.limit) a.0 in
    record { port = ltb-true r.port ports b.0; left = leb-true r.left r.limit b.1; whole = λ f. eqb-true r.left r.limit (go (is_first r.before) f a.1) }
  where
    go : (f : Bool) {c : Bool} → f ≡ true → (not f || c) ≡ true → c ≡ true
    go true e d = d
    go false e d = let z : ◌≡◌ {A = ℕ} 0 1 = cc in absurd (omega arith)

facts-file : (r : Replay) → Facts r → in_file r ≡ true
facts-file r f = and_both (and_both (lt-ltb r.port ports f.port) (le-leb r.left r.limit f.left)) (go (is_first r.before) f.whole)
  where
    go : (b : Bool) → (b ≡ true → r.left ≡ r.limit) → (not b || eqb r.left r.limit) ≡ true
    go true h = eq-eqb r.left r.limit (h refl)
    go false h = refl

-- Where a record ends the next begins, or the last frame was handed over

module _ (low : Bool) (limit left port : ℕ) (p : port < ports) where
  goes-sound : (before : Option ℕ) → left ≤ limit → (is_first before ≡ true → left ≡ limit) → (left ≡ 0 → ⊥) → sound (next low before limit left port) ≡ true
  unfolding sound
  goes-sound before l w z =
      ap (λ (r : Replay). sound_at r.stage r) (sym (next-goes low before limit left port z))
      ∙ and_both (and_both refl (ap not (ne_eqb left 0 z))) (facts-file (place_at Heading low before 0 record_header limit left port) (record { port = p; left = l; whole = w }))

  stops-sound : (before : Option ℕ) → left ≤ limit → (is_first before ≡ true → left ≡ limit) → (is_first before || not (eqb limit 0)) ≡ true → left ≡ 0 → sound (next low before limit left port) ≡ true
  unfolding sound
  stops-sound before l w y z =
      ap (λ (r : Replay). sound_at r.stage r) (sym (next-stops low before limit left port z))
      ∙ and_both (and_both (and_both refl (eq-eqb left 0 z)) y) (facts-file (place_at Stopped low before 0 0 limit left port) (record { port = p; left = l; whole = w }))

  next-sound : (before : Option ℕ) → left ≤ limit → (is_first before ≡ true → left ≡ limit) → (is_first before || not (eqb limit 0)) ≡ true → sound (next low before limit left port) ≡ true
  next-sound before l w y = go (eqb left 0) refl
    where
      go : (b : Bool) → eqb left 0 ≡ b → sound (next low before limit left port) ≡ true
      go true e = stops-sound before l w y (eqb-true left 0 e)
      go false e = goes-sound before l w (eqb-false left 0 e)

refused-sound : (n : ℕ) → (eqb n 1 || eqb n 2 || eqb n 11) ≡ true → sound (refused_with n) ≡ true
unfolding sound
refused-sound n e = and_both (and_both (and_both (and_both (and_both (and_both (and_both e refl) refl) refl) refl) refl) refl) refl

-- A record that is all there, and a header

passed-answer : (n : ℕ) (s : State) → ((passed n s).outcome.answer ≡ Ok tt) ⊎ ((passed n s).outcome.answer ≡ Err Unfit)
unfolding passed
passed-answer n s = go (fit s)
  where
    go : (b : Bool) → ((pick b (answered (Ok tt) (each (aged n) places s)) (answered (Err Unfit) s)).outcome.answer ≡ Ok tt)
        ⊎ ((pick b (answered (Ok tt) (each (aged n) places s)) (answered (Err Unfit) s)).outcome.answer ≡ Err Unfit)
    go true = inl refl
    go false = inr refl

module _ (r : Replay) (f : Facts r) (z : r.left ≡ 0 → ⊥) where
  some-limit : (r.limit ≡ 0 → ⊥)
  some-limit e = z (let l = f.left in omega arith)

  met-sound : (g : Fate) (t : ℕ) (room : List ℕ) (s : State) → sound (met g t r room s).replay ≡ true
  met-sound g t room s = go g
    where
      fewer : (left : ℕ) → left ≤ r.limit → sound (next r.low (Some t) r.limit left r.port) ≡ true
      fewer left l = next-sound r.low r.limit left r.port f.port (Some t) l (λ e. let y : ◌≡◌ {A = ℕ} 0 1 = cc in absurd (omega arith)) (ap not (ne_eqb r.limit 0 some-limit))

      go : (g : Fate) → sound (met g t r room s).replay ≡ true
      go Heard = fewer (r.left - 1) (let l = f.left in omega arith)
      go Skipped = fewer r.left f.left
      go TooLong = fewer (r.left - 1) (let l = f.left in omega arith)

  closed-sound : (g : Fate) (t : ℕ) (room : List ℕ) (s : State) → sound (closed g t r room s).replay ≡ true
  unfolding closed
  closed-sound g t room s =
      let n = gap r.before t in
      let u = state_after (passed n s) in
      elim (passed-answer n s) [
        | inl e ↦ ap (λ (a : Answer). sound (on_answer a g t r room u).replay) e ∙ met-sound g t room u
        | inr e ↦ ap (λ (a : Answer). sound (on_answer a g t r room u).replay) e ∙ refused-sound 1 refl
      ]

-- in a record, at its first octet, where there are some
body-sound : (r : Replay) → Facts r → (r.left ≡ 0 → ⊥) → (t n o : ℕ) → (n ≡ 0 → ⊥) → sound (in_body r t (fate_of n o) n) ≡ true
unfolding sound fate_of
body-sound r f z t n o y = go (ltb n o) (ltb room_octets n) refl
  where
    go : (B C : Bool) → ltb room_octets n ≡ C → sound_at (Body t (pick B Skipped (pick C TooLong Heard))) (in_body r t (pick B Skipped (pick C TooLong Heard)) n) ≡ true
    go true C e = and_both (and_both (and_both (ap not (ne_eqb n 0 y)) refl) (ap not (ne_eqb r.left 0 z))) (facts-file r f)
    go false true e = and_both (and_both (and_both (ap not (ne_eqb n 0 y)) refl) (ap not (ne_eqb r.left 0 z))) (facts-file r f)
    go false false e =
        and_both (and_both (and_both (and_both (ap not (ne_eqb n 0 y)) refl) (le-leb n (room_octets - 0) (ltb-false room_octets n e))) (ap not (ne_eqb r.left 0 z))) (facts-file r f)

headed-sound : (r : Replay) → Facts r → (r.left ≡ 0 → ⊥) → (t n o : ℕ) (room : List ℕ) (s : State) → sound (headed_by t n o r room s).replay ≡ true
unfolding headed_by
headed-sound r f z t n o room s = go (eqb n 0) refl
  where
    body-facts : Facts (in_body r t (fate_of n o) n)
    body-facts = record { port = f.port; left = f.left; whole = f.whole }

    go : (b : Bool) → eqb n 0 ≡ b → sound (pick b (closed (fate_of n o) t (in_body r t (fate_of n o) n) room s) (turn (in_body r t (fate_of n o) n) s)).replay ≡ true
    go true e = closed-sound (in_body r t (fate_of n o) n) body-facts z (fate_of n o) t room s
    go false e = body-sound r f z t n o (eqb-false n 0 e)

opened-sound : (y : Layout) (r : Replay) → Facts r → is_first r.before ≡ true → sound (opened y r) ≡ true
opened-sound HighFirst r f e = next-sound false r.limit r.left r.port f.port None f.left (λ d. f.whole e) refl
opened-sound LowFirst r f e = next-sound true r.limit r.left r.port f.port None f.left (λ d. f.whole e) refl
opened-sound Foreign r f e = refused-sound 11 refl

-- One octet more

record Ready (m : Moment) : Type 0 where
  long : length m.room ≡ room_octets
  is : sound m.replay ≡ true

settled-ready : (r : Replay) (room : List ℕ) (s : State) → length room ≡ room_octets → (r.want ≡ 0 → sound (turned r.stage r room s).replay ≡ true)
    → ((r.want ≡ 0 → ⊥) → sound r ≡ true) → Ready (settled_in (moment r room s))
unfolding settled_in settled
settled-ready r room s l a b = record { long = l; is = go (eqb r.want 0) refl }
  where
    go : (c : Bool) → eqb r.want 0 ≡ c → sound (pick c (turned r.stage r room s) (turn r s)).replay ≡ true
    go true e = a (eqb-true r.want 0 e)
    go false e = b (eqb-false r.want 0 e)

-- one octet is taken in at a place r where some are due
module _ (r : Replay) (room : List ℕ) (s : State) (x : ℕ) (l : length room ≡ room_octets) (w : r.want ≡ 0 → ⊥) where
  abbrev one : List ℕ
  one = x ∷ []

  abbrev kept : Replay
  kept = held_to r (r.held + 1) (r.want - 1)

  abbrev passed_over : Replay
  passed_over = held_to r r.held (r.want - 1)

  ready-kept : keeps r.stage ≡ true → r.held < room_octets → Ready (settled_in (moment kept (set room r.held x) s)) → Ready (settled_in (took (moment r room s) one))
  ready-kept k h d =
      let e = took-kept r room s one k (puts_one x (output_at room r.held) (more_room room r.held x (omega arith))) in
      rw (sym e) d

  ready-passed : keeps r.stage ≡ false → Ready (settled_in (moment passed_over room s)) → Ready (settled_in (took (moment r room s) one))
  ready-passed k d = rw (sym (took-passed r room s one k)) d

  kept-long : length (set room r.held x) ≡ room_octets
  kept-long = length-set room r.held x ∙ l

  -- in a header with n octets
  header-parts : (n : ℕ) → in_header n r ≡ true → (r.held < n) × (r.want ≡ n - r.held)
  header-parts n e = let a = and_parts (ltb r.held n) (eqb r.want (n - r.held)) e in (ltb-true r.held n a.0, eqb-true r.want (n - r.held) a.1)

  header-more : (n : ℕ) → in_header n r ≡ true → (kept.want ≡ 0 → ⊥) → in_header n kept ≡ true
  header-more n e y =
      let a = header-parts n e in
      let z = positive (r.want - 1) y in
      and_both (lt-ltb (r.held + 1) n (omega (arith, a.0, a.1, z))) (eq-eqb (r.want - 1) (n - (r.held + 1)) (omega (arith, a.0, a.1)))

  opening-ready : r.stage ≡ Opening → sound r ≡ true → Ready (settled_in (took (moment r room s) one))
  opening-ready g e =
      let a = and_parts (in_header file_header r && not r.low && is_first r.before) (in_file r) (sound-at r Opening g ∙ e) in
      let b = and_parts (in_header file_header r && not r.low) (is_first r.before) a.0 in
      let c = and_parts (in_header file_header r) (not r.low) b.0 in
      let f = file-facts r a.1 in
      let h = header-parts file_header c.0 in
      ready-kept (ap keeps g) (omega (arith, h.0))
      (settled-ready kept (set room r.held x) s kept-long
      (λ z. ap (λ (q : Stage). sound (turned q kept (set room r.held x) s).replay) g ∙ opened-sound (layout_of (set room r.held x)) kept (record { port = f.port; left = f.left; whole = f.whole }) b.1)
      (λ y. sym (sound-at kept Opening g) ∙ and_both (and_both (and_both (header-more file_header c.0 y) c.1) b.1) a.1))

  heading-ready : r.stage ≡ Heading → sound r ≡ true → Ready (settled_in (took (moment r room s) one))
  heading-ready g e =
      let a = and_parts (in_header record_header r && not (eqb r.left 0)) (in_file r) (sound-at r Heading g ∙ e) in
      let b = and_parts (in_header record_header r) (not (eqb r.left 0)) a.0 in
      let f = file-facts r a.1 in
      let h = header-parts record_header b.0 in
      ready-kept (ap keeps g) (omega (arith, h.0))
      (settled-ready kept (set room r.held x) s kept-long
      (λ z.
      ap (λ (q : Stage). sound (turned q kept (set room r.held x) s).replay) g
      ∙ headed-sound kept (record { port = f.port; left = f.left; whole = f.whole }) (not-zero r.left b.1) _ _ _ (set room r.held x) s)
      (λ y. sym (sound-at kept Heading g) ∙ and_both (and_both (header-more record_header b.0 y) b.1) a.1))

  module _ (t : ℕ) (fate : Fate) (g : r.stage ≡ Body t fate) (e : sound r ≡ true) where
    body-parts : ((in_record fate r ≡ true) × (not (eqb r.left 0) ≡ true)) × (in_file r ≡ true)
    body-parts =
        let a = and_parts (in_record fate r && not (eqb r.left 0)) (in_file r) (sound-at r (Body t fate) g ∙ e) in
        (and_parts (in_record fate r) (not (eqb r.left 0)) a.0, a.1)

    -- with all of it taken in
    closes-sound : (q : Replay) → q.stage ≡ Body t fate → q.port ≡ r.port → q.left ≡ r.left → q.limit ≡ r.limit → q.before ≡ r.before → (room' : List ℕ)
        → sound (turned q.stage q room' s).replay ≡ true
    closes-sound q d ep el em eb room' =
        let f = file-facts r body-parts.1 in
        ap (λ (h : Stage). sound (turned h q room' s).replay) d
        ∙ closed-sound q (record { port = omega (arith, ep, f.port); left = omega (arith, el, em, f.left); whole = λ i. el ∙ f.whole (ap is_first (sym eb) ∙ i) ∙ sym em }) (λ z. not-zero r.left body-parts.0.1 (sym el ∙ z)) fate t room' s

    -- by what becomes of the record: its octets are kept, or passed over
    abbrev held_in : ℕ → ℕ → Bool
    held_in held want = not (eqb want 0) && ltb held room_octets && leb want (room_octets - held)

    abbrev passed_in : ℕ → ℕ → Bool
    passed_in held want = not (eqb want 0) && eqb held 0

    body-ready : Ready (settled_in (took (moment r room s) one))
    body-ready = go (is_heard fate) refl
      where
        go : (b : Bool) → is_heard fate ≡ b → Ready (settled_in (took (moment r room s) one))
        go true i =
            let p : held_in r.held r.want ≡ true = sym (ap (λ (b : Bool). pick b (held_in r.held r.want) (passed_in r.held r.want)) i) ∙ body-parts.0.0 in
            let a = and_parts (not (eqb r.want 0) && ltb r.held room_octets) (leb r.want (room_octets - r.held)) p in
            let h = ltb-true r.held room_octets (and_parts (not (eqb r.want 0)) (ltb r.held room_octets) a.0).1 in
            let v = leb-true r.want (room_octets - r.held) a.1 in
            ready-kept (ap keeps g ∙ i) h
            (settled-ready kept (set room r.held x) s kept-long (λ z. closes-sound kept g refl refl refl refl (set room r.held x))
            (λ y.
            let c = positive (r.want - 1) y in
            sym (sound-at kept (Body t fate) g)
            ∙ and_both (and_both
            (ap (λ (b : Bool). pick b (held_in (r.held + 1) (r.want - 1)) (passed_in (r.held + 1) (r.want - 1))) i
            ∙ and_both (and_both (ap not (ne_eqb (r.want - 1) 0 y)) (lt-ltb (r.held + 1) room_octets (omega arith))) (le-leb (r.want - 1) (room_octets - (r.held + 1)) (omega arith)))
            body-parts.0.1) body-parts.1))
        go false i =
            let p : passed_in r.held r.want ≡ true = sym (ap (λ (b : Bool). pick b (held_in r.held r.want) (passed_in r.held r.want)) i) ∙ body-parts.0.0 in
            let a = and_parts (not (eqb r.want 0)) (eqb r.held 0) p in
            ready-passed (ap keeps g ∙ i)
            (settled-ready passed_over room s l (λ z. closes-sound passed_over g refl refl refl refl room)
            (λ y.
            sym (sound-at passed_over (Body t fate) g)
            ∙ and_both (and_both
            (ap (λ (b : Bool). pick b (held_in r.held (r.want - 1)) (passed_in r.held (r.want - 1))) i ∙ and_both (ap not (ne_eqb (r.want - 1) 0 y)) a.1)
            body-parts.0.1) body-parts.1))

  -- at the end, and where it is refused, nothing is due
  octet-ready : (g : Stage) → r.stage ≡ g → sound r ≡ true → Ready (settled_in (took (moment r room s) one))
  octet-ready Opening g e = opening-ready g e
  octet-ready Heading g e = heading-ready g e
  octet-ready (Body t fate) g e = body-ready t fate g e
  octet-ready Stopped g e =
      let a = and_parts (is_stopped r) (in_file r) (sound-at r Stopped g ∙ e) in
      let b = and_parts (eqb r.held 0 && eqb r.want 0 && eqb r.left 0) (is_first r.before || not (eqb r.limit 0)) a.0 in
      let c = and_parts (eqb r.held 0 && eqb r.want 0) (eqb r.left 0) b.0 in
      absurd (w (eqb-true r.want 0 (and_parts (eqb r.held 0) (eqb r.want 0) c.0).1))
  octet-ready (Refused n) g e =
      let number = eqb n 1 || eqb n 2 || eqb n 11 in
      let front = number && not r.low && is_first r.before && eqb r.held 0 in
      let a = and_parts (front && eqb r.want 0 && eqb r.limit 0 && eqb r.left 0) (eqb r.port 0) (sound-at r (Refused n) g ∙ e) in
      let b = and_parts (front && eqb r.want 0 && eqb r.limit 0) (eqb r.left 0) a.0 in
      let c = and_parts (front && eqb r.want 0) (eqb r.limit 0) b.0 in
      absurd (w (eqb-true r.want 0 (and_parts front (eqb r.want 0) c.0).1))

step-ready : (m : Moment) (x : ℕ) → Ready m → Ready (step m x)
unfolding step
step-ready m x k = go (eqb m.replay.want 0) refl
  where
    go : (b : Bool) → eqb m.replay.want 0 ≡ b → Ready (pick b m (settled_in (took m (x ∷ []))))
    go true e = k
    go false e = octet-ready m.replay m.room m.state x k.long (eqb-false m.replay.want 0 e) m.replay.stage refl k.is

fed-ready : (m : Moment) (l : List ℕ) → Ready m → Ready (fed m l)
unfolding fed
fed-ready m [] k = k
fed-ready m (x ∷ l) k = fed-ready (step m x) l (step-ready m x k)

-- Before the file

beginning-sound : (s : State) (port limit : ℕ) → sound (beginning s port limit) ≡ true
unfolding beginning
beginning-sound s port limit = go (fit s) (ltb port ports) refl
  where
    opening-sound : port < ports → sound (opening port limit) ≡ true
    opening-sound p =
        sym (sound-at (opening port limit) Opening refl) ∙ and_both refl (facts-file (opening port limit) (record { port = p; left = omega arith; whole = λ e. refl }))

    go : (a b : Bool) → ltb port ports ≡ b → sound (pick a (pick b (opening port limit) (refused_with 2)) (refused_with 1)) ≡ true
    go true true e = opening-sound (ltb-true port ports e)
    go true false e = refused-sound 2 refl
    go false b e = refused-sound 1 refl

-- What a replay makes of any file is sound

pub made-ready : (s : State) (port limit : ℕ) (room : List ℕ) → length room ≡ room_octets → (file : List ℕ)
    → (length (fed (moment (beginning s port limit) room s) file).room ≡ room_octets) × (sound (fed (moment (beginning s port limit) room s) file).replay ≡ true)
made-ready s port limit room l file =
    let k = fed-ready (moment (beginning s port limit) room s) file (record { long = l; is = beginning-sound s port limit }) in
    (k.long, k.is)

-- and so one more piece is fed as if the file had not been cut there
pub fed-more : (s : State) (port limit : ℕ) (room : List ℕ) → length room ≡ room_octets → (file piece : List ℕ)
    → feeding (fed (moment (beginning s port limit) room s) file) piece ≡ fed (moment (beginning s port limit) room s) (file ++ piece)
fed-more s port limit room l file piece =
    let m = moment (beginning s port limit) room s in
    let k = made-ready s port limit room l file in
    sym (feeds-sound (fed m file) piece k.0 k.1) ∙ sym (fed-append m file piece)

-- whatever is handed in, the place that `feed` hands back is sound
pub feeding-sound : (m : Moment) (piece : List ℕ) → sound (feeding m piece).replay ≡ true
unfolding feeding
feeding-sound m piece = go (eqb (length m.room) room_octets) refl (sound m.replay) refl
  where
    go : (a : Bool) → eqb (length m.room) room_octets ≡ a → (b : Bool) → sound m.replay ≡ b
        → sound (pick (both a b) (fed m piece) (moment (refused_with 1) m.room m.state)).replay ≡ true
    go true e true d = (fed-ready m piece (record { long = eqb-true (length m.room) room_octets e; is = d })).is
    go true e false d = refused-sound 1 refl
    go false e b d = refused-sound 1 refl

-- a table that is found unfit at a call ends the replay with 1, and stays as it is
pub unfit-ends : (f : Fate) (t : ℕ) (r : Replay) (room : List ℕ) (s : State) → fit s ≡ false → closed f t r room s ≡ turn (refused_with 1) s
unfolding closed passed
unfit-ends f t r room s e = rw e refl
