-- Laws of a frame on a port: what each return tells, what the outline of a frame says of its LLDPDU, and the refusal number.
-- The table's own counts are those of the rules (room-share), so the shares decide as the rules say.
use Prim.Native.Nat.{ℕ, ◌≤◌, ◌<◌}
use mathlib.Core.Path.{◌≡◌, refl, sym, ap, ap₂, ◌∙◌}
use mathlib.Core.List.{List, [], ◌∷◌}
use mathlib.Core.Logic.{◌≢◌}
use mathlib.Core.Bool.{Bool, true, false, not}
use native.Mathlib.Omega.{arith}
use borrow.Author.Tests.{eq-eqb, ne_eqb, ltb-true, lt-ltb, le-ltb}
use lib.ListN.{length, take, drop, length-take, length-drop}
use lib.Dec.{eqb, ltb, leb}
use Rattle.std.specs.Prelude.{Option, Result, Ok, Err, Some, None}
use Rattle.tally.specs.Tests.{pick, both, all}
use Rattle.tally.specs.Due.{first_due}
use Rattle.tally.proofs.TestsLaws.{not-below, below-or-at}
use Rattle.refusal.specs.Refusal.{refusal_of}
use Rattle.refusal.specs.declared.Refusal.{Refusal}
use Rattle.refusal.specs.declared.Refusal.TheVariants.{Unfit, NoPort, NoFrame}
use Rattle.walk.specs.Walk.{Extent}
use Rattle.lldpdu.specs.Extent.{extent_of}
use Rattle.lldpdu.specs.Outline.{outline_at, outline_of}
use Rattle.ids.specs.Id.{id_meant}
use Rattle.lldpdu.specs.declared.outline.Outline.{Outline}
use Rattle.lldpdu.proofs.ExtentLaws.{good}
use Rattle.lldpdu.proofs.Few.{Few, extent-few}
use Rattle.lldpdu.proofs.RowsLaws.{due_in, extent-rows}
use Rattle.lldpdu.proofs.Stable.{sized}
use Rattle.reader.specs.Frame.{source_of, frame_ok, on_frame, frame_rows}
use Rattle.reader.proofs.FrameLaws.{frame-size, on-good}
use Rattle.rules.specs.Identity.{Ident}
use Rattle.rules.specs.Events.{Announcement, Heard, unread, says, whose}
use Rattle.rules.specs.Shares.{sure, most, per_chassis, beyond, chassis_is, share, room}
use Rattle.rules.specs.Answers.{Answered}
use Rattle.rules.specs.declared.Room.{Room}
use Rattle.rules.specs.declared.Room.TheVariants.{Enough, Loud, Full, Taken}
use Rattle.rules.specs.declared.Reply.TheVariants.{Refreshed, Gone, UnknownGoodbye}
use Rattle.numbers.specs.Sizes.{ports, places, common}
use Rattle.numbers.specs.Numbers.{holds}
use Rattle.numbers.specs.declared.Table.{Table}
use Rattle.place.specs.State.{Place, State, size, state, at, put, free, keep, ident, whose_in, said, find, place_found, count_records}
use Rattle.fitness.specs.Fit.{fit}
use Rattle.hearing.specs.Frame.{extent_on, heard_of, heard_in, Told, reception, told, telling, kept, heard_at, heard_by_room, heard_new, heard_saying, on_heard, heard, is_new, room_rows, refusal_on_frame, Hears}
use Rattle.hearing.specs.declared.Reception.{Reception}
use Rattle.place.proofs.FoundLaws.{found-some, found-none}
use Rattle.place.proofs.WhoseLaws.{outline-ident}
use Rattle.fitness.proofs.FitLaws.{fit_parts}
use Rattle.fitness.proofs.KeepLaws.{kept-outline}

-- What each return tells

pub tells : {o : Reception} {t : Table} {a : Answered} {b : List ℕ} {s : State} → o ≡ reception t a → state t b ≡ s → told o b ≡ telling a s
tells {a = a} {b = b} e d = ap (λ (x : Reception). told x b) e ∙ ap (telling a) d

-- a known identity
module _ (k n : ℕ) (x : Place) (s : State) where
  pub at-gone : n ≡ 0 → telling (Ok Gone) (put s k free) ≡ heard_at k n x s
  unfolding heard_at
  at-gone e = rw (eq-eqb n 0 e)

  pub at-kept : n ≢ 0 → telling (Ok Refreshed) (put s k x) ≡ heard_at k n x s
  unfolding heard_at
  at-kept u = rw (ne_eqb n 0 u)

-- a new one, with the room that the table's own counts leave
pub room-share : (s : State) (w : Ident) → room ports (count_records s) w ≡ share ports (holds s.table) (count_records s (chassis_is w.port w.chassis)) w.port
unfolding room count_records holds at
room-share s w = refl

module _ (n : ℕ) (w : Ident) (x : Place) (s : State) where
  pub new-goodbye : n ≡ 0 → telling (Ok UnknownGoodbye) s ≡ heard_new n w x s
  unfolding heard_new
  new-goodbye e = rw (eq-eqb n 0 e)

  pub new-room : {r : Room} → n ≢ 0 → r ≡ share ports (holds s.table) (count_records s (chassis_is w.port w.chassis)) w.port → {q : Room} → r ≡ q
      → heard_by_room q x s ≡ heard_new n w x s
  unfolding heard_new
  new-room u e d = rw (ne_eqb n 0 u, room-share s w, sym e ∙ d)

-- what the code has of a valid LLDPDU l, by its outline
module _ (p : ℕ) (sender l : List ℕ) (s : State) {o : Outline} (e : outline_of l ≡ Ok o) where
  -- and of the place that it found for the identity
  module _ {x : Option ℕ} (q : x ≡ place_found (find s (ident p (id_meant l o.chassis) (id_meant l o.port)))) where
    found : x ≡ place_found (find s (whose_in p l))
    found = q ∙ ap (λ (w : Ident). place_found (find s w)) (outline-ident l e p)

    pub known-below : {k : ℕ} → x ≡ Some k → k < places
    known-below v = (found-some (find s (whose_in p l)) (sym found ∙ v)).1

    pub saying-known : {k : ℕ} → x ≡ Some k → heard_at k o.seconds (keep p o.seconds sender l) s ≡ heard_saying p (said sender l) s
    unfolding heard_saying
    saying-known {k} v =
        let h = found-some (find s (whose_in p l)) (sym found ∙ v) in
        rw (h.0, lt-ltb k places h.1, e)

    pub saying-new : x ≡ None → heard_new o.seconds (whose_in p l) (keep p o.seconds sender l) s ≡ heard_saying p (said sender l) s
    unfolding heard_saying
    saying-new v = rw (le-ltb (find s (whose_in p l)) places (found-none (find s (whose_in p l)) (sym found ∙ v)), e)

-- The LLDPDU of a frame, by the outline that the reader gives

-- the outline of a frame is that of its extent
framed-outline : (f : List ℕ) → on_frame (Err NoFrame) outline_of f ≡ outline_at (extent_on f) (drop 14 f)
unfolding on_frame outline_of
framed-outline f = go (frame_ok f)
  where
    go : (b : Bool) → pick b (outline_at (extent_of (drop 14 f)) (drop 14 f)) (Err NoFrame) ≡ outline_at (pick b (extent_of (drop 14 f)) (Err NoFrame)) (drop 14 f)
    go true = refl
    go false = refl

module _ (f : List ℕ) {x : Result Outline Refusal} (i : x ≡ on_frame (Err NoFrame) outline_of f) where
  -- a frame that the reader refuses
  pub unread-tells : (p : ℕ) (s : State) {r : Refusal} → x ≡ Err r → telling (Err r) s ≡ on_heard (heard_of f) p s
  unfolding heard_of
  unread-tells p s {r} e = go (extent_on f) (sym e ∙ i ∙ framed-outline f)
    where
      go : (y : Extent) → Err r ≡ outline_at y (drop 14 f) → telling (Err r) s ≡ on_heard (heard_in y (source_of f) (drop 14 f)) p s
      go (Err k) q = let h : r ≡ k = cc in ap (λ (z : Refusal). telling (Err z) s) h
      go (Ok n) q = cc

  -- one that it reads
  module _ {o : Outline} (v : x ≡ Ok o) where
    framed : frame_ok f ≡ true
    unfolding on_frame
    framed = go (frame_ok f) refl (sym v ∙ i)
      where
        go : (b : Bool) → frame_ok f ≡ b → Ok o ≡ pick b (outline_of (drop 14 f)) (Err NoFrame) → frame_ok f ≡ true
        go true q h = q
        go false q h = cc

    from-rest : outline_of (drop 14 f) ≡ Ok o
    from-rest = sym (on-good (Err NoFrame) outline_of f framed) ∙ sym i ∙ v

    rest-extent : extent_of (drop 14 f) ≡ Ok o.octets
    unfolding outline_of
    rest-extent = go (extent_of (drop 14 f)) refl from-rest
      where
        go : (y : Extent) → extent_of (drop 14 f) ≡ y → outline_at y (drop 14 f) ≡ Ok o → extent_of (drop 14 f) ≡ Ok o.octets
        go (Err k) q h = cc
        go (Ok n) q h = let z : n ≡ o.octets = cc in q ∙ ap Ok z

    heard-in : heard_in (Ok o.octets) (source_of f) (drop 14 f) ≡ heard_of f
    unfolding heard_of
    heard-in = ap (λ (y : Extent). heard_in y (source_of f) (drop 14 f)) (sym (on-good (Err NoFrame) extent_of f framed ∙ rest-extent))

    -- l is the LLDPDU as the code has cut it out
    module _ {l : List ℕ} (t : l ≡ take o.octets (drop 14 f)) where
      pub frame-short : length l ≤ size
      frame-short =
          let z = (sized (good (drop 14 f) o.octets rest-extent)).whole-inside in
          let h = frame-size f framed in
          rw t (omega (arith, length-take o.octets (drop 14 f), length-drop 14 f))

      pub same-outline : outline_of l ≡ Ok o
      same-outline = ap outline_of t ∙ kept-outline (drop 14 f) o.octets rest-extent ∙ from-rest

      pub saying-tells : (p : ℕ) (s : State) {sender : List ℕ} → sender ≡ source_of f → heard_saying p (said sender l) s ≡ on_heard (heard_of f) p s
      saying-tells p s q = ap₂ (λ (x y : List ℕ). heard_saying p (said x y) s) q t ∙ ap (λ (x : Heard). on_heard x p s) heard-in

-- The call

module _ (p : ℕ) (f : List ℕ) (s : State) where
  pub heard-unfit : fit s ≡ false → telling (Err Unfit) s ≡ heard p f s
  unfolding heard
  heard-unfit e = rw e

  pub heard-port : fit s ≡ true → ports ≤ p → telling (Err NoPort) s ≡ heard p f s
  unfolding heard
  heard-port e l = rw (e, le-ltb p ports l)

  pub heard-by : fit s ≡ true → p < ports → on_heard (heard_of f) p s ≡ heard p f s
  unfolding heard
  heard-by e l = rw (e, lt-ltb p ports l)

-- The refusal number

module _ (s : State) (p : ℕ) (f : fit s ≡ true) (l : p < ports) where
  said-refusal : (a : Announcement) → refusal_of (heard_saying p a s).outcome.reply ≡ first_due (room_rows (says a) p s)
  unfolding heard_saying heard_at heard_new share
  said-refusal a =
      let h = holds s.table p in
      rw (room-share s (whose p a), not-below (find s (whose p a)) places, not-below h sure, below-or-at h most ((fit_parts s f).six p l))
      (go (ltb (find s (whose p a)) places) (eqb a.seconds 0) (eqb (count_records s (chassis_is p a.chassis)) per_chassis) (ltb h sure) (eqb h most)
      (eqb (beyond ports (holds s.table)) common) (λ e. ne_eqb h most (omega (arith, ltb-true h sure e))))
    where
      go : (known goodbye loud few full taken : Bool) → (few ≡ true → full ≡ false)
          → refusal_of (pick known (pick goodbye (telling (Ok Gone) (put s (find s (whose p a)) free)) (telling (Ok Refreshed) (put s (find s (whose p a)) (kept p a))))
          (pick goodbye (telling (Ok UnknownGoodbye) s) (heard_by_room (pick loud Loud (pick few Enough (pick full Full (pick taken Taken Enough)))) (kept p a) s))).outcome.reply
          ≡ pick (both (both (not goodbye) (not known)) loud) 13
          (pick (both (both (not goodbye) (not known)) full) 7 (pick (both (both (not goodbye) (not known)) (both (not few) (both (not full) (both taken true)))) 8 0))
      go true true loud few full taken e = refl
      go true false loud few full taken e = refl
      go false true loud few full taken e = refl
      go false false true few full taken e = refl
      go false false false true true taken e = let z : ◌≡◌ {A = Bool} true false = e refl in cc
      go false false false true false taken e = refl
      go false false false false true taken e = refl
      go false false false false false true e = refl
      go false false false false false false e = refl

  heard-refusal : (f : List ℕ) → refusal_of (on_heard (heard_of f) p s).outcome.reply ≡ first_due (frame_rows f (room_rows (heard_of f) p s))
  unfolding heard_of on_frame
  heard-refusal f = rw (extent-rows (drop 14 f) (room_rows (heard_of f) p s)) (go (frame_ok f) (extent_of (drop 14 f)))
    where
      go : (b : Bool) (e : Extent)
          → refusal_of (on_heard (heard_in (pick b e (Err NoFrame)) (source_of f) (drop 14 f)) p s).outcome.reply
          ≡ pick (not b) 3 (due_in e (first_due (room_rows (heard_in (pick b e (Err NoFrame)) (source_of f) (drop 14 f)) p s)))
      go true (Err k) = refl
      go true (Ok e) = said-refusal (said (source_of f) (take e (drop 14 f)))
      go false e = refl

pub hears-exactly : (p : ℕ) (f : List ℕ) (s : State) {o : Reception} {b : List ℕ} → told o b ≡ heard p f s → Hears p f s o b
unfolding heard refusal_on_frame
hears-exactly p f s e = record { exact = e; refusal = ap (λ (x : Told). refusal_of x.outcome.reply) e ∙ rw (not-below p ports) (go (fit s) refl (ltb p ports) refl) }
  where
    go : (b : Bool) → fit s ≡ b → (d : Bool) → ltb p ports ≡ d
        → refusal_of (pick b (pick d (on_heard (heard_of f) p s) (telling (Err NoPort) s)) (telling (Err Unfit) s)).outcome.reply
        ≡ pick (not b) 1 (pick (not d) 2 (first_due (frame_rows f (room_rows (heard_of f) p s))))
    go true q true r = heard-refusal s p q (ltb-true p ports r) f
    go true q false r = refl
    go false q d r = refl

-- 1 is for a table that is not fit, and for nothing else (R1)
pub fit-not-1 : (p : ℕ) (f : List ℕ) (s : State) → fit s ≡ true → refusal_on_frame p f s ≢ 1
unfolding refusal_on_frame
fit-not-1 p f s e = rw (e, extent-rows (drop 14 f) (room_rows (heard_of f) p s)) (go (leb ports p) (frame_ok f) (extent_of (drop 14 f)) (extent-few (drop 14 f)))
  where
    for-room : (x : Heard) → first_due (room_rows x p s) ≢ 1
    for-room (unread k) z = absurd (omega arith)
    for-room (says a) z = decide (both (is_new s p a) (eqb (count_records s (chassis_is p a.chassis)) per_chassis)) (both (is_new s p a) (eqb (holds s.table p) most)) (all (is_new s p a ∷ leb sure (holds s.table p) ∷ ltb (holds s.table p) most ∷ eqb (beyond ports (holds s.table)) common ∷ [])) z
      where
        decide : (l b d : Bool) → ◌≢◌ {A = ℕ} (pick l 13 (pick b 7 (pick d 8 0))) 1
        decide true b d z = absurd (omega arith)
        decide false true d z = absurd (omega arith)
        decide false false true z = absurd (omega arith)
        decide false false false z = absurd (omega arith)

    go : (b d : Bool) (x : Extent) → Few x → pick b 2 (pick (not d) 3 (due_in x (first_due (room_rows (heard_of f) p s)))) ≢ 1
    go true d x y z = absurd (omega arith)
    go false false x y z = absurd (omega arith)
    go false true (Err r) y z = absurd (omega (arith, y.0))
    go false true (Ok n) y z = for-room (heard_of f) z
