-- THE THEOREM of the replay (C9): fed octet by octet, a file leads to the answer and the table that the definition gives for the whole file.
-- From record to record by induction; a record is fed at once, header and body (DueLaws), and a cut file ends inside one.
use Prim.Native.Nat.{ℕ, zero, suc, ◌+◌, ◌-◌, ◌<◌, ◌≤◌}
use mathlib.Core.Path.{◌≡◌, refl, sym, ap, ap₂, ◌∙◌}
use mathlib.Core.List.{List, ◌++◌}
use mathlib.Core.Bool.{Bool, true, false}
use native.Mathlib.Omega.{arith}
use borrow.Author.Tests.{ne_eqb, eqb-true, eqb-false, leb-true, leb-false, ltb-true, ltb-false}
use lib.ListN.{length, take, drop, length-drop, take-append-drop}
use lib.Seq.{drop-drop, length-take-le}
use lib.Dec.{leb, ltb, eqb}
use Rattle.std.specs.Prelude.{Option, Some, None, Ok, Err}
use Rattle.tally.specs.Tests.{pick}
use Rattle.refusal.specs.declared.Refusal.TheVariants.{Torn}
use Rattle.capture.specs.Layout.{file_header, layout_of, record_header, stamp, captured, original}
use Rattle.capture.specs.Records.{Records, records_of}
use Rattle.capture.specs.declared.Layout.{Layout}
use Rattle.capture.specs.declared.Layout.TheVariants.{HighFirst, LowFirst, Foreign}
use Rattle.capture.proofs.LayoutLaws.{word-front, layout-front}
use Rattle.capture.proofs.RecordsLaws.{records-none, records-torn, records-first}
use Rattle.numbers.specs.Sizes.{ports}
use Rattle.place.specs.State.{State}
use Rattle.fitness.specs.Fit.{fit}
use Rattle.freeing.specs.Calls.{Answer, state_after, passed}
use Rattle.hearing.specs.Frame.{state_told, heard}
use Rattle.table.proofs.StepLaws.{Kept}
use Rattle.records.specs.Place.{gap, place_at, refused_with, next, opened, fate_of, is_heard}
use Rattle.records.specs.Turns.{Turn, turn, met, on_answer, closed, headed_by}
use Rattle.records.proofs.PlaceLaws.{next-goes}
use Rattle.replay.specs.Calls.{named, Script, refusing, call, pass, frame, script_of, script_in, script_of_file, script_for, handed_in, after, ended, end_from, replayed}
use Rattle.replay.specs.Place.{room_octets, opening, beginning}
use Rattle.replay.specs.Feeding.{Moment, moment, fed, finished}
use Rattle.replay.specs.Promises.{Listed}
use Rattle.records.specs.declared.Fate.{Fate}
use Rattle.records.specs.declared.Fate.TheVariants.{Heard, Skipped, TooLong}
use Rattle.records.specs.declared.Stage.TheVariants.{Opening, Heading, Body}
use Rattle.records.specs.declared.Replay.{Replay}
use Rattle.replay.proofs.FeedingLaws.{fed-still, positive}
use Rattle.replay.proofs.TableLaws.{kept_of, passed-done, passed-kept, heard-kept, long-unheard}
use Rattle.replay.proofs.DueLaws.{fronted, fronted-long, fronted-take, turned_in, inside, fill-kept, fill-passed, part-kept, part-passed}

-- a place and a table, beside some record buffer
unfoldable beside : List ℕ → Turn → Moment
beside room x = moment x.replay room x.state

-- m goes on with l as x does with k, beside some record buffer
record Goes (m : Moment) (l : List ℕ) (x : Turn) (k : List ℕ) : Type 0 where
  room : List ℕ
  long : length room ≡ room_octets
  same : fed m l ≡ fed (beside room x) k

positive_of : (n : ℕ) → eqb n 0 ≡ false → 0 < n
positive_of n e = positive n (eqb-false n 0 e)

-- the table is fit, so the seconds of a record pass
closed-met : (f : Fate) (t : ℕ) (r : Replay) (room : List ℕ) (s : State) → Kept s → closed f t r room s ≡ met f t r room (state_after (passed (gap r.before t) s))
unfolding closed
closed-met f t r room s k =
    ap (λ (a : Answer). on_answer a f t r room (state_after (passed (gap r.before t) s))) (passed-done s k (gap r.before t))

-- A record that is all there

module _ (low : Bool) (before : Option ℕ) (limit left port : ℕ) (s : State) (k : Kept s) (q : port < ports) (l : List ℕ) where
  abbrev t : ℕ
  t = stamp low l

  abbrev n : ℕ
  n = captured low l

  abbrev o : ℕ
  o = original low l

  -- the table when the seconds of the record at the front of l have passed, its octets, and where it leads
  abbrev then : State
  then = state_after (passed (gap before t) s)

  abbrev octets : List ℕ
  octets = take n (drop record_header l)

  unfoldable behind : Turn
  behind = pick (ltb n o) (turn (next low (Some t) limit left port) then) (turn (next low (Some t) limit (left - 1) port) (state_told (heard port octets then)))

  abbrev body : ℕ → ℕ → Replay
  body held want = place_at (Body t (fate_of n o)) low before held want limit left port

  -- what is heard has room
  heard-fits : is_heard (fate_of n o) ≡ true → n ≤ room_octets
  unfolding fate_of
  heard-fits = go (ltb n o) (ltb room_octets n) refl
    where
      go : (B C : Bool) → ltb room_octets n ≡ C → is_heard (pick B Skipped (pick C TooLong Heard)) ≡ true → n ≤ room_octets
      go true C e h = let z : ◌≡◌ {A = ℕ} 0 1 = cc in absurd (omega arith)
      go false true e h = let z : ◌≡◌ {A = ℕ} 0 1 = cc in absurd (omega arith)
      go false false e h = ltb-false room_octets n e

  all_there : record_header + n ≤ length l → length octets ≡ n
  all_there h = length-take-le n (drop record_header l) (omega (arith, length-drop record_header l))

  -- with all of the record fed, and its octets held where it is heard
  closes : (held want : ℕ) (room : List ℕ) → record_header + n ≤ length l → (is_heard (fate_of n o) ≡ true → take held room ≡ octets)
      → closed (fate_of n o) t (body held want) room s ≡ behind
  unfolding fate_of behind
  closes held want room h e = closed-met (fate_of n o) t (body held want) room s k ∙ go (ltb n o) (ltb room_octets n) refl e
    where
      go : (B C : Bool) → ltb room_octets n ≡ C → (is_heard (pick B Skipped (pick C TooLong Heard)) ≡ true → take held room ≡ octets)
          → met (pick B Skipped (pick C TooLong Heard)) t (body held want) room then
          ≡ pick B (turn (next low (Some t) limit left port) then) (turn (next low (Some t) limit (left - 1) port) (state_told (heard port octets then)))
      go true C y f = refl
      go false true y f =
          ap (turn (next low (Some t) limit (left - 1) port))
          (sym (long-unheard then (passed-kept s k (gap before t)) port octets q (omega (arith, all_there h, ltb-true room_octets n y))))
      go false false y f = ap (λ (x : List ℕ). turn (next low (Some t) limit (left - 1) port) (state_told (heard port x then))) (f refl)

  module _ (room : List ℕ) (r : length room ≡ room_octets) where
    -- the record buffer with the header in front
    abbrev header_room : List ℕ
    header_room = fronted (take record_header l) room

    header-fed : record_header ≤ length l
        → fed (inside low before limit left port s Heading 0 record_header room) l
        ≡ fed (beside header_room (headed_by t n o (place_at Heading low before record_header 0 limit left port) header_room s)) (drop record_header l)
    unfolding turned_in inside beside
    header-fed h =
        let c : List ℕ = take record_header l in
        let e : length c ≡ record_header = length-take-le record_header l h in
        let d = fronted-take c room e in
        ap (fed (inside low before limit left port s Heading 0 record_header room)) (sym (take-append-drop record_header l))
        ∙ fill-kept low before limit left port s Heading room c record_header (drop record_header l) refl (omega arith) e (omega arith)
        ∙ (λ i.
        fed (beside header_room (headed_by (word-front low record_header header_room l 0 (omega arith) d i) (word-front low record_header header_room l 8 (omega arith) d i) (word-front low record_header header_room l 12 (omega arith) d i)
        (place_at Heading low before (e i) 0 limit left port) header_room s)) (drop record_header l))

    room-long : record_header ≤ length l → length header_room ≡ room_octets
    room-long h = fronted-long (take record_header l) room (omega (arith, length-take-le record_header l h)) ∙ r

    module _ (h : record_header + n ≤ length l) where
      -- its octets are fed where there are some
      body-fed : 0 < n → Goes (inside low before limit left port s (Body t (fate_of n o)) 0 n header_room) (drop record_header l) behind (drop (record_header + n) l)
      unfolding turned_in inside beside
      body-fed i = go (is_heard (fate_of n o)) refl
        where
          split : drop record_header l ≡ octets ++ drop (record_header + n) l
          split = sym (ap (λ (x : List ℕ). octets ++ x) (sym (drop-drop n record_header l)) ∙ take-append-drop n (drop record_header l))

          go : (b : Bool) → is_heard (fate_of n o) ≡ b → Goes (inside low before limit left port s (Body t (fate_of n o)) 0 n header_room) (drop record_header l) behind (drop (record_header + n) l)
          go true e =
              record {
                room = fronted octets header_room;
                long = fronted-long octets header_room (omega (arith, all_there h, heard-fits e, room-long (omega arith))) ∙ room-long (omega arith);
                same =
                    ap (fed (inside low before limit left port s (Body t (fate_of n o)) 0 n header_room)) split
                    ∙ fill-kept low before limit left port s (Body t (fate_of n o)) header_room octets n (drop (record_header + n) l) e i (all_there h) (omega (arith, heard-fits e, room-long (omega arith)))
                    ∙ ap (λ (x : Turn). fed (beside (fronted octets header_room) x) (drop (record_header + n) l)) (closes (length octets) 0 (fronted octets header_room) h (λ y. fronted-take octets header_room refl));
              }
          go false e =
              record {
                room = header_room;
                long = room-long (omega arith);
                same =
                    ap (fed (inside low before limit left port s (Body t (fate_of n o)) 0 n header_room)) split
                    ∙ fill-passed low before limit left port s (Body t (fate_of n o)) header_room octets n (drop (record_header + n) l) e i (all_there h)
                    ∙ ap (λ (x : Turn). fed (beside header_room x) (drop (record_header + n) l)) (closes 0 0 header_room h (λ y. let z : ◌≡◌ {A = ℕ} 0 1 = cc in absurd (omega arith)));
              }

      goes-record : Goes (inside low before limit left port s Heading 0 record_header room) l behind (drop (record_header + n) l)
      unfolding headed_by inside beside
      goes-record = go (eqb n 0) refl
        where
          header : fed (inside low before limit left port s Heading 0 record_header room) l
              ≡ fed (beside header_room (headed_by t n o (place_at Heading low before record_header 0 limit left port) header_room s)) (drop record_header l)
          header = header-fed (omega arith)

          go : (b : Bool) → eqb n 0 ≡ b → Goes (inside low before limit left port s Heading 0 record_header room) l behind (drop (record_header + n) l)
          go true e =
              let z : n ≡ 0 = eqb-true n 0 e in
              let d : record_header ≡ record_header + n = omega arith in
              record {
                room = header_room;
                long = room-long (omega arith);
                same =
                    header
                    ∙ rw e (ap₂ (λ (x : Turn) (y : List ℕ). fed (beside header_room x) y) (closes 0 n header_room h (λ y. ap (λ (j : ℕ). take j (drop record_header l)) (sym z))) (ap (λ (j : ℕ). drop j l) d));
              }
          go false e =
              let g = body-fed (positive_of n e) in
              record { room = g.room; long = g.long; same = header ∙ rw e g.same }

    -- the file ends before the record at the front of l does, or has none
    cut : length l < record_header + n → finished (fed (inside low before limit left port s Heading 0 record_header room) l) ≡ ended (pick (eqb (length l) 0) (Ok (limit - left)) (Err Torn)) s
    unfolding headed_by inside beside
    cut h = go (ltb (length l) record_header) refl
      where
        in_body : record_header ≤ length l → length (drop record_header l) < n → (b : Bool) → is_heard (fate_of n o) ≡ b
            → finished (fed (inside low before limit left port s (Body t (fate_of n o)) 0 n header_room) (drop record_header l)) ≡ ended (Err Torn) s
        in_body j i true e =
            ap finished (part-kept low before limit left port s (Body t (fate_of n o)) header_room (drop record_header l) n i e (omega (arith, heard-fits e, room-long j)))
        in_body j i false e = ap finished (part-passed low before limit left port s (Body t (fate_of n o)) header_room (drop record_header l) n i e)

        go : (b : Bool) → ltb (length l) record_header ≡ b
            → finished (fed (inside low before limit left port s Heading 0 record_header room) l) ≡ ended (pick (eqb (length l) 0) (Ok (limit - left)) (Err Torn)) s
        go true e =
            let i = ltb-true (length l) record_header e in
            ap finished (part-kept low before limit left port s Heading room l record_header i refl (omega arith))
        go false e =
            let i = ltb-false (length l) record_header e in
            rw (ne_eqb (length l) 0 (λ z. omega arith))
            (ap finished (header-fed i) ∙ rw (ne_eqb n 0 (λ z. omega arith)) (in_body i (omega (arith, length-drop record_header l)) (is_heard (fate_of n o)) refl))

-- From between two records on

-- one frame more, counted before or behind
counted : (h : ℕ) (port : ℕ) (f : List ℕ) (x : Script) (s : State) → end_from (suc h) port x (state_told (heard port f s)) ≡ end_from h port (call (frame f) x) s
unfolding handed_in after
counted h port f x s =
    let e : suc h + handed_in x.calls ≡ h + suc (handed_in x.calls) = omega arith in
    ap (λ (j : ℕ). ended (pick (eqb x.refusal 0) (Ok j) (Err (named x.refusal))) (after port x.calls (state_told (heard port f s)))) e

waited : (h : ℕ) (port : ℕ) (g : ℕ) (x : Script) (s : State) → end_from h port x (state_after (passed g s)) ≡ end_from h port (call (pass g) x) s
unfolding handed_in after
waited h port g x s = refl

none-handed : (h : ℕ) (port : ℕ) (s : State) → ended (Ok h) s ≡ end_from h port (refusing 0) s
unfolding handed_in after
none-handed h port s = let e : h ≡ h + 0 = omega arith in ap (λ (j : ℕ). ended (Ok j) s) e

refused-behind : (h : ℕ) (port : ℕ) (s : State) (r : ℕ) → (r ≡ 0 → ⊥) → ended (Err (named r)) s ≡ end_from h port (refusing r) s
unfolding after
refused-behind h port s r e = sym (rw (ne_eqb r 0 e))

-- what is claimed of the records in l
abbrev Right : Bool → Option ℕ → ℕ → ℕ → ℕ → State → List ℕ → List ℕ → Type 0
Right low before limit left port s room l =
    finished (fed (moment (next low before limit left port) room s) l) ≡ end_from (limit - left) port (script_of (records_of low l 0) before left) s

module _ (low : Bool) (limit port : ℕ) (q : port < ports) where
  module _ (before : Option ℕ) (m : ℕ) (i : suc m ≤ limit) (s : State) (k : Kept s) (room : List ℕ) (r : length room ≡ room_octets) (l : List ℕ) where
    heads : moment (next low before limit (suc m) port) room s ≡ inside low before limit (suc m) port s Heading 0 record_header room
    unfolding inside
    heads = ap (λ (p : Replay). moment p room s) (sym (next-goes low before limit (suc m) port (λ e. omega arith)))

    cut_right : length l < record_header + captured low l → Right low before limit (suc m) port s room l
    unfolding script_of
    cut_right h =
        ap (λ (x : Moment). finished (fed x l)) heads
        ∙ cut low before limit (suc m) port s k q l room r h
        ∙ go (eqb (length l) 0) refl
      where
        go : (b : Bool) → eqb (length l) 0 ≡ b
            → ended (pick b (Ok (limit - suc m)) (Err Torn)) s ≡ end_from (limit - suc m) port (script_of (records_of low l 0) before (suc m)) s
        go true e = rw (records-none low l (eqb-true (length l) 0 e)) (none-handed (limit - suc m) port s)
        go false e = rw (records-torn low l (positive_of (length l) e) h) (refused-behind (limit - suc m) port s 12 (λ z. omega arith))

    module _ (h : record_header + captured low l ≤ length l) where
      abbrev rest : List ℕ
      rest = drop (record_header + captured low l) l

      abbrev more : Records
      more = records_of low rest 0

      abbrev t' : ℕ
      t' = stamp low l

      abbrev then' : State
      then' = state_after (passed (gap before t') s)

      abbrev f' : List ℕ
      f' = take (captured low l) (drop record_header l)

      kept' : Kept then'
      kept' = passed-kept s k (gap before t')

      record-right : ((before : Option ℕ) (left : ℕ) → left ≤ limit → (s : State) → Kept s → (room : List ℕ) → length room ≡ room_octets → Right low before limit left port s room rest)
          → Right low before limit (suc m) port s room l
      unfolding script_of behind beside
      record-right ih =
          let g = goes-record low before limit (suc m) port s k q l room r h in
          ap (λ (x : Moment). finished (fed x l)) heads
          ∙ ap finished g.same
          ∙ rw (records-first low l h, all_there low before limit (suc m) port s k q l h) (go (ltb (captured low l) (original low l)) g.room g.long)
        where
          go : (b : Bool) (room' : List ℕ) → length room' ≡ room_octets
              → finished (fed (beside room' (pick b (turn (next low (Some t') limit (suc m) port) then') (turn (next low (Some t') limit (suc m - 1) port) (state_told (heard port f' then'))))) rest)
              ≡ end_from (limit - suc m) port (call (pass (gap before t')) (pick b (script_of more (Some t') (suc m)) (call (frame f') (script_of more (Some t') m)))) s
          go true room' r' = ih (Some t') (suc m) i then' kept' room' r' ∙ waited (limit - suc m) port (gap before t') (script_of more (Some t') (suc m)) s
          go false room' r' =
              let e : suc m - 1 ≡ m = omega arith in
              let d : limit - m ≡ suc (limit - suc m) = omega arith in
              ap (λ (j : ℕ). finished (fed (moment (next low (Some t') limit j port) room' (state_told (heard port f' then'))) rest)) e
              ∙ ih (Some t') m (omega arith) (state_told (heard port f' then')) (heard-kept then' kept' port f') room' r'
              ∙ ap (λ (j : ℕ). end_from j port (script_of more (Some t') m) (state_told (heard port f' then'))) d
              ∙ counted (limit - suc m) port f' (script_of more (Some t') m) then'
              ∙ waited (limit - suc m) port (gap before t') (call (frame f') (script_of more (Some t') m)) s

  -- by the number of octets that are left
  records-right : (w : ℕ) (before : Option ℕ) (left : ℕ) → left ≤ limit → (s : State) → Kept s → (room : List ℕ) → length room ≡ room_octets → (l : List ℕ) → length l < w
      → Right low before limit left port s room l
  unfolding script_of next
  records-right zero before left i s k room r l h = absurd (omega arith)
  records-right (suc w) before zero i s k room r l h =
      let e : limit - 0 ≡ limit = omega arith in
      ap finished (fed-still (moment (next low before limit 0 port) room s) l refl) ∙ none-handed (limit - 0) port s
  records-right (suc w) before (suc m) i s k room r l h = go (leb (record_header + captured low l) (length l)) refl (λ b left j u k' room' r' x y. records-right w b left j u k' room' r' x y)
    where
      go : (b : Bool) → leb (record_header + captured low l) (length l) ≡ b
          → ((b : Option ℕ) (left : ℕ) → left ≤ limit → (u : State) → Kept u → (room' : List ℕ) → length room' ≡ room_octets → (x : List ℕ) → length x < w → Right low b limit left port u room' x)
          → Right low before limit (suc m) port s room l
      go true e ih =
          let j = leb-true (record_header + captured low l) (length l) e in
          record-right before m i s k room r l j (λ b left p u k' room' r'. ih b left p u k' room' r' (drop (record_header + captured low l) l) (omega (arith, length-drop (record_header + captured low l) l)))
      go false e ih = cut_right before m i s k room r l (leb-false (record_header + captured low l) (length l) e)

-- The whole file

module _ (s : State) (k : Kept s) (port limit : ℕ) (q : port < ports) (room : List ℕ) (r : length room ≡ room_octets) (file : List ℕ) where
  -- behind the file header
  layout-right : (y : Layout) (held : ℕ) (room' : List ℕ) → length room' ≡ room_octets
      → finished (fed (moment (opened y (place_at Opening false None held 0 limit limit port)) room' s) (drop file_header file)) ≡ end_from 0 port (script_in y file limit) s
  unfolding script_in
  layout-right HighFirst held room' r' =
      let e : limit - limit ≡ 0 = omega arith in
      records-right false limit port q (suc (length (drop file_header file))) None limit (omega arith) s k room' r' (drop file_header file) (omega arith)
      ∙ ap (λ (j : ℕ). end_from j port (script_of (records_of false (drop file_header file) 0) None limit) s) e
  layout-right LowFirst held room' r' =
      let e : limit - limit ≡ 0 = omega arith in
      records-right true limit port q (suc (length (drop file_header file))) None limit (omega arith) s k room' r' (drop file_header file) (omega arith)
      ∙ ap (λ (j : ℕ). end_from j port (script_of (records_of true (drop file_header file) 0) None limit) s) e
  layout-right Foreign held room' r' = ap finished (fed-still (moment (refused_with 11) room' s) (drop file_header file) refl) ∙ refused-behind 0 port s 11 (λ z. omega arith)

  opening-right : finished (fed (moment (opening port limit) room s) file) ≡ end_from 0 port (script_of_file file limit) s
  unfolding script_of_file inside turned_in
  opening-right = go (ltb (length file) file_header) refl
    where
      go : (b : Bool) → ltb (length file) file_header ≡ b
          → finished (fed (moment (opening port limit) room s) file) ≡ end_from 0 port (pick b (refusing 11) (script_in (layout_of file) file limit)) s
      go true e =
          ap finished (part-kept false None limit limit port s Opening room file file_header (ltb-true (length file) file_header e) refl (omega (arith, ltb-true (length file) file_header e)))
          ∙ refused-behind 0 port s 11 (λ z. omega arith)
      go false e =
          let c : List ℕ = take file_header file in
          let n : length c ≡ file_header = length-take-le file_header file (ltb-false (length file) file_header e) in
          ap (λ (x : List ℕ). finished (fed (moment (opening port limit) room s) x)) (sym (take-append-drop file_header file))
          ∙ ap finished (fill-kept false None limit limit port s Opening room c file_header (drop file_header file) refl (omega arith) n (omega arith))
          ∙ ap (λ (y : Layout). finished (fed (moment (opened y (place_at Opening false None (length c) 0 limit limit port)) (fronted c room) s) (drop file_header file))) (layout-front (fronted c room) file (fronted-take c room n))
          ∙ layout-right (layout_of file) (length c) (fronted c room) (fronted-long c room (omega arith) ∙ r)

-- whatever the table, the port and the limit are
pub whole : (s : State) → Listed s → (port limit : ℕ) (room : List ℕ) → length room ≡ room_octets → (file : List ℕ)
    → finished (fed (moment (beginning s port limit) room s) file) ≡ replayed s port limit file
unfolding beginning replayed script_for
whole s z port limit room r file = go (fit s) refl (ltb port ports) refl
  where
    go : (a : Bool) → fit s ≡ a → (b : Bool) → ltb port ports ≡ b
        → finished (fed (moment (pick a (pick b (opening port limit) (refused_with 2)) (refused_with 1)) room s) file)
        ≡ end_from 0 port (pick a (pick b (script_of_file file limit) (refusing 2)) (refusing 1)) s
    go true e true d = opening-right s (kept_of s z e) port limit (ltb-true port ports d) room r file
    go true e false d = ap finished (fed-still (moment (refused_with 2) room s) file refl) ∙ refused-behind 0 port s 2 (λ y. omega arith)
    go false e b d = ap finished (fed-still (moment (refused_with 1) room s) file refl) ∙ refused-behind 0 port s 1 (λ y. omega arith)
