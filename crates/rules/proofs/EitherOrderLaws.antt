-- Two frames on different ports, in either order (E1 to E5), with any number of ports: the order matters exactly when E2 says so.
-- What E2 says is of one table; two tables with the same records answer alike, so that it is of two (E5).
use Prim.Native.Nat.{ℕ, ◌+◌, ◌-◌, ◌≤◌}
use mathlib.Core.Path.{◌≡◌, refl, sym, ap, ap₂, ◌∙◌}
use mathlib.Core.Logic.{◌≢◌, ◌⊎◌, inl, inr, ⊎_elim, ◌↔◌}
use mathlib.Core.Bool.{Bool, true, false}
use mathlib.Core.List.{[], ◌∷◌}
use mathlib.Core.Option.{Option}
use native.Mathlib.Omega.{arith}
use borrow.Author.Tests.{eqb-true, eqb-false, eq-eqb, ne_eqb}
use lib.Dec.{eqb}
use Rattle.std.specs.Prelude.{Ok, Err}
use Rattle.tally.specs.Tests.{pick}
use Rattle.tally.proofs.CountsLaws.{sum_same}
use Rattle.refusal.specs.declared.Refusal.TheVariants.{CommonTaken}
use Rattle.rules.specs.Identity.{Ident, same}
use Rattle.rules.specs.Events.{Announcement, Heard, unread, says, frame, History, whose}
use Rattle.rules.specs.Shares.{common_for, beyond, port_is, chassis_is}
use Rattle.rules.specs.Answers.{Answered}
use Rattle.rules.specs.declared.Reply.TheVariants.{Recorded, Gone}
use Rattle.rules.specs.Model.{Rec, Places, is_some, lookup, holds_in, recorded, reply, after_frame, run}
use Rattle.rules.specs.Fit.{FitPlaces}
use Rattle.rules.specs.Records.{records_in, SameRecords}
use Rattle.rules.specs.EitherOrder.{Alike, Leaving, Says, AsksCommon, FreesCommon, taken, LastPlace, FreedPlace, FirstRecorded, RecordedBehind, has, OrderMatters, asked_twice, freed_by_x, freed_by_y, Other, OneAtMost, AsIfAlone, OtherOrder, begun, also, swapped, further}
use Rattle.rules.proofs.IdentityLaws.{same_true, same_self}
use Rattle.rules.proofs.FrameLaws.{after, frame-fit, frame-lookup, no-reply, no-frame, unread-frame, run-fit}
use Rattle.rules.proofs.CommonLaws.{there, by-room, SamePort, asks-too, leaves-too, other-port-same, is_none_left, common-reply, Decided, decided, Moves, stays, takes, frees, common-taken, common-freed, moves}
use Rattle.rules.proofs.RecordsLaws.{same_then, same-itself, lookup-records}
use Rattle.rules.proofs.TwoTablesLaws.{same-finds, same_count, same-reply, same_step}

-- what the rules of room count is what E2 counts
taken-beyond : (n : ℕ) (t : Places) → taken n t ≡ beyond n (holds_in t)
unfolding beyond
taken-beyond n t = refl

-- One table: x and then y, or y and then x

module _ (n : ℕ) (t : Places) (f : FitPlaces n t) (p : ℕ) (x : Heard) (q : ℕ) (y : Heard) (d : p ≢ q) where
  abbrev behind : Places
  behind = after_frame n q y t

  same-port : SamePort p t behind
  same-port = other-port-same n t f p q d y

  behind-reply : AsksCommon n t p x → reply n p x behind ≡ pick (is_none_left n behind) (Err CommonTaken) (Ok Recorded)
  behind-reply c = common-reply n behind (frame-fit n t f q y) p x (asks-too n p t behind same-port x c)

  -- the answer to x is the same before y and behind it, or the order matters
  answer-or : (reply n p x t ≡ reply n p x behind) ⊎ OrderMatters n t p x q y
  answer-or = go (decided n t f p x)
    where
      still : AsksCommon n t p x → is_none_left n t ≡ is_none_left n behind → reply n p x t ≡ reply n p x behind
      still c e = common-reply n t f p x c ∙ ap (λ (b : Bool). pick b (Err CommonTaken) (Ok Recorded)) e ∙ sym (behind-reply c)

      left_both : beyond n (holds_in t) ≢ common_for n → beyond n (holds_in behind) ≢ common_for n → is_none_left n t ≡ is_none_left n behind
      left_both e e' = ne_eqb (beyond n (holds_in t)) (common_for n) e ∙ sym (ne_eqb (beyond n (holds_in behind)) (common_for n) e')

      by : AsksCommon n t p x → Moves n t q y → (reply n p x t ≡ reply n p x behind) ⊎ OrderMatters n t p x q y
      by c (stays e) = inl (still c (ap (λ (m : ℕ). eqb m (common_for n)) (sym e)))
      by c (takes k m e) = at (eqb (beyond n (holds_in t) + 1) (common_for n)) refl
        where
          at : (b : Bool) → eqb (beyond n (holds_in t) + 1) (common_for n) ≡ b → (reply n p x t ≡ reply n p x behind) ⊎ OrderMatters n t p x q y
          at true z = inr (asked_twice (record { one_left = omega (arith, taken-beyond n t, eqb-true (beyond n (holds_in t) + 1) (common_for n) z); x_asks = c; y_asks = k }))
          at false z = inl (still c (left_both m (let h = eqb-false (beyond n (holds_in t) + 1) (common_for n) z in omega (arith, h, e))))
      by c (frees k e) = at (is_none_left n t) refl
        where
          at : (b : Bool) → is_none_left n t ≡ b → (reply n p x t ≡ reply n p x behind) ⊎ OrderMatters n t p x q y
          at true z = inr (freed_by_y (record { none_left = omega (arith, taken-beyond n t, eqb-true (beyond n (holds_in t)) (common_for n) z); frees = k; asks = c }))
          at false z = inl (still c (left_both (eqb-false (beyond n (holds_in t)) (common_for n) z) (omega (arith, e, f.common))))

      go : AsksCommon n t p x ⊎ Decided n t f p x → (reply n p x t ≡ reply n p x behind) ⊎ OrderMatters n t p x q y
      go (inr e) = inl (e behind same-port)
      go (inl c) = by c (moves n t f q y)

-- What a frame leaves of who is heard, and of others

module _ (n : ℕ) (t : Places) (f : FitPlaces n t) (p : ℕ) where
  own-then : (a : Announcement) (r : Answered) → reply n p (says a) t ≡ r
      → has p (says a) (after_frame n p (says a) t) ≡ is_some (after r (recorded p a) (lookup (whose p a) t))
  own-then a r e = ap is_some here
    where
      here : lookup (whose p a) (after_frame n p (says a) t) ≡ after r (recorded p a) (lookup (whose p a) t)
      here = rw (← e) (frame-lookup n t f p a (whose p a) ∙ rw (same_self (whose p a)) refl)

  has-recorded : (x : Heard) → AsksCommon n t p x → reply n p x t ≡ Ok Recorded → has p x (after_frame n p x t) ≡ true
  has-recorded (unread k) c e = absurd c.asks
  has-recorded (says a) c e = own-then a (Ok Recorded) e

  has-refused : (x : Heard) → AsksCommon n t p x → reply n p x t ≡ Err CommonTaken → has p x (after_frame n p x t) ≡ false
  has-refused (unread k) c e = absurd c.asks
  has-refused (says a) c e = own-then a (Err CommonTaken) e ∙ ap is_some c.asks.unknown

  others-stay : (x : Heard) (w : Ident) → Other w p x → lookup w (after_frame n p x t) ≡ lookup w t
  others-stay (unread k) w o = ap (lookup w) (unread-frame n t p k)
  others-stay (says a) w o = frame-lookup n t f p a w ∙ rw o refl

  has-gone : (x : Heard) → Says (Leaving n t p) x → reply n p x t ≡ Ok Gone → has p x (after_frame n p x t) ≡ false
  has-gone (unread k) c e = absurd c
  has-gone (says a) c e = own-then a (Ok Gone) e

  -- one on another port among them
  has-stays : (x : Heard) (q : ℕ) (y : Heard) → p ≢ q → has p x (after_frame n q y t) ≡ has p x t
  has-stays (unread k) q y d = refl
  has-stays (says a) q y d = ap is_some (sym ((other-port-same n t f p q d y).found a))

goodbye-reply : (n : ℕ) (t : Places) (p : ℕ) (x : Heard) → Says (Leaving n t p) x → reply n p x t ≡ Ok Gone
goodbye-reply n t p (unread k) h = absurd h
goodbye-reply n t p (says a) h = by-room n t p a h.port true true (there n t p a) (eq-eqb a.seconds 0 h.goodbye) h.known refl

-- What each order answers where it matters, and who is known then

module _ (n : ℕ) (t : Places) (f : FitPlaces n t) (p : ℕ) (x : Heard) (q : ℕ) (y : Heard) (d : p ≢ q) where
  abbrev d' : q ≢ p
  d' = λ e. d (sym e)

  abbrev then-x : Places
  then-x = after_frame n p x t

  abbrev then-y : Places
  then-y = after_frame n q y t

  abbrev fit-x : FitPlaces n then-x
  fit-x = frame-fit n t f p x

  abbrev fit-y : FitPlaces n then-y
  fit-y = frame-fit n t f q y

  pub first-recorded : LastPlace n t p x q y → FirstRecorded n t p x q y
  first-recorded h =
      let m : beyond n (holds_in t) ≢ common_for n = omega (arith, taken-beyond n t, h.one_left) in
      let e : beyond n (holds_in then-x) ≡ common_for n = omega (arith, taken-beyond n t, h.one_left, common-taken n t f p x h.x_asks m) in
      let one : reply n p x t ≡ Ok Recorded = common-reply n t f p x h.x_asks ∙ rw (ne_eqb (beyond n (holds_in t)) (common_for n) m) refl in
      let two : reply n q y then-x ≡ Err CommonTaken = behind-reply n t f q y p x d' h.y_asks ∙ rw (eq-eqb (beyond n (holds_in then-x)) (common_for n) e) refl in
      record {
        first = one;
        second = two;
        first_known = has-stays n then-x fit-x p x q y d ∙ has-recorded n t f p x h.x_asks one;
        second_unknown = has-refused n then-x fit-x q y (asks-too n q t then-x (other-port-same n t f q p d' x) y h.y_asks) two;
      }

  pub recorded-behind : FreedPlace n t p x q y → RecordedBehind n t p x q y
  recorded-behind h =
      let e : beyond n (holds_in t) ≡ common_for n = omega (arith, taken-beyond n t, h.none_left) in
      let m : beyond n (holds_in then-x) ≢ common_for n = let z = common-freed n t f p x h.frees in omega (arith, z, e) in
      let late : reply n q y then-x ≡ Ok Recorded = behind-reply n t f q y p x d' h.asks ∙ rw (ne_eqb (beyond n (holds_in then-x)) (common_for n) m) refl in
      let early : reply n q y t ≡ Err CommonTaken = common-reply n t f q y h.asks ∙ rw (eq-eqb (beyond n (holds_in t)) (common_for n) e) refl in
      let go = goodbye-reply n t p x h.frees.leaves in
      let still = leaves-too n p t then-y (other-port-same n t f p q d y) x h.frees.leaves in
      let go-too = goodbye-reply n then-y p x still in
      record {
        gone = go;
        gone_unknown = has-stays n then-x fit-x p x q y d ∙ has-gone n t f p x h.frees.leaves go;
        behind = late;
        behind_known = has-recorded n then-x fit-x q y (asks-too n q t then-x (other-port-same n t f q p d' x) y h.asks) late;
        before = early;
        before_unknown = has-stays n then-y fit-y q y p x d' ∙ has-refused n t f q y h.asks early;
        gone_too = go-too;
        gone_too_unknown = has-gone n then-y fit-y p x still go-too;
      }

last-sym : (n : ℕ) (t : Places) (p : ℕ) (x : Heard) (q : ℕ) (y : Heard) → LastPlace n t p x q y → LastPlace n t q y p x
last-sym n t p x q y h = record { one_left = h.one_left; x_asks = h.y_asks; y_asks = h.x_asks }

-- Who is found in the end, where the second frame is answered as if it came first

found-two : (n : ℕ) (t : Places) (f : FitPlaces n t) (p : ℕ) (a : Announcement) (q : ℕ) (b : Announcement) → q ≢ p
    → reply n q (says b) (after_frame n p (says a) t) ≡ reply n q (says b) t → (w : Ident)
    → lookup w (after_frame n q (says b) (after_frame n p (says a) t))
    ≡ pick (same w (whose q b)) (after (reply n q (says b) t) (recorded q b) (lookup (whose q b) t))
    (pick (same w (whose p a)) (after (reply n p (says a) t) (recorded p a) (lookup (whose p a) t)) (lookup w t))
found-two n t f p a q b d e w =
    frame-lookup n (after_frame n p (says a) t) (frame-fit n t f p (says a)) q b w
    ∙ ap₂ (λ (x y : Option Rec). pick (same w (whose q b)) x y)
    (ap₂ (λ (x : Answered) (y : Option Rec). after x (recorded q b) y) e (sym ((other-port-same n t f q p d (says a)).found b)))
    (frame-lookup n t f p a w)

module _ (n : ℕ) (t : Places) (f : FitPlaces n t) (p q : ℕ) (d : p ≢ q) where
  found_alike : (x y : Heard) → reply n p x t ≡ reply n p x (after_frame n q y t) → reply n q y (after_frame n p x t) ≡ reply n q y t → (w : Ident)
      → lookup w (after_frame n q y (after_frame n p x t)) ≡ lookup w (after_frame n p x (after_frame n q y t))
  found_alike (unread k) y e e' w = rw (unread-frame n t p k, unread-frame n (after_frame n q y t) p k) refl
  found_alike (says a) (unread k) e e' w = rw (unread-frame n t q k, unread-frame n (after_frame n p (says a) t) q k) refl
  found_alike (says a) (says b) e e' w =
      found-two n t f p a q b (λ z. d (sym z)) e' w
      ∙ go _ _ _ (same w (whose p a)) refl (same w (whose q b)) refl
      ∙ sym (found-two n t f q b p a d (sym e) w)
    where
      go : (x y z : Option Rec) (i : Bool) → same w (whose p a) ≡ i → (j : Bool) → same w (whose q b) ≡ j → pick j y (pick i x z) ≡ pick i x (pick j y z)
      go x y z true i true j = absurd (d (ap (λ (v : Ident). v.port) (sym (same_true w (whose p a) i) ∙ same_true w (whose q b) j)))
      go x y z true i false j = refl
      go x y z false i true j = refl
      go x y z false i false j = refl

-- A port that there is not (E4): of any table

pub as-if-alone : (n : ℕ) (t : Places) (p : ℕ) (x : Heard) (q : ℕ) (y : Heard) → n ≤ p → AsIfAlone n t p x q y
as-if-alone n t p x q y l =
    record {
      answer_x = no-reply n t p x l;
      answer_x_too = no-reply n (after_frame n q y t) p x l;
      answer_y = ap (reply n q y) (no-frame n t p x l);
      left = ap (after_frame n q y) (no-frame n t p x l);
      left_too = no-frame n (after_frame n q y t) p x l;
    }

-- Two fit tables with the same records (E5), of which t takes x and then y, and u takes y and then x

module _ (n : ℕ) (t u : Places) (f : FitPlaces n t) (g : FitPlaces n u) (s : SameRecords (records_in t) (records_in u))
    (p : ℕ) (x : Heard) (q : ℕ) (y : Heard) (d : p ≢ q) where
  abbrev apart : q ≢ p
  apart = λ e. d (sym e)

  -- (a) and (b) are of both tables
  on-port : (r : ℕ) → SamePort r t u
  on-port r =
      record {
        found = λ a. same-finds n t u f g s (whose r a);
        held = same_count n t u f g s (port_is r);
        of-chassis = λ c. same_count n t u f g s (chassis_is r c);
      }

  as-many-taken : taken n u ≡ taken n t
  as-many-taken = sum_same (λ r. holds_in u r - 2) (λ r. holds_in t r - 2) n (λ r l. omega (arith, (on-port r).held))

  frees-too : (r : ℕ) (z : Heard) → FreesCommon n t r z → FreesCommon n u r z
  frees-too r z h = record { leaves = leaves-too n r t u (on-port r) z h.leaves; three = omega (arith, h.three, (on-port r).held) }

  pub same-matters : OrderMatters n t p x q y → OrderMatters n u p x q y
  same-matters (asked_twice h) =
      asked_twice (record { one_left = omega (arith, as-many-taken, h.one_left); x_asks = asks-too n p t u (on-port p) x h.x_asks; y_asks = asks-too n q t u (on-port q) y h.y_asks })
  same-matters (freed_by_x h) =
      freed_by_x (record { none_left = omega (arith, as-many-taken, h.none_left); frees = frees-too p x h.frees; asks = asks-too n q t u (on-port q) y h.asks })
  same-matters (freed_by_y h) =
      freed_by_y (record { none_left = omega (arith, as-many-taken, h.none_left); frees = frees-too q y h.frees; asks = asks-too n p t u (on-port p) x h.asks })

  -- nobody else has another record in the one order than in the other, whether it matters or not
  pub nobody-else : (w : Ident) → Other w p x → Other w q y
      → lookup w (after_frame n q y (after_frame n p x t)) ≡ lookup w (after_frame n p x (after_frame n q y u))
  nobody-else w o o' =
      others-stay n (after_frame n p x t) (frame-fit n t f p x) q y w o'
      ∙ others-stay n t f p x w o
      ∙ same-finds n t u f g s w
      ∙ sym (others-stay n (after_frame n q y u) (frame-fit n u g q y) p x w o ∙ others-stay n u g q y w o')

  -- both answers the same on t alone
  alike : reply n p x t ≡ reply n p x (after_frame n q y t) → reply n q y t ≡ reply n q y (after_frame n p x t) → Alike n t u p x q y
  alike e e' =
      let h = same_step n t u f g s (frame q y) in
      let tq = frame-fit n t f q y in
      let uq = frame-fit n u g q y in
      let one = lookup-records (after_frame n q y (after_frame n p x t)) (after_frame n p x (after_frame n q y t))
      (frame-fit n (after_frame n p x t) (frame-fit n t f p x) q y).once (frame-fit n (after_frame n q y t) tq p x).once
      (found_alike n t f p q d x y e (sym e')) in
      record {
        answer_x = e ∙ same-reply n (after_frame n q y t) (after_frame n q y u) tq uq h p x;
        answer_y = sym e' ∙ same-reply n t u f g s q y;
        records = same_then _ _ _ one (same_step n (after_frame n q y t) (after_frame n q y u) tq uq h (frame p x));
      }

  alike-or : Alike n t u p x q y ⊎ OrderMatters n t p x q y
  alike-or = go (answer-or n t f p x q y d) (answer-or n t f q y p x apart)
    where
      go : (reply n p x t ≡ reply n p x (after_frame n q y t)) ⊎ OrderMatters n t p x q y
          → (reply n q y t ≡ reply n q y (after_frame n p x t)) ⊎ OrderMatters n t q y p x → Alike n t u p x q y ⊎ OrderMatters n t p x q y
      go (inr m) b = inr m
      go (inl e) (inl e') = inl (alike e e')
      go (inl e) (inr (asked_twice h)) = inr (asked_twice (last-sym n t q y p x h))
      go (inl e) (inr (freed_by_x h)) = inr (freed_by_y h)
      go (inl e) (inr (freed_by_y h)) = inr (freed_by_x h)

  recorded-not-taken : (r r' : Answered) → r ≡ Ok Recorded → r' ≡ Err CommonTaken → r ≢ r'
  recorded-not-taken r r' e e' z = cc

  differs : OrderMatters n t p x q y → ¬ Alike n t u p x q y
  differs (asked_twice h) a =
      recorded-not-taken (reply n q y t) (reply n q y (after_frame n p x t)) (first-recorded n t f q y p x apart (last-sym n t p x q y h)).first
      (first-recorded n t f p x q y d h).second (same-reply n t u f g s q y ∙ sym a.answer_y)
  differs (freed_by_x h) a =
      let k = recorded-behind n t f p x q y d h in
      recorded-not-taken (reply n q y (after_frame n p x t)) (reply n q y t) k.behind k.before (a.answer_y ∙ sym (same-reply n t u f g s q y))
  differs (freed_by_y h) a =
      let k = recorded-behind n t f q y p x apart h in
      let b = same-reply n (after_frame n q y t) (after_frame n q y u) (frame-fit n t f q y) (frame-fit n u g q y) (same_step n t u f g s (frame q y)) p x in
      recorded-not-taken (reply n p x (after_frame n q y t)) (reply n p x t) k.behind k.before (b ∙ sym a.answer_x)

  -- E2, both ways: the order matters exactly then, and else both orders come to the same
  pub exactly : (¬ Alike n t u p x q y) ↔ OrderMatters n t p x q y
  exactly = (λ h. ⊎_elim (λ a. absurd (h a)) (λ m. m) alike-or, differs)

  pub exactly-alike : Alike n t u p x q y ↔ (¬ OrderMatters n t p x q y)
  exactly-alike = (λ a m. differs m a, λ h. ⊎_elim (λ a. a) (λ m. absurd (h m)) alike-or)

  -- E3
  pub one_at_most : OneAtMost t p q → Alike n t u p x q y
  one_at_most h = exactly-alike.1 (few h)
    where
      few : OneAtMost t p q → OrderMatters n t p x q y → ⊥
      few (inl z) (asked_twice m) = omega (arith, z, m.x_asks.two)
      few (inl z) (freed_by_x m) = omega (arith, z, m.frees.three)
      few (inl z) (freed_by_y m) = omega (arith, z, m.asks.two)
      few (inr z) (asked_twice m) = omega (arith, z, m.y_asks.two)
      few (inr z) (freed_by_x m) = omega (arith, z, m.asks.two)
      few (inr z) (freed_by_y m) = omega (arith, z, m.frees.three)

  -- as it was asked for: "if each of the two ports holds at most one record before"
  pub each-at-most-one : holds_in t p ≤ 1 → holds_in t q ≤ 1 → Alike n t u p x q y
  each-at-most-one k k' = one_at_most (inl k)

-- Histories of which the one becomes the other where such pairs change places lead to the same records (E5)

pub same-order : (n : ℕ) (h : History) → OtherOrder n h h
same-order n [] = begun
same-order n (e ∷ h) = also e (same-order n h)

pub other-order : (n : ℕ) {h h' : History} → OtherOrder n h h' → SameRecords (records_in (run n h)) (records_in (run n h'))
other-order n begun = same-itself (run n []) (run-fit n []).once
other-order n (also e {h} {h'} o) = same_step n (run n h) (run n h') (run-fit n h) (run-fit n h') (other-order n o) e
other-order n (swapped p x q y {h} {h'} d m o) =
    ((exactly-alike n (run n h) (run n h') (run-fit n h) (run-fit n h') (other-order n o) p x q y d).1 m).records
other-order n (further {h} {h'} {h''} o o') = same_then (records_in (run n h)) (records_in (run n h')) (records_in (run n h'')) (other-order n o) (other-order n o')

-- and every further frame gets the same answer
pub other-order-answers : (n : ℕ) {h h' : History} → OtherOrder n h h' → (p : ℕ) (x : Heard) → reply n p x (run n h) ≡ reply n p x (run n h')
other-order-answers n {h} {h'} o p x = same-reply n (run n h) (run n h') (run-fit n h) (run-fit n h') (other-order n o) p x
