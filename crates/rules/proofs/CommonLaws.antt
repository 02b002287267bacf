-- What the answers on one port have from the others: the common places that are taken, and nothing else.
-- A frame on another port moves these by one or not at all: it takes one, or frees one, or leaves them.
use Prim.Native.Nat.{ℕ, ◌+◌, ◌-◌, ◌<◌}
use mathlib.Core.Path.{◌≡◌, refl, sym, ap, ◌∙◌}
use mathlib.Core.Logic.{◌≢◌, ◌⊎◌, inl, inr}
use mathlib.Core.Bool.{Bool, true, false}
use mathlib.Core.Option.{Option, none, some}
use native.Mathlib.Omega.{arith}
use borrow.Author.Tests.{eqb-true, eqb-false, eq-eqb, ne_eqb, ltb-true, ltb-false}
use lib.Dec.{ltb, eqb}
use Rattle.std.specs.Prelude.{Ok, Err}
use Rattle.tally.specs.Tests.{pick}
use Rattle.refusal.specs.declared.Refusal.TheVariants.{PortFull, CommonTaken, ChassisLoud}
use Rattle.ids.specs.Id.{Id}
use Rattle.rules.specs.Identity.{Ident}
use Rattle.rules.specs.Events.{Announcement, Heard, unread, says, whose}
use Rattle.rules.specs.Shares.{sure, most, per_chassis, common_for, beyond, share, port_is, chassis_is, room}
use Rattle.rules.specs.declared.Room.{Room}
use Rattle.rules.specs.declared.Room.TheVariants.{Enough, Loud, Full, Taken}
use Rattle.rules.specs.Answers.{Answered, answer_to}
use Rattle.rules.specs.declared.Reply.TheVariants.{Recorded, Refreshed, Gone, UnknownGoodbye}
use Rattle.rules.specs.Model.{Rec, Places, is_some, lookup, hits, tally, holds_in, holds_of, recorded, reply, after_frame}
use Rattle.rules.specs.Fit.{InPlace, FitPlaces}
use Rattle.rules.specs.EitherOrder.{Asking, Leaving, Says, AsksCommon, FreesCommon}
use Rattle.rules.proofs.IdentityLaws.{other-port}
use Rattle.rules.proofs.EachLaws.{lookup-of}
use Rattle.rules.proofs.SharesLaws.{beyond-but, share-loud, share-sure, share-full, share-taken, share-left, room_fits}
use Rattle.rules.proofs.FrameLaws.{is_none, after, frame-lookup, frame-count, frame-tally, no-reply, no-frame, unread-frame, reply-is}

-- What the answers on port p ask of, but for the common places that are taken

pub record SamePort (p : ℕ) (t u : Places) : Type 0 where
  pub found : (a : Announcement) → lookup (whose p a) t ≡ lookup (whose p a) u
  pub held : holds_in t p ≡ holds_in u p
  pub of-chassis : (c : Id) → holds_of t p c ≡ holds_of u p c

-- the answer by what is asked: a goodbye or not, known or not, and the room
module _ (n : ℕ) (t : Places) (p : ℕ) (a : Announcement) where
  abbrev pub there : Room
  there = room n (λ g. tally g t) (whose p a)

  abbrev own : ℕ
  own = holds_of t p a.chassis

  by-share : there ≡ share n (holds_in t) own p
  unfolding room
  by-share = refl

  pub by-room : p < n → (z k : Bool) (rm : Room) → eqb a.seconds 0 ≡ z → is_some (lookup (whose p a) t) ≡ k → there ≡ rm
      → reply n p (says a) t ≡ answer_to z k rm
  by-room l z k rm e i r = reply-is n t p a l k rm i r ∙ ap (λ (y : Bool). answer_to y k rm) e

-- what a frame on port p is to the one, it is to the other
module _ (n p : ℕ) (t u : Places) (s : SamePort p t u) where
  pub asks-too : (x : Heard) → AsksCommon n t p x → AsksCommon n u p x
  asks-too x c = record { asks = go x c.asks; two = omega (arith, c.two, s.held); five = omega (arith, c.five, s.held) }
    where
      go : (z : Heard) → Says (Asking n t p) z → Says (Asking n u p) z
      go (unread k) h = h
      go (says a) h =
          record {
            port = h.port;
            unknown = sym (s.found a) ∙ h.unknown;
            lives = h.lives;
            quiet = omega (arith, h.quiet, s.of-chassis a.chassis);
          }

  pub leaves-too : (x : Heard) → Says (Leaving n t p) x → Says (Leaving n u p) x
  leaves-too (unread k) h = h
  leaves-too (says a) h = record { port = h.port; known = ap is_some (sym (s.found a)) ∙ h.known; goodbye = h.goodbye }

-- A frame on port q, seen from port p

module _ (n : ℕ) (t : Places) (f : FitPlaces n t) (p q : ℕ) (d : p ≢ q) where
  pub other-port-same : (y : Heard) → SamePort p t (after_frame n q y t)
  other-port-same (unread k) = rw (unread-frame n t q k) (record { found = λ a. refl; held = refl; of-chassis = λ c. refl })
  other-port-same (says b) =
      let far : eqb q p ≡ false = ne_eqb q p (λ e. d (sym e)) in
      record {
        found = λ a. sym (frame-lookup n t f q b (whose p a) ∙ rw (other-port (whose p a) (whose q b) d) refl);
        held = sym (frame-tally n t f q b (port_is p) far);
        of-chassis = λ c. sym (frame-tally n t f q b (chassis_is p c) (rw far refl));
      }

-- The answer on port p: either the common places decide, or they play no part

abbrev pub is_none_left : ℕ → Places → Bool
is_none_left n t = eqb (beyond n (holds_in t)) (common_for n)

module _ (n : ℕ) (t : Places) (f : FitPlaces n t) (p : ℕ) where
  -- where they decide
  pub common-reply : (x : Heard) → AsksCommon n t p x → reply n p x t ≡ pick (is_none_left n t) (Err CommonTaken) (Ok Recorded)
  common-reply (unread k) c = absurd c.asks
  common-reply (says a) c = go (is_none_left n t) refl
    where
      at : (rm : Room) → share n (holds_in t) (own n t p a) p ≡ rm → reply n p (says a) t ≡ answer_to false false rm
      at rm e =
          by-room n t p a c.asks.port false false rm (ne_eqb a.seconds 0 c.asks.lives) (ap is_some c.asks.unknown) (by-share n t p a ∙ e)

      go : (b : Bool) → is_none_left n t ≡ b → reply n p (says a) t ≡ pick b (Err CommonTaken) (Ok Recorded)
      go true e =
          at Taken
          (share-taken n (holds_in t) (own n t p a) p (omega (arith, c.asks.quiet)) (omega (arith, c.two)) (omega (arith, c.five)) (eqb-true (beyond n (holds_in t)) (common_for n) e))
      go false e =
          at Enough
          (share-left n (holds_in t) (own n t p a) p (omega (arith, c.asks.quiet)) (omega (arith, c.two)) (omega (arith, c.five)) (eqb-false (beyond n (holds_in t)) (common_for n) e))

  abbrev pub Decided : Heard → Type 0
  Decided x = (u : Places) → SamePort p t u → reply n p x t ≡ reply n p x u

  -- and where they do not
  module _ (a : Announcement) (l : p < n) where
    -- no room is asked for
    unasked : (z k : Bool) → eqb a.seconds 0 ≡ z → is_some (lookup (whose p a) t) ≡ k → ((r r' : Room) → answer_to z k r ≡ answer_to z k r') → Decided (says a)
    unasked z k e i same_answer u s =
        by-room n t p a l z k (there n t p a) e i refl
        ∙ same_answer (there n t p a) (there n u p a)
        ∙ sym (by-room n u p a l z k (there n u p a) e (sym (ap is_some (s.found a)) ∙ i) refl)

    -- the room is the same without the common places
    roomed : eqb a.seconds 0 ≡ false → is_some (lookup (whose p a) t) ≡ false → (rm : Room) → ((u : Places) → SamePort p t u → there n u p a ≡ rm) → Decided (says a)
    roomed e i rm r u s =
        by-room n t p a l false false rm e i (r t (record { found = λ b. refl; held = refl; of-chassis = λ c. refl }))
        ∙ sym (by-room n u p a l false false rm e (sym (ap is_some (s.found a)) ∙ i) (r u s))

    new : eqb a.seconds 0 ≡ false → is_some (lookup (whose p a) t) ≡ false → AsksCommon n t p (says a) ⊎ Decided (says a)
    new e i = go (eqb (own n t p a) per_chassis) refl (ltb (holds_in t p) sure) refl (eqb (holds_in t p) most) refl
      where
        go : (b : Bool) → eqb (own n t p a) per_chassis ≡ b → (c : Bool) → ltb (holds_in t p) sure ≡ c → (d : Bool) → eqb (holds_in t p) most ≡ d
            → AsksCommon n t p (says a) ⊎ Decided (says a)
        go true x c y d z =
            inr (roomed e i Loud (λ u s. by-share n u p a ∙ share-loud n (holds_in u) (own n u p a) p (sym (s.of-chassis a.chassis) ∙ eqb-true (own n t p a) per_chassis x)))
        go false x true y d z =
            let three = eqb-false (own n t p a) per_chassis x in
            inr (roomed e i Enough (λ u s. by-share n u p a ∙ share-sure n (holds_in u) (own n u p a) p (omega (arith, three, s.of-chassis a.chassis)) (omega (arith, ltb-true (holds_in t p) sure y, s.held))))
        go false x false y true z =
            let three = eqb-false (own n t p a) per_chassis x in
            inr (roomed e i Full (λ u s. by-share n u p a ∙ share-full n (holds_in u) (own n u p a) p (omega (arith, three, s.of-chassis a.chassis)) (sym s.held ∙ eqb-true (holds_in t p) most z)))
        go false x false y false z =
            inl (record {
              asks = record { port = l; unknown = is_none (lookup (whose p a) t) i; lives = eqb-false a.seconds 0 e; quiet = eqb-false (own n t p a) per_chassis x };
              two = omega (arith, ltb-false (holds_in t p) sure y);
              five = omega (arith, f.six p, eqb-false (holds_in t p) most z);
            })

  pub decided : (x : Heard) → AsksCommon n t p x ⊎ Decided x
  unfolding reply
  decided (unread k) = inr (λ u s. refl)
  decided (says a) = go (ltb p n) refl (eqb a.seconds 0) refl (is_some (lookup (whose p a) t)) refl
    where
      go : (l : Bool) → ltb p n ≡ l → (z : Bool) → eqb a.seconds 0 ≡ z → (k : Bool) → is_some (lookup (whose p a) t) ≡ k → AsksCommon n t p (says a) ⊎ Decided (says a)
      go false l z e k i = inr (λ u s. no-reply n t p (says a) (ltb-false p n l) ∙ sym (no-reply n u p (says a) (ltb-false p n l)))
      go true l true e true i = inr (unasked a (ltb-true p n l) true true e i (λ r r'. refl))
      go true l true e false i = inr (unasked a (ltb-true p n l) true false e i (λ r r'. refl))
      go true l false e true i = inr (unasked a (ltb-true p n l) false true e i (λ r r'. refl))
      go true l false e false i = new a (ltb-true p n l) e i

-- What a frame on port q does to the common places that are taken: nothing, or it takes one, or it frees one

pub data Moves (n : ℕ) (t : Places) (q : ℕ) (y : Heard) : Type 0 where
  stays : beyond n (holds_in (after_frame n q y t)) ≡ beyond n (holds_in t) → Moves n t q y
  takes : AsksCommon n t q y → beyond n (holds_in t) ≢ common_for n → beyond n (holds_in (after_frame n q y t)) ≡ beyond n (holds_in t) + 1 → Moves n t q y
  frees : FreesCommon n t q y → beyond n (holds_in (after_frame n q y t)) + 1 ≡ beyond n (holds_in t) → Moves n t q y

module _ (n : ℕ) (t : Places) (f : FitPlaces n t) (q : ℕ) (b : Announcement) (l : q < n) where
  abbrev w : Ident
  w = whose q b

  abbrev t' : Places
  t' = after_frame n q (says b) t

  -- they move with what port q holds beyond two
  beside : beyond n (holds_in t') + (holds_in t q - sure) ≡ beyond n (holds_in t) + (holds_in t' q - sure)
  beside = beyond-but n q (holds_in t') (holds_in t) l (λ k d. frame-tally n t f q b (port_is k) (ne_eqb q k (λ e. d (sym e))))

  -- and that moves with what w has
  held_then : (r : Answered) → reply n q (says b) t ≡ r
      → holds_in t' q + hits (port_is q) (lookup w t) ≡ holds_in t q + hits (port_is q) (after r (recorded q b) (lookup w t))
  held_then r e = rw e at (frame-count n t f q b (port_is q))

  one-here : (x : Option Rec) → is_some x ≡ true → InPlace (λ v. v ≡ w) x → hits (port_is q) x ≡ 1
  one-here none k o = cc
  one-here (some r) k o = rw (o, eq-eqb q q refl) refl

  as_many : holds_in t' q ≡ holds_in t q → Moves n t q (says b)
  as_many e = stays (omega (arith, beside, e))

  -- the answer keeps what w has
  kept : (r : Answered) → reply n q (says b) t ≡ r → after r (recorded q b) (lookup w t) ≡ lookup w t → Moves n t q (says b)
  kept r e d = as_many (let h = held_then r e in omega (arith, rw d at h))

  -- a goodbye
  one_less : Leaving n t q b → holds_in t' q + 1 ≡ holds_in t q
  one_less h =
      omega (
        arith,
        held_then (Ok Gone) (by-room n t q b l true true (there n t q b) (eq-eqb b.seconds 0 h.goodbye) h.known refl),
        one-here (lookup w t) h.known (lookup-of w t),
      )

  frees-one : FreesCommon n t q (says b) → beyond n (holds_in t') + 1 ≡ beyond n (holds_in t)
  frees-one h = omega (arith, beside, one_less h.leaves, h.three)

  goodbye : Leaving n t q b → Moves n t q (says b)
  goodbye h = go (ltb 2 (holds_in t q)) refl
    where
      go : (c : Bool) → ltb 2 (holds_in t q) ≡ c → Moves n t q (says b)
      go true x =
          let k : FreesCommon n t q (says b) = record { leaves = h; three = ltb-true 2 (holds_in t q) x } in
          frees k (frees-one k)
      go false x = stays (omega (arith, beside, one_less h, ltb-false 2 (holds_in t q) x))

  refresh : eqb b.seconds 0 ≡ false → is_some (lookup w t) ≡ true → Moves n t q (says b)
  refresh e i =
      as_many
      (omega (
        arith,
        held_then (Ok Refreshed) (by-room n t q b l false true (there n t q b) e i refl),
        one-here (lookup w t) i (lookup-of w t),
        one-here (some (recorded q b)) refl refl,
      ))

  -- a new one
  one_more : lookup w t ≡ none → reply n q (says b) t ≡ Ok Recorded → holds_in t' q ≡ holds_in t q + 1
  one_more e r =
      let h = held_then (Ok Recorded) r in
      omega (arith, rw e at h, one-here (some (recorded q b)) refl refl)

  takes_one : AsksCommon n t q (says b) → beyond n (holds_in t) ≢ common_for n → beyond n (holds_in t') ≡ beyond n (holds_in t) + 1
  takes_one c m =
      let r : reply n q (says b) t ≡ Ok Recorded = common-reply n t f q (says b) c ∙ rw (ne_eqb (beyond n (holds_in t)) (common_for n) m) refl in
      omega (arith, beside, one_more c.asks.unknown r, c.two)

  enters : eqb b.seconds 0 ≡ false → is_some (lookup w t) ≡ false → there n t q b ≡ Enough → Moves n t q (says b)
  enters e i r = go (ltb (holds_in t q) 2) refl
    where
      unknown : lookup w t ≡ none
      unknown = is_none (lookup w t) i

      go : (c : Bool) → ltb (holds_in t q) 2 ≡ c → Moves n t q (says b)
      go true x = stays (omega (arith, beside, one_more unknown (by-room n t q b l false false Enough e i r), ltb-true (holds_in t q) 2 x))
      go false x =
          let two = ltb-false (holds_in t q) 2 x in
          let k = room_fits n (λ g. tally g t) w r in
          let c : AsksCommon n t q (says b) =
          record {
            asks = record { port = l; unknown = unknown; lives = eqb-false b.seconds 0 e; quiet = k.three };
            two = two;
            five = omega (arith, f.six q, k.six);
          } in
          let m = k.common (omega (arith, two)) in
          takes c m (takes_one c m)

  new-one : eqb b.seconds 0 ≡ false → is_some (lookup w t) ≡ false → (rm : Room) → there n t q b ≡ rm → Moves n t q (says b)
  new-one e i Enough r = enters e i r
  new-one e i Loud r = kept (Err ChassisLoud) (by-room n t q b l false false Loud e i r) refl
  new-one e i Full r = kept (Err PortFull) (by-room n t q b l false false Full e i r) refl
  new-one e i Taken r = kept (Err CommonTaken) (by-room n t q b l false false Taken e i r) refl

pub moves : (n : ℕ) (t : Places) → FitPlaces n t → (q : ℕ) (y : Heard) → Moves n t q y
moves n t f q (unread k) = stays (ap (λ (u : Places). beyond n (holds_in u)) (unread-frame n t q k))
moves n t f q (says b) = go (ltb q n) refl (eqb b.seconds 0) refl (is_some (lookup (whose q b) t)) refl
  where
    go : (l : Bool) → ltb q n ≡ l → (z : Bool) → eqb b.seconds 0 ≡ z → (k : Bool) → is_some (lookup (whose q b) t) ≡ k → Moves n t q (says b)
    go false l z e k i = stays (ap (λ (u : Places). beyond n (holds_in u)) (no-frame n t q (says b) (ltb-false q n l)))
    go true l true e true i =
        let h = ltb-true q n l in
        goodbye n t f q b h (record { port = h; known = i; goodbye = eqb-true b.seconds 0 e })
    go true l true e false i =
        let h = ltb-true q n l in
        kept n t f q b h (Ok UnknownGoodbye) (by-room n t q b h true false (there n t q b) e i refl) refl
    go true l false e true i = refresh n t f q b (ltb-true q n l) e i
    go true l false e false i = new-one n t f q b (ltb-true q n l) e i (there n t q b) refl

-- where it asks for a common place and one is left, it takes one; where it frees one, it does
module _ (n : ℕ) (t : Places) (f : FitPlaces n t) (q : ℕ) where
  pub common-taken : (y : Heard) → AsksCommon n t q y → beyond n (holds_in t) ≢ common_for n → beyond n (holds_in (after_frame n q y t)) ≡ beyond n (holds_in t) + 1
  common-taken (unread k) c m = absurd c.asks
  common-taken (says b) c m = takes_one n t f q b c.asks.port c m

  pub common-freed : (y : Heard) → FreesCommon n t q y → beyond n (holds_in (after_frame n q y t)) + 1 ≡ beyond n (holds_in t)
  common-freed (unread k) c = absurd c.leaves
  common-freed (says b) c = frees-one n t f q b c.leaves.port c
