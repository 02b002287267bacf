-- The model satisfies demand 3: `demand3`, for every history and any number of ports.
-- Each field is read off `sound` and `in_words`; the answers are those of the shares (N12, N13).
use Prim.Native.Nat.{ℕ, suc, ◌+◌, ◌-◌, ◌≤◌, ◌<◌}
use mathlib.Core.Path.{◌≡◌, refl, sym, ap, ◌∙◌}
use mathlib.Core.Logic.{◌↔◌}
use mathlib.Core.Bool.{Bool, true, false}
use mathlib.Core.List.{List, [], ◌∷◌}
use mathlib.Core.Option.{Option, none, some, none-ne-some}
use native.Mathlib.Omega.{arith}
use borrow.Author.Tests.{eqb-true, eq-eqb, ne_eqb, ltb-true, lt-ltb}
use lib.Dec.{ltb, eqb}
use lib.ListN.{length}
use Rattle.std.specs.Prelude.{Ok}
use Rattle.tally.specs.Tests.{pick, both}
use Rattle.tally.proofs.TestsLaws.{both_true}
use Rattle.ids.specs.Id.{Id}
use Rattle.rules.specs.Identity.{Ident, same}
use Rattle.rules.specs.Events.{Announcement, says, History, whose}
use Rattle.rules.specs.Shares.{share, port_is, chassis_is, room}
use Rattle.rules.specs.Answers.{answer_to}
use Rattle.rules.specs.declared.Room.{Room}
use Rattle.rules.specs.declared.Reply.TheVariants.{Refreshed, Gone, UnknownGoodbye}
use Rattle.rules.specs.Model.{Rec, Places, is_some, lookup, reply, run}
use Rattle.rules.proofs.IdentityLaws.{clash}
use Rattle.rules.proofs.EachLaws.{lookup-of}
use Rattle.rules.proofs.SharesLaws.{chassis-true, chassis-is, chassis-port, share-loud, share-sure, share-full, share-taken, share-left}
use Rattle.rules.proofs.PlacesLaws.{in_some, lookup-at}
use Rattle.history.specs.Past.{in_force, among, named, count_by, answer_by, latest, present, count_neighbours, held, held_of, answer}
use Rattle.history.specs.Words.{Last, Neighbour}
use Rattle.history.specs.Demand.{Has, Knows, New, Distinct, Demand3}
use Rattle.history.proofs.PastLaws.{on-port}
use Rattle.history.proofs.WordsLaws.{in_words, neighbour-present, present-neighbour}
use Rattle.history.proofs.CountsLaws.{named-distinct, unnamed, passing-same, length-passing}
use Rattle.history.proofs.AgreeLaws.{record_for, Sound, known_same, holds-held, holds-of, same_answer, sound}

-- what is found is in some place
lookup-has : (w : Ident) (r : Rec) (t : Places) → lookup w t ≡ some r → Has t r
lookup-has w r [] e = absurd (none-ne-some r e)
lookup-has w r (none ∷ t) e = let k = lookup-has w r t e in (suc k.0, k.1)
lookup-has w r (some y ∷ t) e = go (same w y.who) e (lookup-has w r t)
  where
    go : (b : Bool) → pick b (some y) (lookup w t) ≡ some r → (lookup w t ≡ some r → Has t r) → Has (some y ∷ t) r
    go true d ih = (0, d)
    go false d ih = let k = ih d in (suc k.0, k.1)

-- Neighbours of a history

module _ (n : ℕ) (h : History) where
  not-present : (w : Ident) → ¬ Neighbour n h w → present n h w ≡ false
  not-present w f = go (present n h w) refl
    where
      go : (b : Bool) → present n h w ≡ b → b ≡ false
      go true e = absurd (f (present-neighbour n h w e))
      go false e = refl

  neighbour-port : (w : Ident) → Neighbour n h w → w.port < n
  neighbour-port w b = on-port n h w (record { said = b.said; since = b.since }) ((in_words n h w b.said b.since).1 b.last)

  neighbour-named : (w : Ident) → Neighbour n h w → among w (named h) ≡ true
  unfolding present
  neighbour-named w b = go (among w (named h)) refl
    where
      go : (x : Bool) → among w (named h) ≡ x → x ≡ true
      go true e = refl
      go false e = absurd (clash (in_force (latest n h w)) (neighbour-present n h w b) (ap in_force (unnamed n h w e)))

  -- two tests that pass together are one
  test-same : (a b : Bool) → (a ≡ true → b ≡ true) → (b ≡ true → a ≡ true) → a ≡ b
  test-same true b f g = sym (f refl)
  test-same false true f g = g refl
  test-same false false f g = refl

  -- the number of neighbours that pass a test is the length of any list of them
  count-length : (g : Ident → Bool) (l : List Ident) → Distinct l → ((w : Ident) → (among w l ≡ true) ↔ ((g w ≡ true) × Neighbour n h w))
      → length l ≡ count_neighbours n h g
  unfolding count_neighbours count_by present
  count-length g l d e =
      length-passing l (named h) d (named-distinct h) (λ w z. neighbour-named w ((e w).0 z).1)
      ∙ passing-same (λ w. among w l) (λ w. both (g w) (in_force (latest n h w))) (named h)
      (λ w. test-same (among w l) (both (g w) (in_force (latest n h w))) (there w) (back w))
    where
      there : (w : Ident) → among w l ≡ true → both (g w) (in_force (latest n h w)) ≡ true
      there w z =
          let k = (e w).0 z in
          rw k.0 (neighbour-present n h w k.1)

      back : (w : Ident) → both (g w) (in_force (latest n h w)) ≡ true → among w l ≡ true
      back w z =
          let k = both_true (g w) (in_force (latest n h w)) z in
          (e w).1 (k.0, present-neighbour n h w k.1)

  -- those of a port, and those of a chassis on it
  held-length : (p : ℕ) (l : List Ident) → Distinct l → ((w : Ident) → (among w l ≡ true) ↔ ((w.port ≡ p) × Neighbour n h w)) → length l ≡ held n h p
  unfolding held
  held-length p l d e =
      count-length (port_is p) l d
      (λ w. (λ z. let k = (e w).0 z in (eq-eqb w.port p k.0, k.1), λ k. (e w).1 (eqb-true w.port p k.0, k.1)))

  held-of-length : (p : ℕ) (c : Id) (l : List Ident) → Distinct l
      → ((w : Ident) → (among w l ≡ true) ↔ ((w.port ≡ p) × ((w.chassis ≡ c) × Neighbour n h w))) → length l ≡ held_of n h p c
  unfolding held_of
  held-of-length p c l d e =
      count-length (chassis_is p c) l d (λ w. (
        λ z. let k = (e w).0 z in (chassis-is p c w k.0 k.1.0, k.1.1),
        λ k. let x = chassis-true p c w k.0 in (e w).1 (x.0, (x.1, k.1)),
      ))

  -- Answers of the history

  new-answer : (p : ℕ) (a : Announcement) → New n h p a → answer n h p (says a) ≡ answer_to false false (share n (held n h) (held_of n h p a.chassis) p)
  unfolding answer answer_by held held_of count_neighbours room present
  new-answer p a x = rw (lt-ltb p n x.port, ne_eqb a.seconds 0 x.lives, not-present (whose p a) x.unknown)

  goodbye-answer : (p : ℕ) (a : Announcement) → p < n → ¬ Neighbour n h (whose p a) → a.seconds ≡ 0 → answer n h p (says a) ≡ Ok UnknownGoodbye
  unfolding answer answer_by present
  goodbye-answer p a l u z = rw (lt-ltb p n l, eq-eqb a.seconds 0 z, not-present (whose p a) u)

  known-answer : (p : ℕ) (a : Announcement) → Neighbour n h (whose p a) → answer n h p (says a) ≡ Ok (pick (eqb a.seconds 0) Gone Refreshed)
  unfolding answer answer_by present
  known-answer p a b =
      rw (lt-ltb p n (neighbour-port (whose p a) b), neighbour-present n h (whose p a) b) (go (eqb a.seconds 0))
    where
      go : (g : Bool) → answer_to g true (room n (count_by (latest n h) (named h)) (whose p a)) ≡ Ok (pick g Gone Refreshed)
      go true = refl
      go false = refl

-- The table

module _ (n : ℕ) (h : History) (t : Places) (s : Sound n h t) where
  has-lookup : (r : Rec) → Has t r → lookup r.who t ≡ some r
  has-lookup r k = lookup-at r t k.0 s.fit.once k.1

  -- what a record is to be, where a is the latest announcement of its identity
  abbrev due : Rec → Announcement → ℕ → Rec
  due r a since = record { who = r.who; left = a.seconds - since; octets = a.octets; sender = a.sender }

  record-last : (r : Rec) (a : Announcement) (since : ℕ) → Has t r → Last n h r.who a since → (since < a.seconds) × (r ≡ due r a since)
  unfolding record_for
  record-last r a since k l =
      let e = sym (has-lookup r k) ∙ s.agrees r.who ∙ ap (record_for r.who) ((in_words n h r.who a since).1 l) in
      go (ltb since a.seconds) refl e
    where
      rec_in : Option Rec → Rec
      rec_in none = r
      rec_in (some y) = y

      go : (b : Bool) → ltb since a.seconds ≡ b → some r ≡ pick b (some (due r a since)) none → (since < a.seconds) × (r ≡ due r a since)
      go false d z = absurd (none-ne-some r (sym z))
      go true d z = (ltb-true since a.seconds d, ap rec_in z)

  left-last : (r : Rec) (a : Announcement) (since : ℕ) → Has t r → Last n h r.who a since → since + r.left ≡ a.seconds
  left-last r a since k l =
      let e = record-last r a since k l in
      let x : r.left ≡ a.seconds - since = ap (λ (y : Rec). y.left) e.1 in
      omega (arith, e.0)

  of-held : (p : ℕ) (c : Id) → held_of n h p c ≤ held n h p
  of-held p c = omega (arith, chassis-port t p c, holds-held n h t s p, holds-of n h t s p c)

  -- a new one gets what the room says
  by-room : {p : ℕ} {a : Announcement} {r : Room} → New n h p a → share n (held n h) (held_of n h p a.chassis) p ≡ r → reply n p (says a) t ≡ answer_to false false r
  by-room {p} {a} x e = same_answer n h t s p (says a) ∙ new-answer n h p a x ∙ ap (answer_to false false) e

  knows-neighbour : (w : Ident) → Knows t w → Neighbour n h w
  unfolding present
  knows-neighbour w k =
      rw (← k.own) (present-neighbour n h k.rec.who (sym (known_same n h t s k.rec.who) ∙ ap is_some (has-lookup k.rec k.there)))

  neighbour-knows : (w : Ident) → Neighbour n h w → Knows t w
  unfolding present
  neighbour-knows w b = go (lookup w t) refl (known_same n h t s w ∙ neighbour-present n h w b)
    where
      go : (o : Option Rec) → lookup w t ≡ o → is_some o ≡ true → Knows t w
      go none e d = absurd (clash false d refl)
      go (some r) e d = record { rec = r; there = lookup-has w r t e; own = in_some (λ v. v ≡ w) (lookup w t) r (lookup-of w t) e }

-- Demand 3, of the model
pub demand3 : (n : ℕ) (h : History) → Demand3 n h (run n h)
demand3 n h =
    let t = run n h in
    let s = sound n h in
    record {
      exactly = λ w. (knows-neighbour n h t s w, neighbour-knows n h t s w);
      octets = λ r a since k l. ap (λ (y : Rec). y.octets) (record-last n h t s r a since k l).1;
      sender = λ r a since k l. ap (λ (y : Rec). y.sender) (record-last n h t s r a since k l).1;
      seconds_left = left-last n h t s;
      once = s.fit.once;
      answers = same_answer n h t s;
      sure_places = λ p a x l. by-room n h t s x (share-sure n (held n h) (held_of n h p a.chassis) p (λ o. omega (arith, o, l, of-held n h t s p a.chassis)) l);
      six = s.fit.six;
      seventh = λ p a x e. (
        λ o. by-room n h t s x (share-loud n (held n h) (held_of n h p a.chassis) p o),
        λ o. by-room n h t s x (share-full n (held n h) (held_of n h p a.chassis) p o e),
      );
      common_places = λ p a x l m. (
        λ o. by-room n h t s x (share-loud n (held n h) (held_of n h p a.chassis) p o),
        (
          λ o e. by-room n h t s x (share-taken n (held n h) (held_of n h p a.chassis) p o l (λ z. omega (arith, m, z)) e),
          λ o e. by-room n h t s x (share-left n (held n h) (held_of n h p a.chassis) p o l (λ z. omega (arith, m, z)) e),
        ),
      );
      three = λ p c. omega (arith, s.fit.three p c, holds-of n h t s p c);
      known = λ p a b. same_answer n h t s p (says a) ∙ known-answer n h p a b;
      goodbye = λ p a l u z. same_answer n h t s p (says a) ∙ goodbye-answer n h p a l u z;
      how_many = holds-held n h t s;
      counted = held-length n h;
      how_many_of = holds-of n h t s;
      counted_of = held-of-length n h;
    }
