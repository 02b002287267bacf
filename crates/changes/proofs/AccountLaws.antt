-- The list of entries accounts for all that changed between two tables, and for nothing else (D4, D5): `accounts`, and `one-after-another` for three tables.
-- It holds for any two lists of places in which no identity occurs twice, whatever their number of ports.
use Prim.Native.Nat.{ℕ, zero, suc, ◌+◌, ◌≤◌}
use mathlib.Core.Path.{◌≡◌, refl, sym, ap, ap₂, subst, ◌∙◌}
use mathlib.Core.Bool.{Bool, true, false}
use mathlib.Core.List.{List, [], ◌∷◌}
use mathlib.Core.Option.{Option, none, some}
use native.Mathlib.Omega.{arith}
use borrow.Author.Tests.{eqb-true, eq-eqb}
use lib.Dec.{eqb}
use lib.ListN.{length, get_or, length-append}
use Rattle.tally.specs.Tests.{pick, both}
use Rattle.tally.specs.Tab.{tab}
use Rattle.tally.proofs.TestsLaws.{both_true}
use Rattle.tally.proofs.TabLaws.{tab-get_or}
use Rattle.octets.specs.Address.{same_octets}
use Rattle.octets.proofs.AddressLaws.{same-equal, same_refl}
use Rattle.rules.specs.Identity.{Ident}
use Rattle.rules.specs.Model.{Rec, Places, is_some, lookup}
use Rattle.rules.specs.Fit.{Once}
use Rattle.rules.specs.Records.{Records, records_in, records_of, SameRecords}
use Rattle.rules.proofs.IdentityLaws.{same_self}
use Rattle.rules.proofs.EachLaws.{lookup-of}
use Rattle.rules.proofs.PlacesLaws.{in_some}
use Rattle.rules.proofs.RecordsLaws.{same_by, same_of, found, records-found, once-records, records-lookup}
use Rattle.changes.specs.Entries.{Entry, entry, joined_kind, seconds_kind, altered_kind, place_of_who, became, of_first, of_second, in_order, entries}
use Rattle.changes.specs.Changes.{Change, lasts, joins, alters, whom, lasting, resolved, applied, changes_of, between}
use Rattle.changes.specs.Account.{Account}
use Rattle.changes.proofs.OrderLaws.{resolved-append, order-step, order-none}
use Rattle.changes.proofs.EffectLaws.{effects, applied-of}
use Rattle.changes.proofs.BetweenLaws.{first_at, second_at, first_says, second-says, changes-of}

-- Of one identity

-- no change of octets, sender and seconds is no change; the seconds alone are all that differs
alike : (r q : Rec) → r.who ≡ q.who → r.octets ≡ q.octets → r.sender ≡ q.sender → lasting q.left r ≡ q
alike r q w o s i = record { who = w i; left = q.left; octets = o i; sender = s i }

between-turns : (x y : Option Rec) → ((r q : Rec) → x ≡ some r → y ≡ some q → r.who ≡ q.who) → effects (between x y) (found x) ≡ found y
between-turns none none h = refl
between-turns none (some q) h = refl
between-turns (some r) none h = refl
between-turns (some r) (some q) h =
    go (both (same_octets r.octets q.octets) (same_octets r.sender q.sender)) (eqb r.left q.left) refl refl
  where
    only : both (same_octets r.octets q.octets) (same_octets r.sender q.sender) ≡ true → lasting q.left r ≡ q
    only e =
        let z = both_true (same_octets r.octets q.octets) (same_octets r.sender q.sender) e in
        alike r q (h r q refl refl) (same-equal r.octets q.octets z.0) (same-equal r.sender q.sender z.1)

    go : (f g : Bool) → both (same_octets r.octets q.octets) (same_octets r.sender q.sender) ≡ f → eqb r.left q.left ≡ g
        → effects (pick f (pick g [] (lasts q.who q.left ∷ [])) (alters q ∷ [])) (r ∷ []) ≡ q ∷ []
    go true true e d = ap (λ (z : Rec). z ∷ []) ((λ i. lasting (eqb-true r.left q.left d i) r) ∙ only e)
    go true false e d = ap (λ (z : Rec). z ∷ []) (only e)
    go false g e d = refl

between-few : (x y : Option Rec) → length (between x y) ≤ 1
between-few none none = omega arith
between-few none (some q) = omega arith
between-few (some r) none = omega arith
between-few (some r) (some q) = go (both (same_octets r.octets q.octets) (same_octets r.sender q.sender)) (eqb r.left q.left)
  where
    go : (f g : Bool) → length (pick f (pick g [] (lasts q.who q.left ∷ [])) (alters q ∷ [])) ≤ 1
    go true true = omega arith
    go true false = omega arith
    go false g = omega arith

between-same : (x : Option Rec) → between x x ≡ []
between-same none = refl
between-same (some r) = rw (same_refl r.octets, same_refl r.sender, eq-eqb r.left r.left refl)

-- the same changes make the same of the same records
same_after : {x y z : Records} (l : List Change) → SameRecords x y → SameRecords (applied y l) z → SameRecords (applied x l) z
same_after {x} {y} {z} l s t =
    same_by (applied x l) z
    (λ w.
    applied-of w l x
    ∙ ap (effects (changes_of w l)) (same_of x y s w)
    ∙ sym (applied-of w l y)
    ∙ same_of (applied y l) z t w)
    t.once_too

-- How many entries, place by place

-- each says one change
first-speaks : (a b : Places) (i : ℕ) → length (resolved a b (first_at a b i)) ≡ length (first_at a b i)
first-speaks a b i = go (get_or a i none) refl
  where
    each : (r : Rec) (k : ℕ) (x : Option Rec) → length (between (some r) x) ≡ length (became i r k x)
    each r k none = refl
    each r k (some q) = pair (both (same_octets r.octets q.octets) (same_octets r.sender q.sender)) (eqb r.left q.left)
      where
        pair : (f g : Bool) → length (pick f (pick g [] (lasts q.who q.left ∷ [])) (alters q ∷ []))
            ≡ length (pick f (pick g [] (entry seconds_kind k ∷ [])) (entry altered_kind k ∷ []))
        pair true true = refl
        pair true false = refl
        pair false g = refl

    go : (x : Option Rec) → get_or a i none ≡ x → length (resolved a b (of_first b i x)) ≡ length (of_first b i x)
    go none e = refl
    go (some r) e = ap length (first_says a b i r e) ∙ each r (place_of_who r.who b) (lookup r.who b)

second-speaks : (a b : Places) (k : ℕ) → length (resolved a b (second_at a b k)) ≡ length (second_at a b k)
second-speaks a b k = go (get_or b k none) refl
  where
    pair : (q : Rec) (f : Bool) → length (pick f [] (joins q ∷ [])) ≡ length (pick f [] (entry joined_kind k ∷ []))
    pair q true = refl
    pair q false = refl

    go : (x : Option Rec) → get_or b k none ≡ x → length (resolved a b (of_second a k x)) ≡ length (of_second a k x)
    go none e = refl
    go (some q) e = ap length (second-says a b k q e) ∙ pair q (is_some (lookup q.who a))

all-speak : (a b : Places) (f : ℕ → List Entry) → ((i : ℕ) → length (resolved a b (f i)) ≡ length (f i)) → (n : ℕ)
    → length (resolved a b (in_order f n)) ≡ length (in_order f n)
all-speak a b f h zero = rw (order-none f)
all-speak a b f h (suc n) =
    rw (order-step f n, resolved-append a b (in_order f n) (f n))
    (omega (arith, all-speak a b f h n, h n, length-append (resolved a b (in_order f n)) (resolved a b (f n)), length-append (in_order f n) (f n)))

-- a place gives no more than it has
first-few : (a b : Places) (i : ℕ) → length (first_at a b i) ≤ length (found (get_or a i none))
first-few a b i = rw (← first-speaks a b i) (go (get_or a i none) refl)
  where
    go : (x : Option Rec) → get_or a i none ≡ x → length (resolved a b (of_first b i x)) ≤ length (found x)
    go none e = omega arith
    go (some r) e = rw (first_says a b i r e) (between-few (some r) (lookup r.who b))

second-few : (a b : Places) (k : ℕ) → length (second_at a b k) ≤ length (found (get_or b k none))
second-few a b k = go (get_or b k none)
  where
    pair : (f : Bool) → length (pick f [] (entry joined_kind k ∷ [])) ≤ 1
    pair true = omega arith
    pair false = omega arith

    go : (x : Option Rec) → length (of_second a k x) ≤ length (found x)
    go none = omega arith
    go (some q) = pair (is_some (lookup q.who a))

records-tab : (n : ℕ) (g : ℕ → Option Rec) → length (records_in (tab (suc n) g)) ≡ length (records_in (tab n g)) + length (found (g n))
unfolding tab
records-tab zero g = omega (arith, go (g 0))
  where
    go : (x : Option Rec) → length (records_in (x ∷ [])) ≡ length (found x)
    go none = refl
    go (some r) = refl
records-tab (suc n) g = go (g 0) (records-tab n (λ k. g (suc k)))
  where
    go : (x : Option Rec) → length (records_in (tab (suc n) (λ k. g (suc k)))) ≡ length (records_in (tab n (λ k. g (suc k)))) + length (found (g (suc n)))
        → length (records_in (x ∷ tab (suc n) (λ k. g (suc k)))) ≡ length (records_in (x ∷ tab n (λ k. g (suc k)))) + length (found (g (suc n)))
    go none e = e
    go (some r) e = omega (arith, e)

order-few : (f : ℕ → List Entry) (g : ℕ → Option Rec) → ((i : ℕ) → length (f i) ≤ length (found (g i))) → (n : ℕ) → length (in_order f n) ≤ length (records_in (tab n g))
order-few f g h zero = rw (order-none f) (omega arith)
order-few f g h (suc n) = rw (order-step f n) (omega (arith, order-few f g h n, h n, length-append (in_order f n) (f n), records-tab n g))

in-places : (f : ℕ → List Entry) (t : Places) → ((i : ℕ) → length (f i) ≤ length (found (get_or t i none))) → length (in_order f (length t)) ≤ length (records_in t)
in-places f t h = rw (tab-get_or t none) at (order-few f (λ i. get_or t i none) h (length t))

-- The whole list

nothing_said : (l : List Change) → ((w : Ident) → changes_of w l ≡ []) → length l ≡ 0
nothing_said [] h = refl
nothing_said (c ∷ l) h =
    let z : length (changes_of (whom c) (c ∷ l)) ≡ 0 = ap length (h (whom c)) in
    let y : length (c ∷ changes_of (whom c) l) ≡ 0 = rw (same_self (whom c)) at z in
    absurd (omega (arith, y))

no-entries : (l : List Entry) → length l ≡ 0 → l ≡ []
no-entries [] e = refl
no-entries (x ∷ l) e = absurd (omega (arith, e))

module _ (a b : Places) where
  speaking : length (resolved a b (entries a b)) ≡ length (entries a b)
  unfolding entries
  speaking =
      let x = in_order (first_at a b) (length a) in
      let y = in_order (second_at a b) (length b) in
      rw (resolved-append a b x y)
      (omega (
        arith,
        all-speak a b (first_at a b) (first-speaks a b) (length a),
        all-speak a b (second_at a b) (second-speaks a b) (length b),
        length-append (resolved a b x) (resolved a b y),
        length-append x y,
      ))

  pub entries-few : length (entries a b) ≤ length (records_in a) + length (records_in b)
  unfolding entries
  entries-few =
      omega (
        arith,
        in-places (first_at a b) a (first-few a b),
        in-places (second_at a b) b (second-few a b),
        length-append (in_order (first_at a b) (length a)) (in_order (second_at a b) (length b)),
      )

  module _ (oa : Once a) (ob : Once b) where
    turned : SameRecords (applied (records_in a) (resolved a b (entries a b))) (records_in b)
    turned = same_by (applied (records_in a) (resolved a b (entries a b))) (records_in b) of (once-records b ob)
      where
        whose : (w : Ident) (t : Places) (r : Rec) → lookup w t ≡ some r → r.who ≡ w
        whose w t r e = in_some (λ v. v ≡ w) (lookup w t) r (lookup-of w t) e

        of : (w : Ident) → records_of w (applied (records_in a) (resolved a b (entries a b))) ≡ records_of w (records_in b)
        of w =
            applied-of w (resolved a b (entries a b)) (records_in a)
            ∙ ap₂ effects (changes-of a b oa ob w) (records-found w a oa)
            ∙ between-turns (lookup w a) (lookup w b) (λ r q d e. whose w a r d ∙ sym (whose w b q e))
            ∙ sym (records-found w b ob)

    empty-same : entries a b ≡ [] → SameRecords (records_in a) (records_in b)
    empty-same e = subst (λ (l : List Entry). SameRecords (applied (records_in a) (resolved a b l)) (records_in b)) e turned

    same-empty : SameRecords (records_in a) (records_in b) → entries a b ≡ []
    same-empty s = no-entries (entries a b) (sym speaking ∙ nothing_said (resolved a b (entries a b)) silent)
      where
        silent : (w : Ident) → changes_of w (resolved a b (entries a b)) ≡ []
        silent w =
            changes-of a b oa ob w ∙ ap (λ (x : Option Rec). between x (lookup w b)) (records-lookup a b oa ob s w) ∙ between-same (lookup w b)

    pub accounts : Account a b (entries a b)
    accounts =
        record {
          speaks = speaking;
          turns = turned;
          exactly = changes-of a b oa ob;
          each_once = λ w. rw (changes-of a b oa ob w) (between-few (lookup w a) (lookup w b));
          empty_if_same = (empty-same, same-empty);
          few = entries-few;
        }

-- the changes from a first table to a second and then those from there to a third give the third
pub one-after-another : (a b c : Places) → Once a → Once b → Once c
    → SameRecords (applied (applied (records_in a) (resolved a b (entries a b))) (resolved b c (entries b c))) (records_in c)
one-after-another a b c oa ob oc = same_after (resolved b c (entries b c)) (turned a b oa ob) (turned b c ob oc)
