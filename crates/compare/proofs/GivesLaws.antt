-- What each place gives, by what the code finds out about it: whether it is used, where the other table has its identity, and what differs.
-- The code's search gives the model's place (find-place); from there on each return is one line.
use Prim.Native.Nat.{ℕ, zero, suc, ◌+◌, ◌≤◌, ◌<◌}
use mathlib.Core.Path.{◌≡◌, refl, sym, ap, ap₂, ◌∙◌}
use mathlib.Core.Logic.{◌≢◌}
use mathlib.Core.Bool.{Bool, true, false, not}
use mathlib.Core.List.{List, [], ◌∷◌}
use mathlib.Core.Option.{Option, none, some}
use native.Mathlib.Numerals.{add-one}
use native.Mathlib.Omega.{arith}
use borrow.Author.Tests.{eq-eqb, ne_eqb}
use lib.Dec.{eqb}
use lib.ListN.{get_or}
use Rattle.std.specs.Prelude.{Some, None}
use Rattle.tally.specs.Tests.{pick, both}
use Rattle.tally.specs.Counts.{first_from}
use Rattle.tally.specs.Tab.{tab}
use Rattle.tally.proofs.CountsLaws.{first_passes}
use Rattle.octets.specs.Address.{same_octets}
use Rattle.rules.specs.Identity.{Ident, same}
use Rattle.rules.specs.Model.{Rec, is_some, lookup}
use Rattle.rules.proofs.IdentityLaws.{clash, same-sym}
use Rattle.numbers.specs.Sizes.{places}
use Rattle.output.specs.Output.{Put}
use Rattle.output.specs.declared.Output.{Output as Lent}
use Rattle.output.proofs.OutputLaws.{put_then, put_same, put_none}
use Rattle.place.specs.State.{State, at, lldpdu_in, whose_in, who_at, is_of, find, place_found}
use Rattle.place.proofs.FoundLaws.{found-some, found-none}
use Rattle.place.proofs.ThereLaws.{there-lldpdu}
use Rattle.fitness.specs.View.{rec_of, place_of, view}
use Rattle.fitness.proofs.ViewLaws.{place-free, place-used, get_or-view, view-long}
use Rattle.changes.specs.Entries.{Entry, entry, left_kind, joined_kind, seconds_kind, altered_kind, place_of_who, became, of_first, of_second, in_order, octets_of}
use Rattle.changes.proofs.OrderLaws.{octets-append, order-none, order-step}
use Rattle.changes.proofs.BetweenLaws.{at_place, known-below}
use Rattle.compare.specs.Compare.{first_gives, second_gives}

-- The search

abbrev is_there : Ident → Option Rec → Bool
is_there w none = false
is_there w (some r) = same w r.who

first-shift : (f : ℕ → Bool) (i m : ℕ) → first_from f (suc i) m ≡ suc (first_from (λ k. f (suc k)) i m)
unfolding first_from
first-shift f i zero = refl
first-shift f i (suc m) = go (f (suc i)) (first-shift f (suc i) m)
  where
    go : (b : Bool) → first_from f (suc (suc i)) m ≡ suc (first_from (λ k. f (suc k)) (suc i) m)
        → pick b (suc i) (first_from f (suc (suc i)) m) ≡ suc (pick b i (first_from (λ k. f (suc k)) (suc i) m))
    go true e = refl
    go false e = e

first-place : (w : Ident) (m : ℕ) (f : ℕ → Bool) (g : ℕ → Option Rec) → ((k : ℕ) → f k ≡ is_there w (g k)) → first_from f 0 m ≡ place_of_who w (tab m g)
unfolding first_from tab
first-place w zero f g h = refl
first-place w (suc m) f g h = go (g 0) (h 0) (first-shift f 0 m ∙ ap suc (first-place w m (λ k. f (suc k)) (λ k. g (suc k)) (λ k. h (suc k))))
  where
    go : (x : Option Rec) → f 0 ≡ is_there w x → first_from f 1 m ≡ suc (place_of_who w (tab m (λ k. g (suc k))))
        → pick (f 0) 0 (first_from f 1 m) ≡ place_of_who w (x ∷ tab m (λ k. g (suc k)))
    go none e d = rw e d
    go (some r) e d = rw e (ap (pick (same w r.who) 0) d)

is-there : (s : State) (w : Ident) (k : ℕ) → is_of s w k ≡ is_there w (place_of (at s k))
unfolding is_of place_of
is-there s w k = go (eqb (at s k).len 0)
  where
    go : (b : Bool) → both (not b) (same (who_at (at s k)) w) ≡ is_there w (pick b none (some (rec_of (at s k))))
    go true = refl
    go false = same-sym (who_at (at s k)) w

pub find-place : (s : State) (w : Ident) → find s w ≡ place_of_who w (view s)
unfolding find view
find-place s w = first-place w places (is_of s w) (λ k. place_of (at s k)) (is-there s w)

-- k is what the search answered
module _ (s : State) (w : Ident) {k : ℕ} (e : k ≡ find s w) where
  seen_at : get_or (view s) k none ≡ lookup w (view s)
  seen_at = ap (λ (j : ℕ). get_or (view s) j none) (e ∙ find-place s w) ∙ at_place w (view s)

  new-there : places ≤ k → lookup w (view s) ≡ none
  new-there l = go (lookup w (view s)) refl
    where
      go : (x : Option Rec) → lookup w (view s) ≡ x → lookup w (view s) ≡ none
      go none d = d
      go (some r) d = absurd (omega (arith, l, known-below (view s) k r (seen_at ∙ d), view-long s))

  known-there : k < places → lookup w (view s) ≡ some (rec_of (at s k))
  unfolding find
  known-there l = sym seen_at ∙ get_or-view s k l ∙ place-used (at s k) used
    where
      there : is_of s w k ≡ true
      there = rw e (first_passes (is_of s w) places 0 (rw (← e) l))

      used : (at s k).len ≢ 0
      used d = absurd (clash (is_of s w k) there (is-there s w k ∙ ap (is_there w) (place-free (at s k) d)))

-- A place of the first table

-- a record in both, in place k of the second: whether octets and sender are the same, and the seconds before and after
abbrev pub beside : Bool → ℕ → ℕ → ℕ → List Entry
beside f s t k = pick f (pick (eqb s t) [] (entry seconds_kind k ∷ [])) (entry altered_kind k ∷ [])

module _ (k : ℕ) where
  pub beside_same : {f : Bool} {s t : ℕ} → f ≡ true → s ≡ t → beside f s t k ≡ []
  beside_same {f} {s} {t} d r = rw (d, eq-eqb s t r)

  pub beside-seconds : {f : Bool} {s t : ℕ} → f ≡ true → s ≢ t → beside f s t k ≡ entry seconds_kind k ∷ []
  beside-seconds {f} {s} {t} d r = rw (d, ne_eqb s t r)

  pub beside-altered : {f : Bool} (s t : ℕ) → f ≡ false → beside f s t k ≡ entry altered_kind k ∷ []
  beside-altered s t d = rw d

module _ (a b : State) (i : ℕ) (h : i < places) where
  pub first-free : (at a i).len ≡ 0 → first_gives a b i ≡ []
  first-free e = ap (of_first (view b) i) (get_or-view a i h ∙ place-free (at a i) e)

  -- used; l is what it keeps
  module _ (u : (at a i).len ≢ 0) {l : List ℕ} (el : l ≡ lldpdu_in a.buf i (at a i).len) where
    its : find b (whose_in (at a i).port l) ≡ find b (who_at (at a i))
    its = ap (λ (x : List ℕ). find b (whose_in (at a i).port x)) (el ∙ there-lldpdu a i h)

    gives : first_gives a b i ≡ became i (rec_of (at a i)) (place_of_who (who_at (at a i)) (view b)) (lookup (who_at (at a i)) (view b))
    gives = ap (of_first (view b) i) (get_or-view a i h ∙ place-used (at a i) u)

    -- the second table does not have its identity
    pub first-left : None ≡ place_found (find b (whose_in (at a i).port l)) → first_gives a b i ≡ entry left_kind i ∷ []
    first-left n =
        gives
        ∙ ap (became i (rec_of (at a i)) (place_of_who (who_at (at a i)) (view b)))
        (new-there b (who_at (at a i)) its (found-none (find b (whose_in (at a i).port l)) (sym n)))

    -- it has it in place k; m is what it keeps there, and f tells whether octets and sender are the same
    pub first-kept : {k : ℕ} → Some k ≡ place_found (find b (whose_in (at a i).port l)) → {m : List ℕ} → m ≡ lldpdu_in b.buf k (at b k).len → {f : Bool}
        → f ≡ both (same_octets l m) (same_octets (at a i).sender (at b k).sender)
        → first_gives a b i ≡ beside f (at a i).seconds (at b k).seconds k
    first-kept {k} o {m} em {f} ef =
        let n = found-some (find b (whose_in (at a i).port l)) (sym o) in
        let e : k ≡ find b (who_at (at a i)) = sym n.0 ∙ its in
        gives
        ∙ ap₂ (became i (rec_of (at a i))) (sym (e ∙ find-place b (who_at (at a i)))) (known-there b (who_at (at a i)) e n.1)
        ∙ ap (λ (g : Bool). beside g (at a i).seconds (at b k).seconds k)
        (sym (ef ∙ ap₂ (λ (x y : List ℕ). both (same_octets x y) (same_octets (at a i).sender (at b k).sender)) (el ∙ there-lldpdu a i h) (em ∙ there-lldpdu b k n.1)))

-- A place of the second table

module _ (a b : State) (k : ℕ) (h : k < places) where
  pub second-free : (at b k).len ≡ 0 → second_gives a b k ≡ []
  second-free e = ap (of_second (view a) k) (get_or-view b k h ∙ place-free (at b k) e)

  -- used; l is what it keeps
  module _ (u : (at b k).len ≢ 0) {l : List ℕ} (el : l ≡ lldpdu_in b.buf k (at b k).len) where
    whose : find a (whose_in (at b k).port l) ≡ find a (who_at (at b k))
    whose = ap (λ (x : List ℕ). find a (whose_in (at b k).port x)) (el ∙ there-lldpdu b k h)

    gives-second : second_gives a b k ≡ pick (is_some (lookup (who_at (at b k)) (view a))) [] (entry joined_kind k ∷ [])
    gives-second = ap (of_second (view a) k) (get_or-view b k h ∙ place-used (at b k) u)

    -- the first table has its identity in place i
    pub second-known : {i : ℕ} → Some i ≡ place_found (find a (whose_in (at b k).port l)) → second_gives a b k ≡ []
    second-known o =
        let n = found-some (find a (whose_in (at b k).port l)) (sym o) in
        gives-second ∙ ap (λ (x : Option Rec). pick (is_some x) [] (entry joined_kind k ∷ [])) (known-there a (who_at (at b k)) (sym n.0 ∙ whose) n.1)

    pub second-joined : None ≡ place_found (find a (whose_in (at b k).port l)) → second_gives a b k ≡ entry joined_kind k ∷ []
    second-joined o =
        gives-second
        ∙ ap (λ (x : Option Rec). pick (is_some x) [] (entry joined_kind k ∷ []))
        (new-there a (who_at (at b k)) whose (found-none (find a (whose_in (at b k).port l)) (sym o)))

-- Their octets, put behind the others

-- nothing is put
pub put-nothing : {e : List Entry} (o : Lent) → e ≡ [] → Put (octets_of e) o o
put-nothing o q = put_same (put_none o) (ap octets_of (sym q))

-- what is put is what is given
pub put-given : {e x : List Entry} {o p : Lent} → Put (octets_of x) o p → e ≡ x → Put (octets_of e) o p
put-given d q = put_same d (ap octets_of (sym q))

-- one turn of a loop that puts what each place gives
module _ (f : ℕ → List Entry) {o : Lent} where
  pub order-begins : Put (octets_of (in_order f 0)) o o
  order-begins = put-nothing o (order-none f)

  pub order-more : (i : ℕ) {p q : Lent} → Put (octets_of (in_order f i)) o p → Put (octets_of (f i)) p q → Put (octets_of (in_order f (i + 1))) o q
  order-more i d e =
      put_same (put_then (octets_of (in_order f i)) (octets_of (f i)) d e)
      (sym (octets-append (in_order f i) (f i)) ∙ ap octets_of (sym (order-step f i) ∙ ap (in_order f) (sym (add-one i))))

  pub order-ends : (i n : ℕ) {p : Lent} → i ≡ n → Put (octets_of (in_order f i)) o p → Put (octets_of (in_order f n)) o p
  order-ends i n e d = put_same d (ap (λ (k : ℕ). octets_of (in_order f k)) e)
