-- Laws of the layout: the places as the code goes from one to the next, and the tests by what the code has read.
-- `extension-has` says what a well formed content has in front.
use Prim.Native.Nat.{ℕ, ◌+◌, ◌-◌, ◌*◌, ◌<◌, ◌≤◌}
use mathlib.Core.Path.{◌≡◌, refl, sym, ap, ap₂, ◌∙◌, fun_ext}
use mathlib.Core.List.{List, [], ◌∷◌}
use mathlib.Core.Bool.{Bool, true, false}
use native.Mathlib.Omega.{arith}
use native.Mathlib.Nat.{mul-le-mul_left}
use lib.ListN.{length, drop, get_or, drop_of_length-le}
use lib.Seq.{drop-drop, get_or-drop}
use lib.Dec.{leb, eqb}
use borrow.Author.Tests.{eq-eqb, ne_eqb, eqb-true, leb-true}
use Rattle.tally.specs.Ranges.{some_below}
use Rattle.octets.specs.Address.{six_at, same_octets}
use Rattle.extension.specs.Runs.{span}
use Rattle.extension.specs.Layout.{item_size, item_place, entry_size, width, entry_count, item_count, entries_from, entry_place, port_item_count, pairing_count, pairings_from, port_items_from, width_ok, end_ok, extension_ok, extension_names}
use Rattle.links.specs.Link.{type_count, number_count, four_ok}
use Rattle.links.specs.Row.{among_of}
use Rattle.tally.specs.Tests.{all}
use Rattle.tally.proofs.TestsLaws.{both_true, held}
use Rattle.tally.proofs.RangesLaws.{some_same}
use Rattle.extension.specs.Asked.{opening_of, closing_of, counts_by, counts_in}
use Rattle.extension.specs.declared.Opening.{Opening}
use Rattle.extension.specs.declared.Closing.{Closing}
use Rattle.extension.proofs.RunLaws.{span_none, span-add, span_more, span-past, span-even}

-- the octets of so many things of one width, both counted by an octet
pub product_small : (a b : ℕ) → a < 256 → b < 256 → a * b < 65536
product_small a b h k = let most : b ≤ 255 = omega arith in omega (arith, mul-le-mul_left a most)

-- Things of any size from a place on, the next of them at `at`

module _ (f : List ℕ → ℕ) (t : List ℕ) (from : ℕ) where
  pub place-first : from ≡ from + span f 0 (drop from t)
  place-first = omega (arith, span_none f (drop from t))

  module _ (i : ℕ) {at : ℕ} (e : at ≡ from + span f i (drop from t)) where
    -- what is left from there on
    pub rest_at : drop (span f i (drop from t)) (drop from t) ≡ drop at t
    rest_at = drop-drop (span f i (drop from t)) from t ∙ ap (λ (n : ℕ). drop n t) (sym e)

    pub place-more : {s : ℕ} → s ≡ f (drop at t) → at + s ≡ from + span f (i + 1) (drop from t)
    place-more p = omega (arith, e, p ∙ ap f (sym rest_at), span_more f i (drop from t))

pub front-octet : (t : List ℕ) (at : ℕ) → get_or (drop at t) 0 0 ≡ get_or t at 0
front-octet t at = get_or-drop at t 0 0 ∙ ap (λ (n : ℕ). get_or t n 0) (let z : at + 0 ≡ at = omega arith in z)

module _ (t : List ℕ) (from i : ℕ) {at : ℕ} where
  pub item-more : at ≡ item_place t from i → {s : ℕ} → s ≡ get_or t at 0 → at + (1 + s) ≡ item_place t from (i + 1)
  item-more e p = place-more item_size t from i e (ap (λ (x : ℕ). 1 + x) (p ∙ sym (front-octet t at)))

  pub item-past : at ≡ item_place t from i → (count : ℕ) → i ≤ count → length t ≤ at → at + (count - i) ≡ item_place t from count
  item-past e count h k =
      let whole : i + (count - i) ≡ count = omega arith in
      let left : span item_size count (drop from t) ≡ span item_size i (drop from t) + (count - i) =
      ap (λ (n : ℕ). span item_size n (drop from t)) (sym whole)
      ∙ span-add item_size i (count - i) (drop from t)
      ∙ ap (λ (n : ℕ). span item_size i (drop from t) + n) (ap (span item_size (count - i)) (rest_at item_size t from i e ∙ drop_of_length-le t k) ∙ span-past item_size refl (count - i))
      in
      omega (arith, e, left)

  -- an address of p octets, and its c items, which end at `end`
  pub entry_more : (p c : ℕ) → at ≡ from + span (entry_size p c) i (drop from t) → {end : ℕ} → end ≡ item_place t (at + p) c
      → end ≡ from + span (entry_size p c) (i + 1) (drop from t)
  entry_more p c e q =
      let size : entry_size p c (drop at t) ≡ p + span item_size c (drop (at + p) t) = ap (λ (l : List ℕ). p + span item_size c l) (drop-drop p at t) in
      omega (arith, q, place-more (entry_size p c) t from i e (sym size))

-- The counts as the code has read them

pub opening-read : (t : List ℕ) {n m p k c : ℕ} → n ≡ get_or t 0 0 → m ≡ get_or t (1 + n) 0
    → p ≡ get_or t (2 + n + m) 0 → k ≡ get_or t (2 + n + m + 1) 0 → c ≡ get_or t (2 + n + m + 2) 0
    → record { at = 2 + n + m + 3; width = p; addresses = k; items = c } ≡ opening_of t
opening-read t x y u v w = rw (w, v, u, y, x)

-- by where the entries begin, and by p, k and c
module _ (t : List ℕ) {h : Opening} (e : h ≡ opening_of t) where
  pub opening-at : h.at ≡ entries_from t
  opening-at = ap (λ (x : Opening). x.at) e

  pub opening-width : h.width ≡ width t
  opening-width = ap (λ (x : Opening). x.width) e

  pub opening-count : h.addresses ≡ entry_count t
  opening-count = ap (λ (x : Opening). x.addresses) e

  pub opening-items : h.items ≡ item_count t
  opening-items = ap (λ (x : Opening). x.items) e

  pub entry_read : (i : ℕ) → h.at + span (entry_size h.width h.items) i (drop h.at t) ≡ entry_place t i
  entry_read i =
      ap (λ (n : ℕ). n + span (entry_size h.width h.items) i (drop n t)) opening-at
      ∙ ap₂ (λ (p c : ℕ). entries_from t + span (entry_size p c) i (drop (entries_from t) t)) opening-width opening-items

  pub names-other : (a : List ℕ) → (h.width ≡ 6 → ⊥) → false ≡ extension_names t a
  unfolding extension_names
  names-other a n = rw (ne_eqb (width t) 6 (λ q. n (opening-width ∙ q)))

  pub names-six : (a : List ℕ) → h.width ≡ 6
      → extension_names t a ≡ some_below (λ i. same_octets (six_at t (h.at + span (entry_size 6 h.items) i (drop h.at t))) a) h.addresses
  unfolding extension_names
  names-six a w =
      let at : (i : ℕ) → entry_place t i ≡ h.at + span (entry_size 6 h.items) i (drop h.at t) =
      λ i. sym (ap (λ (p : ℕ). h.at + span (entry_size p h.items) i (drop h.at t)) (sym w) ∙ entry_read i)
      in
      rw (eq-eqb (width t) 6 (sym opening-width ∙ w))
      (ap (some_below (λ i. same_octets (six_at t (entry_place t i)) a)) (sym opening-count)
      ∙ some_same _ _ h.addresses (λ i l. ap (λ (n : ℕ). same_octets (six_at t n) a) (at i)))

  -- without items the addresses are in a row
  pub names-row : (a : List ℕ) → h.width ≡ 6 → h.items ≡ 0 → extension_names t a ≡ among_of t h.at h.addresses a
  names-row a w z =
      let size : entry_size 6 h.items ≡ (λ l. 6) = ap (entry_size 6) z ∙ fun_ext (λ l. omega (arith, span_none item_size (drop 6 l))) in
      let at : (i : ℕ) → h.at + span (entry_size 6 h.items) i (drop h.at t) ≡ h.at + 6 * i =
      λ i. omega (arith, ap (λ (f : List ℕ → ℕ). span f i (drop h.at t)) size ∙ span-even 6 i (drop h.at t))
      in
      names-six a w ∙ some_same _ _ h.addresses (λ i l. ap (λ (n : ℕ). same_octets (six_at t n) a) (at i))

  pub closing-read : {r d q : ℕ} → r ≡ h.at + span (entry_size h.width h.items) h.addresses (drop h.at t) → d ≡ get_or t r 0 → q ≡ get_or t (r + 1) 0
      → record { at = r + 2; portitems = d; pairings = q } ≡ closing_of t
  closing-read p x y =
      let there = p ∙ entry_read h.addresses ∙ ap (entry_place t) opening-count in
      rw (y, x, there)

  pub end_read : {s : Closing} → s ≡ closing_of t → {r : ℕ} → r ≡ item_place t (s.at + s.pairings * h.width) s.portitems → eqb (length t) r ≡ end_ok t
  end_read {s} q p =
      ap (eqb (length t))
      (p
      ∙ ap (λ (w : ℕ). item_place t (s.at + s.pairings * w) s.portitems) opening-width
      ∙ ap (λ (x : Closing). item_place t (x.at + x.pairings * width t) x.portitems) q)

-- a content that is well formed, by what the code has read
pub fits_read : (t : List ℕ) {n m : ℕ} → n ≡ get_or t 0 0 → m ≡ get_or t (1 + n) 0 → {h : Opening} → h ≡ opening_of t → {s : Closing} → s ≡ closing_of t
    → extension_ok t ≡ all (four_ok n ∷ four_ok m ∷ width_ok h.width h.addresses s.pairings ∷ end_ok t ∷ [])
unfolding extension_ok
fits_read t p q {h} e {s} u =
    rw (q, p)
    (ap (λ (w : Bool). all (four_ok (get_or t 0 0) ∷ four_ok (get_or t (1 + get_or t 0 0) 0) ∷ w ∷ end_ok t ∷ []))
    (sym (ap (λ (x : Opening). width_ok x.width x.addresses s.pairings) e ∙ ap (λ (x : Closing). width_ok (width t) (entry_count t) x.pairings) u)))

-- by where the pairing addresses begin, and by d and q
module _ (t : List ℕ) {s : Closing} (e : s ≡ closing_of t) where
  pub closing_at : s.at ≡ pairings_from t
  closing_at = ap (λ (x : Closing). x.at) e

  pub closing-items : s.portitems ≡ port_item_count t
  closing-items = ap (λ (x : Closing). x.portitems) e

  pub closing-pairings : s.pairings ≡ pairing_count t
  closing-pairings = ap (λ (x : Closing). x.pairings) e

pub counts-read : (t : List ℕ) {n m : ℕ} → n ≡ get_or t 0 0 → m ≡ get_or t (1 + n) 0 → {h : Opening} → h ≡ opening_of t → {s : Closing} → s ≡ closing_of t
    → counts_by n m h s ≡ counts_in t
counts-read t p q e u = rw (q, p) (ap₂ (counts_by (type_count 0 t) (number_count 0 t)) e u)

-- what a well formed content has; its numbers stand where those of link information do
pub record ExtensionHas (t : List ℕ) : Type 0 where
  pub type_short : type_count 0 t ≤ 4
  pub number_short : number_count 0 t ≤ 4
  pub inside : entries_from t ≤ length t

pub extension-has : (t : List ℕ) → extension_ok t ≡ true → ExtensionHas t
unfolding extension_ok
extension-has t e =
    let h = held (four_ok (type_count 0 t) ∷ four_ok (number_count 0 t) ∷ width_ok (width t) (entry_count t) (pairing_count t) ∷ end_ok t ∷ []) e in
    let ends = eqb-true (length t) (item_place t (port_items_from t) (port_item_count t)) h.1.1.1.0 in
    record {
      type_short = leb-true (type_count 0 t) 4 (both_true (leb 1 (type_count 0 t)) (leb (type_count 0 t) 4) h.0).1;
      number_short = leb-true (number_count 0 t) 4 (both_true (leb 1 (number_count 0 t)) (leb (number_count 0 t) 4) h.1.0).1;
      inside = omega (arith, ends);
    }

pub fits-some : (t : List ℕ) → extension_ok t ≡ true → 1 ≤ length t
fits-some t e = omega (arith, (extension-has t e).inside)
