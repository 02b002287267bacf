-- Laws of the revision rule (T13): a reader that knows fewer items sees the same first ones, and items added behind change nothing for it.
-- `as-if-cut` says it of a content: what it shows up to c and d items is what the content of an older edition shows.
use Prim.{tt}
use Prim.Native.Nat.{ℕ, zero, suc, ◌<◌, ◌≤◌}
use mathlib.Core.Path.{◌≡◌, refl, sym, ap, ap₂, ◌∙◌}
use mathlib.Core.List.{List, [], ◌∷◌, ◌++◌, map}
use mathlib.Core.Bool.{true}
use native.Mathlib.Omega.{arith}
use borrow.Author.Tests.{eqb-true, eq-eqb}
use lib.ListN.{length, take, drop, get_or, length-map}
use lib.Seq.{length-take-le}
use lib.Dec.{eqb}
use Rattle.tally.specs.Tests.{all}
use Rattle.tally.proofs.TestsLaws.{both_true, both_hold}
use Rattle.extension.specs.Layout.{item_size, item_count, port_item_count, port_items_from, width_ok, extension_ok}
use Rattle.extension.specs.Table.{Entry, Table, item_in, table_from, laid, entry_ok, table_ok}
use Rattle.extension.specs.Asked.{item_at, port_item_at, table_of, no_entry, item_of, port_item_of}
use Rattle.text.specs.Part.{text_of}
use Rattle.links.specs.Link.{four_ok}
use Rattle.extension.specs.Revision.{first_items, entry_with, with_items, shown, cut_to, Begins, EntriesGrown, Grown}
use Rattle.extension.proofs.RunLaws.{each-count}
use Rattle.extension.proofs.AskedLaws.{item-answers, port-item-answers}
use Rattle.extension.proofs.TableLaws.{table-has, laid_out, laid-read}

-- The first items

pub first-of-first : (j i : ℕ) (xs : List (List ℕ)) → j ≤ i → take j (first_items i xs) ≡ first_items j xs
unfolding first_items
first-of-first zero i xs h = refl
first-of-first (suc j) zero xs h = absurd (omega arith)
first-of-first (suc j) (suc i) [] h = ap (λ (l : List (List ℕ)). [] ∷ l) (first-of-first j i [] (omega arith))
first-of-first (suc j) (suc i) (x ∷ xs) h = ap (λ (l : List (List ℕ)). x ∷ l) (first-of-first j i xs (omega arith))

pub first-again : (j i : ℕ) (xs : List (List ℕ)) → j ≤ i → first_items j (first_items i xs) ≡ first_items j xs
unfolding first_items
first-again zero i xs h = refl
first-again (suc j) zero xs h = absurd (omega arith)
first-again (suc j) (suc i) [] h = ap (λ (l : List (List ℕ)). [] ∷ l) (first-again j i [] (omega arith))
first-again (suc j) (suc i) (x ∷ xs) h = ap (λ (l : List (List ℕ)). x ∷ l) (first-again j i xs (omega arith))

pub first-there : (k j : ℕ) (xs : List (List ℕ)) → k < j → get_or (first_items j xs) k [] ≡ get_or xs k []
unfolding first_items
first-there k zero xs h = absurd (omega arith)
first-there zero (suc j) [] h = refl
first-there zero (suc j) (x ∷ xs) h = refl
first-there (suc k) (suc j) [] h = first-there k j [] (omega arith)
first-there (suc k) (suc j) (x ∷ xs) h = first-there k j xs (omega arith)

pub first-missing : (j k : ℕ) (xs : List (List ℕ)) → length xs ≤ k → get_or (first_items j xs) k [] ≡ []
unfolding first_items
first-missing zero k xs h = refl
first-missing (suc j) zero [] h = refl
first-missing (suc j) zero (x ∷ xs) h = absurd (omega arith)
first-missing (suc j) (suc k) [] h = first-missing j k [] (omega arith)
first-missing (suc j) (suc k) (x ∷ xs) h = first-missing j k xs (omega arith)

pub first_count : (j : ℕ) (xs : List (List ℕ)) → length (first_items j xs) ≡ j
unfolding first_items
first_count zero xs = refl
first_count (suc j) [] = ap suc (first_count j [])
first_count (suc j) (x ∷ xs) = ap suc (first_count j xs)

-- one of length 0 behind the others shows as a missing one does
pub empty-missing : (j : ℕ) (xs : List (List ℕ)) → first_items j (xs ++ ([] ∷ [])) ≡ first_items j xs
unfolding first_items
empty-missing zero xs = refl
empty-missing (suc j) [] = refl
empty-missing (suc j) (x ∷ xs) = ap (λ (l : List (List ℕ)). x ∷ l) (empty-missing j xs)

first-begins : (j : ℕ) (xs ys : List (List ℕ)) → j ≤ length xs → Begins xs ys → first_items j ys ≡ first_items j xs
unfolding first_items
first-begins j xs ys h b = sym (cut j (length xs) ys h) ∙ ap (first_items j) b
  where
    cut : (i c : ℕ) (l : List (List ℕ)) → i ≤ c → first_items i (take c l) ≡ first_items i l
    cut zero c l g = refl
    cut (suc i) zero l g = absurd (omega arith)
    cut (suc i) (suc c) [] g = refl
    cut (suc i) (suc c) (x ∷ l) g = ap (λ (y : List (List ℕ)). x ∷ y) (cut i c l (omega arith))

-- A table as a reader shows it that knows fewer items

-- with items that f made of what i had been shown, where f makes the first j of them
module _ (j i h g : ℕ) (x : Table) (a : j ≤ i) (b : h ≤ g) where
  remade : (f : ℕ → List (List ℕ) → List (List ℕ)) → ((m n : ℕ) (xs : List (List ℕ)) → m ≤ n → f m (first_items n xs) ≡ first_items m xs)
      → with_items j (f j) (f h) (shown i g x) ≡ shown j h x
  remade f makes =
      λ k. record {
        interface = x.interface;
        port = x.port;
        width = x.width;
        item_count = j;
        entries = again x.entries k;
        pairings = x.pairings;
        port_items = makes h g x.port_items b k;
      }
    where
      again : (es : List Entry) → map (entry_with (f j)) (map (entry_with (first_items i)) es) ≡ map (entry_with (first_items j)) es
      again [] = refl
      again (e ∷ es) = λ k. record { address = e.address; items = makes j i e.items a k } ∷ again es k

  -- what is shown with fewer items known is the front of what is shown with more
  pub shown-cut : cut_to j h (shown i g x) ≡ shown j h x
  shown-cut = remade take first-of-first

  pub shown-shown : shown j h (shown i g x) ≡ shown j h x
  shown-shown = remade first_items first-again

pub shown-item : (j i g k : ℕ) (x : Table) → j < i → item_of (shown i g x) k j ≡ item_of x k j
shown-item j i g k x h = go x.entries k
  where
    go : (es : List Entry) (n : ℕ) → get_or (get_or (map (entry_with (first_items i)) es) n no_entry).items j [] ≡ get_or (get_or es n no_entry).items j []
    go [] n = refl
    go (e ∷ es) zero = first-there j i e.items h
    go (e ∷ es) (suc n) = go es n

pub shown-port-item : (h i g : ℕ) (x : Table) → h < g → port_item_of (shown i g x) h ≡ port_item_of x h
shown-port-item h i g x b = first-there h g x.port_items b

-- A table and an older edition of it

pub grown-shown : (x y : Table) → table_ok x ≡ true → Grown x y → (j h : ℕ) → j ≤ x.item_count → h ≤ length x.port_items → shown j h y ≡ shown j h x
grown-shown x y ok grown j h a b =
    λ k. record {
      interface = sym grown.interface k;
      port = sym grown.port k;
      width = sym grown.width k;
      item_count = j;
      entries = same x.entries y.entries (table-has x ok).entries grown.entries k;
      pairings = sym grown.pairings k;
      port_items = first-begins h x.port_items y.port_items b grown.port_items k;
    }
  where
    same : (es fs : List Entry) → all (map (entry_ok x.width x.item_count) es) ≡ true → EntriesGrown es fs
        → map (entry_with (first_items j)) fs ≡ map (entry_with (first_items j)) es
    same [] [] e g = refl
    same [] (f ∷ fs) e g = absurd g
    same (v ∷ es) [] e g = absurd g
    same (v ∷ es) (f ∷ fs) e g =
        let t = both_true (entry_ok x.width x.item_count v) (all (map (entry_ok x.width x.item_count) es)) e in
        let u = both_true (eqb (length v.address) x.width) (eqb (length v.items) x.item_count) t.0 in
        let items = first-begins j v.items f.items (omega (arith, eqb-true (length v.items) x.item_count u.1)) g.1.0 in
        λ k. record { address = sym g.0 k; items = items k } ∷ same es fs t.1 g.1.1 k

-- a table with items added behind table-has the layout, if c says how many there are now
pub grown-ok : (x y : Table) → table_ok x ≡ true → Grown x y → all (map (λ e. eqb (length e.items) y.item_count) y.entries) ≡ true → table_ok y ≡ true
unfolding table_ok
grown-ok x y ok grown counted =
    let h = table-has x ok in
    both_hold (ap (λ (l : List ℕ). four_ok (length l)) (sym grown.interface) ∙ h.type)
    (both_hold (ap (λ (l : List ℕ). four_ok (length l)) (sym grown.port) ∙ h.number)
    (both_hold
    (ap₂ (λ (w : ℕ) (l : List (List ℕ)). width_ok w (length y.entries) (length l)) (sym grown.width) (sym grown.pairings)
    ∙ ap (λ (k : ℕ). width_ok x.width k (length x.pairings)) (sym (as_many x.entries y.entries grown.entries))
    ∙ h.wide)
    (both_hold (keep x.entries y.entries grown.entries h.entries counted)
    (both_hold
    (ap₂ (λ (w : ℕ) (l : List (List ℕ)). all (map (λ a. eqb (length a) w) l)) (sym grown.width) (sym grown.pairings) ∙ h.pairings)
    refl))))
  where
    as_many : (es fs : List Entry) → EntriesGrown es fs → length es ≡ length fs
    as_many [] [] g = refl
    as_many [] (f ∷ fs) g = absurd g
    as_many (v ∷ es) [] g = absurd g
    as_many (v ∷ es) (f ∷ fs) g = ap suc (as_many es fs g.1.1)

    keep : (es fs : List Entry) → EntriesGrown es fs → all (map (entry_ok x.width x.item_count) es) ≡ true
        → all (map (λ e. eqb (length e.items) y.item_count) fs) ≡ true → all (map (entry_ok y.width y.item_count) fs) ≡ true
    keep [] [] g e c = refl
    keep [] (f ∷ fs) g e c = absurd g
    keep (v ∷ es) [] g e c = absurd g
    keep (v ∷ es) (f ∷ fs) g e c =
        let t = both_true (entry_ok x.width x.item_count v) (all (map (entry_ok x.width x.item_count) es)) e in
        let u = both_true (eqb (length v.address) x.width) (eqb (length v.items) x.item_count) t.0 in
        let n = both_true (eqb (length f.items) y.item_count) (all (map (λ e. eqb (length e.items) y.item_count) fs)) c in
        let address : eqb (length f.address) y.width ≡ true = ap₂ (λ (l : List ℕ) (w : ℕ). eqb (length l) w) (sym g.0) (sym grown.width) ∙ u.0 in
        both_hold (both_hold address n.0) (keep es fs g.1.1 t.1 n.1)

begins-cut : (c : ℕ) (xs : List (List ℕ)) → Begins (take c xs) xs
begins-cut zero xs = refl
begins-cut (suc c) [] = refl
begins-cut (suc c) (x ∷ xs) = ap (λ (l : List (List ℕ)). x ∷ l) (begins-cut c xs)

pub cut-grown : (c d : ℕ) (y : Table) → table_ok y ≡ true → c ≤ y.item_count
    → (table_ok (cut_to c d y) ≡ true) × Grown (cut_to c d y) y
unfolding table_ok
cut-grown c d y ok a =
    let h = table-has y ok in (
      both_hold h.type
          (both_hold h.number
          (both_hold (ap (λ (k : ℕ). width_ok y.width k (length y.pairings)) (length-map y.entries (entry_with (take c))) ∙ h.wide)
          (both_hold (keep y.entries h.entries) (both_hold h.pairings refl)))),
      record {
        interface = refl;
        port = refl;
        width = refl;
        entries = grown y.entries;
        pairings = refl;
        port_items = begins-cut d y.port_items;
      },
    )
  where
    keep : (es : List Entry) → all (map (entry_ok y.width y.item_count) es) ≡ true → all (map (entry_ok y.width c) (map (entry_with (take c)) es)) ≡ true
    keep [] e = refl
    keep (v ∷ es) e =
        let t = both_true (entry_ok y.width y.item_count v) (all (map (entry_ok y.width y.item_count) es)) e in
        let u = both_true (eqb (length v.address) y.width) (eqb (length v.items) y.item_count) t.0 in
        let many = length-take-le c v.items (omega (arith, a, eqb-true (length v.items) y.item_count u.1)) in
        both_hold (both_hold u.0 (eq-eqb (length (take c v.items)) c many)) (keep es t.1)

    grown : (es : List Entry) → EntriesGrown (map (entry_with (take c)) es) es
    grown [] = tt
    grown (v ∷ es) = (refl, (begins-cut c v.items, grown es))

-- The same of contents

port-items-count : (t : List ℕ) → length (table_from t).port_items ≡ port_item_count t
port-items-count t = each-count item_size item_in (port_item_count t) (drop (port_items_from t) t)

pub grown-fields : (t u : List ℕ) → extension_ok t ≡ true → Grown (table_from t) (table_from u)
    → (j h : ℕ) → j ≤ item_count t → h ≤ port_item_count t → shown j h (table_from u) ≡ shown j h (table_from t)
grown-fields t u ok grown j h a b =
    grown-shown (table_from t) (table_from u) (laid_out t ok).1 grown j h a (omega (arith, b, port-items-count t))

pub as-if-cut : (u : List ℕ) (c d : ℕ) → extension_ok u ≡ true → c ≤ item_count u → d ≤ port_item_count u
    → (extension_ok (laid (cut_to c d (table_from u))) ≡ true)
    × ((j h : ℕ) → j ≤ c → h ≤ d → shown j h (table_from u) ≡ shown j h (table_from (laid (cut_to c d (table_from u)))))
as-if-cut u c d ok a b =
    let y = table_from u in
    let x = cut_to c d y in
    let few : d ≤ length y.port_items = omega (arith, b, port-items-count u) in
    let cut = cut-grown c d y (laid_out u ok).1 a in
    let back = laid-read x cut.0 in (
      back.1,
      λ j h p q. grown-shown x y cut.0 cut.1 j h p (omega (arith, q, length-take-le d y.port_items few)) ∙ ap (shown j h) (sym back.0),
    )

-- and of what the functions answer: two contents that differ by items added behind give the same octets for the items that both have

table_is : (t : List ℕ) → extension_ok t ≡ true → table_of t ≡ table_from t
unfolding table_of
table_is t e = rw e

module _ (t u : List ℕ) (old : extension_ok t ≡ true) (new : extension_ok u ≡ true) (grown : Grown (table_from t) (table_from u)) where
  shows_same : shown (item_count t) (port_item_count t) (table_from u) ≡ shown (item_count t) (port_item_count t) (table_from t)
  shows_same = grown-fields t u old grown (item_count t) (port_item_count t) (omega arith) (omega arith)

  pub item-same : (i j : ℕ) → j < item_count t → text_of u (item_at u i j) ≡ text_of t (item_at t i j)
  item-same i j h =
      (item-answers u i j refl).means
      ∙ ap (λ (x : Table). item_of x i j) (table_is u new)
      ∙ sym (shown-item j (item_count t) (port_item_count t) i (table_from u) h)
      ∙ ap (λ (x : Table). item_of x i j) shows_same
      ∙ shown-item j (item_count t) (port_item_count t) i (table_from t) h
      ∙ ap (λ (x : Table). item_of x i j) (sym (table_is t old))
      ∙ sym (item-answers t i j refl).means

  pub port-item-same : (j : ℕ) → j < port_item_count t → text_of u (port_item_at u j) ≡ text_of t (port_item_at t j)
  port-item-same j h =
      (port-item-answers u j refl).means
      ∙ ap (λ (x : Table). port_item_of x j) (table_is u new)
      ∙ sym (shown-port-item j (item_count t) (port_item_count t) (table_from u) h)
      ∙ ap (λ (x : Table). port_item_of x j) shows_same
      ∙ shown-port-item j (item_count t) (port_item_count t) (table_from t) h
      ∙ ap (λ (x : Table). port_item_of x j) (sym (table_is t old))
      ∙ sym (port-item-answers t j refl).means
