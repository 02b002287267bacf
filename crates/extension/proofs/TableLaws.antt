-- Laws of the table (T11): a well formed content is the table that it says, laid out, and a table that table-has the layout is read back.
-- `names_table` says the same of the addresses: a content names one exactly if it stands in the table (A4).
use Prim.Native.Nat.{ℕ, suc, ◌+◌, ◌*◌, ◌<◌, ◌≤◌}
use mathlib.Core.Path.{◌≡◌, refl, sym, ap, ap₂, ◌∙◌, subst}
use mathlib.Core.List.{List, [], ◌∷◌, ◌++◌, map, map-id, append-nil, append_assoc}
use mathlib.Core.Bool.{Bool, true, false}
use native.Mathlib.Omega.{arith}
use borrow.Author.Tests.{eqb-true, eq-eqb}
use lib.ListN.{length, take, drop, get_or, length-append, length-drop, take-append-drop}
use lib.Seq.{drop-append_seam, get_or-drop, take_at, drop_at, take-add, drop-drop, take_all, length-take-le}
use lib.Dec.{eqb}
use Rattle.tally.specs.Tests.{both, all}
use Rattle.tally.proofs.TestsLaws.{both_true, held, both_hold}
use Rattle.tally.proofs.RangesLaws.{some_same}
use Rattle.tally.specs.Ranges.{some_below}
use Rattle.octets.specs.Address.{six_at, same_octets}
use Rattle.octets.proofs.PartLaws.{octet-then}
use Rattle.octets.proofs.AddressLaws.{six-there}
use Rattle.links.specs.Link.{type_count, number_count, four_ok}
use Rattle.extension.specs.Runs.{span, each}
use Rattle.extension.specs.Layout.{item_size, item_place, entry_size, width_place, width, entry_count, item_count, entries_from, entry_place, port_from, port_item_count, pairing_count, pairings_from, port_items_from, width_ok, end_ok, extension_ok, extension_names}
use Rattle.extension.specs.Table.{Entry, Table, item_in, items_in, entry_in, entries_in, table_from, joined, item_laid, items_laid, entry_laid, laid, entry_ok, table_ok}
use Rattle.extension.specs.Asked.{address_of, table_names}
use Rattle.extension.proofs.AskedLaws.{entry-there}
use Rattle.extension.proofs.RunLaws.{span_more, span-le, Back, span-joined, each-joined, joined-each, each_keeps, each-count, span-even}
use Rattle.extension.proofs.LayoutLaws.{front-octet}

-- Items

-- there is no rule for an item
free : (xs : List (List ℕ)) → all (map (λ x. true) xs) ≡ true
free [] = refl
free (x ∷ xs) = free xs

item_back : (x : List ℕ) → ◌≡◌ {A = Bool} true true → (rest : List ℕ) → Back item_size item_in item_laid x rest
item_back x h rest = record { size = omega arith; reads = take_at x rest (length x) refl }

items-span : (xs : List (List ℕ)) (rest : List ℕ) → span item_size (length xs) (items_laid xs ++ rest) ≡ length (items_laid xs)
items-span xs rest = span-joined item_size item_in item_laid (λ x. true) item_back xs (free xs) rest

items-read : (xs : List (List ℕ)) (rest : List ℕ) → items_in (length xs) (items_laid xs ++ rest) ≡ xs
items-read xs rest = each-joined item_size item_in item_laid (λ x. true) item_back xs (free xs) rest

item-laid : (l : List ℕ) → item_size l ≤ length l → item_laid (item_in l) ≡ take (item_size l) l
item-laid [] h = absurd (omega arith)
item-laid (n ∷ l) h =
    ap (λ (m : ℕ). m ∷ take n l) (length-take-le n l (omega arith)) ∙ ap (λ (m : ℕ). take m (n ∷ l)) (let e : suc n ≡ 1 + n = omega arith in e)

items-laid : (c : ℕ) (l : List ℕ) → span item_size c l ≤ length l → items_laid (items_in c l) ≡ take (span item_size c l) l
items-laid c l h = joined-each item_size item_in item_laid item-laid c l h

-- Entries

module _ (p c : ℕ) where
  entry-back : (x : Entry) → entry_ok p c x ≡ true → (rest : List ℕ) → Back (entry_size p c) (entry_in p c) entry_laid x rest
  entry-back x h rest =
      let ok = both_true (eqb (length x.address) p) (eqb (length x.items) c) h in
      let wide = eqb-true (length x.address) p ok.0 in
      let many = eqb-true (length x.items) c ok.1 in
      let whole = append_assoc x.address (items_laid x.items) rest in
      let behind : drop p (entry_laid x ++ rest) ≡ items_laid x.items ++ rest =
      ap (drop p) whole ∙ drop_at x.address (items_laid x.items ++ rest) p wide
      in
      let spans : span item_size c (drop p (entry_laid x ++ rest)) ≡ length (items_laid x.items) =
      ap₂ (λ (n : ℕ) (l : List ℕ). span item_size n l) (sym many) behind ∙ items-span x.items rest
      in
      let front : take p (entry_laid x ++ rest) ≡ x.address = ap (take p) whole ∙ take_at x.address (items_laid x.items ++ rest) p wide in
      let items : items_in c (drop p (entry_laid x ++ rest)) ≡ x.items =
      ap₂ (λ (n : ℕ) (l : List ℕ). items_in n l) (sym many) behind ∙ items-read x.items rest
      in
      record {
        size = omega (arith, spans, wide, length-append x.address (items_laid x.items));
        reads = λ i. record { address = front i; items = items i };
      }

  entry-laid : (l : List ℕ) → entry_size p c l ≤ length l → entry_laid (entry_in p c l) ≡ take (entry_size p c l) l
  entry-laid l h =
      ap (λ (y : List ℕ). take p l ++ y) (items-laid c (drop p l) (omega (arith, length-drop p l))) ∙ sym (take-add p (span item_size c (drop p l)) l)

  entry-keeps : (l : List ℕ) → entry_size p c l ≤ length l → entry_ok p c (entry_in p c l) ≡ true
  entry-keeps l h =
      both_hold (eq-eqb (length (take p l)) p (length-take-le p l (omega arith)))
      (eq-eqb (length (items_in c (drop p l))) c (each-count item_size item_in c (drop p l)))

  module _ (es : List Entry) (keep : all (map (entry_ok p c) es) ≡ true) (rest : List ℕ) where
    entries-span : span (entry_size p c) (length es) (joined (map entry_laid es) ++ rest) ≡ length (joined (map entry_laid es))
    entries-span = span-joined (entry_size p c) (entry_in p c) entry_laid (entry_ok p c) entry-back es keep rest

    entries-read : entries_in p c (length es) (joined (map entry_laid es) ++ rest) ≡ es
    entries-read = each-joined (entry_size p c) (entry_in p c) entry_laid (entry_ok p c) entry-back es keep rest

  module _ (k : ℕ) (l : List ℕ) (there : span (entry_size p c) k l ≤ length l) where
    entries-laid : joined (map entry_laid (entries_in p c k l)) ≡ take (span (entry_size p c) k l) l
    entries-laid = joined-each (entry_size p c) (entry_in p c) entry_laid entry-laid k l there

    entries-keep : all (map (entry_ok p c) (entries_in p c k l)) ≡ true
    entries-keep = each_keeps (entry_size p c) (entry_in p c) (entry_ok p c) entry-keeps k l there

-- Pairing addresses

module _ (p : ℕ) where
  pairing-back : (x : List ℕ) → eqb (length x) p ≡ true → (rest : List ℕ) → Back (λ l. p) (take p) (λ a. a) x rest
  pairing-back x h rest = let wide = eqb-true (length x) p h in record { size = sym wide; reads = take_at x rest p wide }

  pairing-keeps : (l : List ℕ) → p ≤ length l → eqb (length (take p l)) p ≡ true
  pairing-keeps l h = eq-eqb (length (take p l)) p (length-take-le p l h)

  module _ (xs : List (List ℕ)) (keep : all (map (λ a. eqb (length a) p) xs) ≡ true) where
    pairings-size : length (joined xs) ≡ length xs * p
    pairings-size =
        ap (λ (l : List (List ℕ)). length (joined l)) (sym (map-id xs))
        ∙ sym (span-joined (λ l. p) (take p) (λ a. a) (λ a. eqb (length a) p) pairing-back xs keep [])
        ∙ span-even p (length xs) (joined (map (λ a. a) xs) ++ [])

    pairings-read : (rest : List ℕ) → each (λ l. p) (take p) (length xs) (joined xs ++ rest) ≡ xs
    pairings-read rest =
        ap (λ (l : List (List ℕ)). each (λ x. p) (take p) (length xs) (joined l ++ rest)) (sym (map-id xs))
        ∙ each-joined (λ l. p) (take p) (λ a. a) (λ a. eqb (length a) p) pairing-back xs keep rest

  module _ (k : ℕ) (l : List ℕ) (there : k * p ≤ length l) where
    pairings-laid : joined (each (λ x. p) (take p) k l) ≡ take (k * p) l
    pairings-laid =
        ap joined (sym (map-id (each (λ x. p) (take p) k l)))
        ∙ joined-each (λ x. p) (take p) (λ a. a) (λ x b. refl) k l (omega (arith, span-even p k l, there))
        ∙ ap (λ (n : ℕ). take n l) (span-even p k l)

    pairings-keep : all (map (λ a. eqb (length a) p) (each (λ x. p) (take p) k l)) ≡ true
    pairings-keep = each_keeps (λ x. p) (take p) (λ a. eqb (length a) p) pairing-keeps k l (omega (arith, span-even p k l, there))

-- A table laid out, from d on and from p on

abbrev tail_laid : Table → List ℕ
tail_laid x = length x.port_items ∷ length x.pairings ∷ (joined x.pairings ++ items_laid x.port_items)

abbrev head_laid : Table → List ℕ
head_laid x = x.width ∷ length x.entries ∷ x.item_count ∷ (joined (map entry_laid x.entries) ++ tail_laid x)

-- From a content to its table and back

-- what a well formed content table-has; that its end is there puts every place before it
record Fits (t : List ℕ) : Type 0 where
  type : four_ok (type_count 0 t) ≡ true
  number : four_ok (number_count 0 t) ≡ true
  wide : width_ok (width t) (entry_count t) (pairing_count t) ≡ true
  end : length t ≡ item_place t (port_items_from t) (port_item_count t)

fits : (t : List ℕ) → extension_ok t ≡ true → Fits t
unfolding extension_ok
fits t ok =
    let h = held (four_ok (type_count 0 t) ∷ four_ok (number_count 0 t) ∷ width_ok (width t) (entry_count t) (pairing_count t) ∷ end_ok t ∷ []) ok in
    record {
      type = h.0;
      number = h.1.0;
      wide = h.1.1.0;
      end = eqb-true (length t) (item_place t (port_items_from t) (port_item_count t)) h.1.1.1.0;
    }

module _ (t : List ℕ) where
  -- octets that stand at a place, in front of all that is behind them
  step : (from size next : ℕ) {a b : List ℕ} → from + size ≡ next → a ≡ take size (drop from t) → b ≡ drop next t → a ++ b ≡ drop from t
  step from size next e p q =
      ap₂ (λ (x y : List ℕ). x ++ y) p (q ∙ ap (λ (n : ℕ). drop n t) (sym e) ∙ sym (drop-drop size from t)) ∙ take-append-drop size (drop from t)

  module _ (fit : Fits t) where
    port-items-there : items_laid (table_from t).port_items ≡ drop (port_items_from t) t
    port-items-there =
        let l = drop (port_items_from t) t in
        let whole : length l ≡ span item_size (port_item_count t) l = omega (arith, fit.end, length-drop (port_items_from t) t) in
        items-laid (port_item_count t) l (omega (arith, whole)) ∙ take_all (span item_size (port_item_count t) l) l (omega (arith, whole))

    tail-there : tail_laid (table_from t) ≡ drop (port_from t) t
    tail-there =
        let p = width t in
        let l = drop (pairings_from t) t in
        let there = pairings-laid p (pairing_count t) l (omega (arith, fit.end, length-drop (pairings_from t) t)) in
        ap₂ (λ (x y : ℕ). x ∷ y ∷ (joined (table_from t).pairings ++ items_laid (table_from t).port_items))
        (each-count item_size item_in (port_item_count t) (drop (port_items_from t) t))
        (each-count (λ x. p) (take p) (pairing_count t) l)
        ∙ octet-then t (port_from t) (port_from t + 1) (omega (arith, fit.end)) (omega arith)
        (octet-then t (port_from t + 1) (pairings_from t) (omega (arith, fit.end)) (omega arith)
        (step (pairings_from t) (pairing_count t * p) (port_items_from t) refl there port-items-there))

    head-there : head_laid (table_from t) ≡ drop (width_place t) t
    head-there =
        let p = width t in
        let c = item_count t in
        let at = width_place t in
        let l = drop (entries_from t) t in
        let size = span (entry_size p c) (entry_count t) l in
        let there = entries-laid p c (entry_count t) l (omega (arith, fit.end, length-drop (entries_from t) t)) in
        ap (λ (x : ℕ). p ∷ x ∷ c ∷ (joined (map entry_laid (table_from t).entries) ++ tail_laid (table_from t)))
        (each-count (entry_size p c) (entry_in p c) (entry_count t) l)
        ∙ octet-then t at (at + 1) (omega (arith, fit.end)) (omega arith)
        (octet-then t (at + 1) (at + 2) (omega (arith, fit.end)) (omega arith)
        (octet-then t (at + 2) (entries_from t) (omega (arith, fit.end)) (omega arith)
        (step (entries_from t) size (port_from t) refl there tail-there)))

    all_there : laid (table_from t) ≡ t
    all_there =
        let n = type_count 0 t in
        let m = number_count 0 t in
        let number =
        item-laid (m ∷ drop (2 + n) t) (omega (arith, fit.end, length-drop (2 + n) t))
        ∙ ap (take (1 + m)) (octet-then t (1 + n) (2 + n) (omega (arith, fit.end)) (omega arith) refl)
        in
        step 0 (1 + n) (1 + n) (omega arith) (item-laid t (omega (arith, fit.end))) (step (1 + n) (1 + m) (width_place t) (omega arith) number head-there)

    table-keeps : table_ok (table_from t) ≡ true
    unfolding table_ok
    table-keeps =
        let n = type_count 0 t in
        let m = number_count 0 t in
        let p = width t in
        let c = item_count t in
        let l = drop (entries_from t) t in
        let r = drop (pairings_from t) t in
        let type = length-take-le n (drop 1 t) (omega (arith, fit.end, length-drop 1 t)) in
        let number = length-take-le m (drop (2 + n) t) (omega (arith, fit.end, length-drop (2 + n) t)) in
        let addresses = each-count (entry_size p c) (entry_in p c) (entry_count t) l in
        let pairings = each-count (λ x. p) (take p) (pairing_count t) r in
        both_hold (ap four_ok type ∙ fit.type)
        (both_hold (ap four_ok number ∙ fit.number)
        (both_hold (ap₂ (width_ok p) addresses pairings ∙ fit.wide)
        (both_hold (entries-keep p c (entry_count t) l (omega (arith, fit.end, length-drop (entries_from t) t)))
        (both_hold (pairings-keep p (pairing_count t) r (omega (arith, fit.end, length-drop (pairings_from t) t))) refl))))

pub laid_out : (t : List ℕ) → extension_ok t ≡ true → (laid (table_from t) ≡ t) × (table_ok (table_from t) ≡ true)
laid_out t ok = (all_there t (fits t ok), table-keeps t (fits t ok))

-- From a table to its content and back

-- behind a place of t is l and nothing else
record Behind (t : List ℕ) (at : ℕ) (l : List ℕ) : Type 0 where
  rest : drop at t ≡ l
  size : length t ≡ at + length l

module _ {t : List ℕ} {at : ℕ} where
  past : (next : ℕ) (a b : List ℕ) → at + length a ≡ next → Behind t at (a ++ b) → Behind t next b
  past next a b e h =
      record {
        rest = ap (λ (n : ℕ). drop n t) (sym e) ∙ sym (drop-drop (length a) at t) ∙ ap (drop (length a)) h.rest ∙ drop-append_seam a b;
        size = omega (arith, e, h.size, length-append a b);
      }

  takes : (n : ℕ) (a b : List ℕ) → length a ≡ n → Behind t at (a ++ b) → take n (drop at t) ≡ a
  takes n a b e h = ap (take n) h.rest ∙ take_at a b n e

  reads_at : (i : ℕ) {l : List ℕ} → Behind t at l → get_or t (at + i) 0 ≡ get_or l i 0
  reads_at i h = sym (get_or-drop at t i 0) ∙ ap (λ (l : List ℕ). get_or l i 0) h.rest

  reads_here : {l : List ℕ} → Behind t at l → get_or t at 0 ≡ get_or l 0 0
  reads_here h = sym (front-octet t at) ∙ ap (λ (l : List ℕ). get_or l 0 0) h.rest

module _ (x : Table) (t : List ℕ) (start : Behind t 0 (laid x)) where
  type-is : type_count 0 t ≡ length x.interface
  type-is = reads_here start

  port-behind : Behind t (1 + type_count 0 t) (item_laid x.port ++ head_laid x)
  port-behind = past (1 + type_count 0 t) (item_laid x.interface) (item_laid x.port ++ head_laid x) (omega (arith, type-is)) start

  number_is : number_count 0 t ≡ length x.port
  number_is = reads_here port-behind

  head-behind : Behind t (width_place t) (head_laid x)
  head-behind = past (width_place t) (item_laid x.port) (head_laid x) (omega (arith, number_is)) port-behind

  width_is : width t ≡ x.width
  width_is = reads_here head-behind

  addresses-are : entry_count t ≡ length x.entries
  addresses-are = reads_at 1 head-behind

  items-are : item_count t ≡ x.item_count
  items-are = reads_at 2 head-behind

  entries-behind : Behind t (entries_from t) (joined (map entry_laid x.entries) ++ tail_laid x)
  entries-behind =
      past (entries_from t) (x.width ∷ length x.entries ∷ x.item_count ∷ []) (joined (map entry_laid x.entries) ++ tail_laid x) (omega arith) head-behind

  module _ (keep : all (map (entry_ok x.width x.item_count) x.entries) ≡ true) where
    entries-back : (table_from t).entries ≡ x.entries
    entries-back =
        (λ i. entries_in (width_is i) (items-are i) (addresses-are i) (entries-behind.rest i)) ∙ entries-read x.width x.item_count x.entries keep (tail_laid x)

    tail-behind : Behind t (port_from t) (tail_laid x)
    tail-behind =
        let spans : span (entry_size (width t) (item_count t)) (entry_count t) (drop (entries_from t) t) ≡ length (joined (map entry_laid x.entries)) =
        (λ i. span (entry_size (width_is i) (items-are i)) (addresses-are i) (entries-behind.rest i)) ∙ entries-span x.width x.item_count x.entries keep (tail_laid x)
        in
        past (port_from t) (joined (map entry_laid x.entries)) (tail_laid x) (ap (λ (n : ℕ). entries_from t + n) (sym spans)) entries-behind

    port-items-are : port_item_count t ≡ length x.port_items
    port-items-are = reads_here tail-behind

    pairings-are : pairing_count t ≡ length x.pairings
    pairings-are = reads_at 1 tail-behind

    pairings-behind : Behind t (pairings_from t) (joined x.pairings ++ items_laid x.port_items)
    pairings-behind =
        past (pairings_from t) (length x.port_items ∷ length x.pairings ∷ []) (joined x.pairings ++ items_laid x.port_items) (omega arith) tail-behind

    module _ (wide : all (map (λ a. eqb (length a) x.width) x.pairings) ≡ true) where
      pairings-back : (table_from t).pairings ≡ x.pairings
      pairings-back =
          (λ i. each (λ l. width_is i) (take (width_is i)) (pairings-are i) (pairings-behind.rest i)) ∙ pairings-read x.width x.pairings wide (items_laid x.port_items)

      items-behind : Behind t (port_items_from t) (items_laid x.port_items ++ [])
      items-behind =
          let size = pairings-size x.width x.pairings wide ∙ ap₂ (λ (q p : ℕ). q * p) (sym pairings-are) (sym width_is) in
          subst (Behind t (port_items_from t)) (sym (append-nil (items_laid x.port_items)))
          (past (port_items_from t) (joined x.pairings) (items_laid x.port_items) (ap (λ (n : ℕ). pairings_from t + n) size) pairings-behind)

      end_is : length t ≡ item_place t (port_items_from t) (port_item_count t)
      end_is =
          let spans : span item_size (port_item_count t) (drop (port_items_from t) t) ≡ length (items_laid x.port_items) =
          ap₂ (λ (n : ℕ) (l : List ℕ). span item_size n l) port-items-are items-behind.rest ∙ items-span x.port_items []
          in
          omega (arith, spans, items-behind.size, length-append (items_laid x.port_items) [])

      table-back : table_from t ≡ x
      table-back =
          let interface : (table_from t).interface ≡ x.interface =
          let h = past 1 (length x.interface ∷ []) (x.interface ++ (item_laid x.port ++ head_laid x)) refl start in
          takes (type_count 0 t) x.interface (item_laid x.port ++ head_laid x) (sym type-is) h
          in
          let port : (table_from t).port ≡ x.port =
          let h = past (2 + type_count 0 t) (length x.port ∷ []) (x.port ++ head_laid x) (omega arith) port-behind in
          takes (number_count 0 t) x.port (head_laid x) (sym number_is) h
          in
          let port-items = ap₂ (λ (n : ℕ) (l : List ℕ). items_in n l) port-items-are items-behind.rest ∙ items-read x.port_items [] in
          λ i. record {
            interface = interface i;
            port = port i;
            width = width_is i;
            item_count = items-are i;
            entries = entries-back i;
            pairings = pairings-back i;
            port_items = port-items i;
          }

-- what a table that table-has the layout table-has
pub record TableHas (x : Table) : Type 0 where
  pub type : four_ok (length x.interface) ≡ true
  pub number : four_ok (length x.port) ≡ true
  pub wide : width_ok x.width (length x.entries) (length x.pairings) ≡ true
  pub entries : all (map (entry_ok x.width x.item_count) x.entries) ≡ true
  pub pairings : all (map (λ a. eqb (length a) x.width) x.pairings) ≡ true

pub table-has : (x : Table) → table_ok x ≡ true → TableHas x
unfolding table_ok
table-has x ok =
    let h =
    held
    (four_ok (length x.interface)
    ∷ four_ok (length x.port)
    ∷ width_ok x.width (length x.entries) (length x.pairings)
    ∷ all (map (entry_ok x.width x.item_count) x.entries)
    ∷ all (map (λ a. eqb (length a) x.width) x.pairings)
    ∷ [])
    ok
    in
    record { type = h.0; number = h.1.0; wide = h.1.1.0; entries = h.1.1.1.0; pairings = h.1.1.1.1.0 }

pub laid-read : (x : Table) → table_ok x ≡ true → (table_from (laid x) ≡ x) × (extension_ok (laid x) ≡ true)
unfolding extension_ok
laid-read x ok =
    let t = laid x in
    let start : Behind t 0 t = record { rest = refl; size = omega arith } in
    let h = table-has x ok in (
      table-back x t start h.entries h.pairings,
      both_hold (ap four_ok (type-is x t start) ∙ h.type)
          (both_hold (ap four_ok (number_is x t start) ∙ h.number)
          (both_hold ((λ i. width_ok (width_is x t start i) (addresses-are x t start i) (pairings-are x t start h.entries i)) ∙ h.wide)
          (both_hold (eq-eqb (length t) (item_place t (port_items_from t) (port_item_count t)) (end_is x t start h.entries h.pairings)) refl))),
    )

-- The addresses that a content names

address-there : (t : List ℕ) → extension_ok t ≡ true → width t ≡ 6 → (i : ℕ) → i < entry_count t → six_at t (entry_place t i) ≡ address_of (table_from t) i
address-there t ok six i h =
    let f = entry_size (width t) (item_count t) in
    let l = drop (entries_from t) t in
    six-there t (entry_place t i) (omega (arith, (fits t ok).end, six, span_more f i l, span-le f (i + 1) (entry_count t) l (omega arith)))
    ∙ ap (λ (n : ℕ). take n (drop (entry_place t i) t)) (sym six)
    ∙ sym (ap (λ (x : Entry). x.address) (entry-there t i h))

pub names_table : (t a : List ℕ) → extension_ok t ≡ true
    → extension_names t a ≡ table_names (table_from t) a
unfolding extension_names
names_table t a ok = go (eqb (width t) 6) refl
  where
    go : (six : Bool) → eqb (width t) 6 ≡ six
        → both six (some_below (λ i. same_octets (six_at t (entry_place t i)) a) (entry_count t))
        ≡ both six (some_below (λ i. same_octets (address_of (table_from t) i) a) (length (table_from t).entries))
    go true e =
        some_same (λ i. same_octets (six_at t (entry_place t i)) a) (λ i. same_octets (address_of (table_from t) i) a) (entry_count t)
        (λ i h. ap (λ (x : List ℕ). same_octets x a) (address-there t ok (eqb-true (width t) 6 e) i h))
        ∙ ap (some_below (λ i. same_octets (address_of (table_from t) i) a))
        (sym (each-count (entry_size (width t) (item_count t)) (entry_in (width t) (item_count t)) (entry_count t) (drop (entries_from t) t)))
    go false e = refl
