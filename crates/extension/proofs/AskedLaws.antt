-- Laws of what is answered: each part has the octets that stand in the table, and none where there is nothing.
-- A proof of a function that is asked hands its equation to the law of that question.
use Prim.Native.Nat.{ℕ, ◌+◌, ◌*◌, ◌<◌, ◌≤◌}
use mathlib.Core.Path.{◌≡◌, refl, sym, ap, ap₂, subst, ◌∙◌}
use mathlib.Core.List.{List, []}
use mathlib.Core.Bool.{Bool, true, false}
use borrow.Author.Tests.{ltb-true, ltb-false}
use lib.ListN.{take, drop, get_or}
use lib.Seq.{drop-drop}
use lib.Dec.{ltb}
use Rattle.tally.specs.Tests.{pick, both}
use Rattle.text.specs.Part.{part, nowhere, text_of}
use Rattle.text.specs.declared.Part.{Part}
use Rattle.extension.specs.Runs.{span}
use Rattle.extension.specs.Layout.{item_size, item_place, entry_size, width, entry_count, item_count, entries_from, entry_place, port_item_count, pairing_count, pairings_from, pairing_place, port_items_from, extension_ok}
use Rattle.extension.specs.Table.{Entry, item_in, items_in, entry_in, table_from}
use Rattle.extension.specs.Asked.{item_part, address_at, item_at, pairing_at, port_item_at, counts_in, no_counts, counts_of, no_table, table_of, no_entry, address_of, item_of, pairing_of, port_item_of, Answers, CountsAre, Counted}
use Rattle.extension.specs.declared.Counts.{Counts}
use Rattle.extension.proofs.RunLaws.{each_at, each-past, each-count, span-even}
use Rattle.extension.proofs.LayoutLaws.{front-octet}

module _ (t : List ℕ) where
  -- the data of the item j of the c that begin at a place
  item-there : (at c j : ℕ) → j < c → text_of t (item_part t (item_place t at j)) ≡ get_or (items_in c (drop at t)) j []
  item-there at c j h =
      let place = item_place t at j in
      let rest = drop-drop (span item_size j (drop at t)) at t in
      sym (each_at item_size item_in [] j c (drop at t) h
      ∙ ap item_in rest
      ∙ ap₂ (λ (n : ℕ) (l : List ℕ). take n l) (front-octet t place) (drop-drop 1 place t))

  pub entry-there : (i : ℕ) → i < entry_count t → get_or (table_from t).entries i no_entry ≡ entry_in (width t) (item_count t) (drop (entry_place t i) t)
  entry-there i h =
      let f = entry_size (width t) (item_count t) in
      each_at f (entry_in (width t) (item_count t)) no_entry i (entry_count t) (drop (entries_from t) t) h
      ∙ ap (entry_in (width t) (item_count t)) (drop-drop (span f i (drop (entries_from t) t)) (entries_from t) t)

  entry_past : (i : ℕ) → entry_count t ≤ i → get_or (table_from t).entries i no_entry ≡ no_entry
  entry_past i h = each-past (entry_size (width t) (item_count t)) (entry_in (width t) (item_count t)) no_entry i (entry_count t) (drop (entries_from t) t) h

  module _ (i : ℕ) where
    address-means : text_of t (address_at t i) ≡ address_of (table_of t) i
    unfolding address_at table_of
    address-means = go (extension_ok t) (ltb i (entry_count t)) refl
      where
        go : (u v : Bool) → ltb i (entry_count t) ≡ v
            → text_of t (pick (both u v) (part (entry_place t i) (width t)) nowhere) ≡ address_of (pick u (table_from t) no_table) i
        go false v e = refl
        go true false e = sym (ap (λ (x : Entry). x.address) (entry_past i (ltb-false i (entry_count t) e)))
        go true true e = sym (ap (λ (x : Entry). x.address) (entry-there i (ltb-true i (entry_count t) e)))

    pub address-answers : {r : Part} → r ≡ address_at t i → Answers t (address_at t i) (address_of (table_of t) i) r
    address-answers e = record { exact = e; means = ap (text_of t) e ∙ address-means }

    pairing-means : text_of t (pairing_at t i) ≡ pairing_of (table_of t) i
    unfolding pairing_at table_of
    pairing-means = go (extension_ok t) (ltb i (pairing_count t)) refl
      where
        go : (u v : Bool) → ltb i (pairing_count t) ≡ v
            → text_of t (pick (both u v) (part (pairing_place t i) (width t)) nowhere) ≡ pairing_of (pick u (table_from t) no_table) i
        go false v e = refl
        go true false e = sym (each-past (λ l. width t) (take (width t)) [] i (pairing_count t) (drop (pairings_from t) t) (ltb-false i (pairing_count t) e))
        go true true e =
            sym (each_at (λ l. width t) (take (width t)) [] i (pairing_count t) (drop (pairings_from t) t) (ltb-true i (pairing_count t) e)
            ∙ ap (take (width t)) (ap (λ (n : ℕ). drop n (drop (pairings_from t) t)) (span-even (width t) i (drop (pairings_from t) t)) ∙ drop-drop (i * width t) (pairings_from t) t))

    pub pairing-answers : {r : Part} → r ≡ pairing_at t i → Answers t (pairing_at t i) (pairing_of (table_of t) i) r
    pairing-answers e = record { exact = e; means = ap (text_of t) e ∙ pairing-means }

    port-item-means : text_of t (port_item_at t i) ≡ port_item_of (table_of t) i
    unfolding port_item_at table_of
    port-item-means = go (extension_ok t) (ltb i (port_item_count t)) refl
      where
        go : (u v : Bool) → ltb i (port_item_count t) ≡ v
            → text_of t (pick (both u v) (item_part t (item_place t (port_items_from t) i)) nowhere) ≡ port_item_of (pick u (table_from t) no_table) i
        go false v e = refl
        go true false e = sym (each-past item_size item_in [] i (port_item_count t) (drop (port_items_from t) t) (ltb-false i (port_item_count t) e))
        go true true e = item-there (port_items_from t) (port_item_count t) i (ltb-true i (port_item_count t) e)

    pub port-item-answers : {r : Part} → r ≡ port_item_at t i → Answers t (port_item_at t i) (port_item_of (table_of t) i) r
    port-item-answers e = record { exact = e; means = ap (text_of t) e ∙ port-item-means }

    module _ (j : ℕ) where
      items-there : i < entry_count t → (get_or (table_from t).entries i no_entry).items ≡ items_in (item_count t) (drop (entry_place t i + width t) t)
      items-there h = ap (λ (x : Entry). x.items) (entry-there i h) ∙ ap (items_in (item_count t)) (drop-drop (width t) (entry_place t i) t)

      item-means : text_of t (item_at t i j) ≡ item_of (table_of t) i j
      unfolding item_at table_of
      item-means = go (extension_ok t) (ltb i (entry_count t)) refl (ltb j (item_count t)) refl
        where
          go : (u v : Bool) → ltb i (entry_count t) ≡ v → (w : Bool) → ltb j (item_count t) ≡ w
              → text_of t (pick (both u (both v (both w true))) (item_part t (item_place t (entry_place t i + width t) j)) nowhere) ≡ item_of (pick u (table_from t) no_table) i j
          go false v e w q = refl
          go true false e w q = sym (ap (λ (x : Entry). get_or x.items j []) (entry_past i (ltb-false i (entry_count t) e)))
          go true true e false q =
              sym (ap (λ (l : List (List ℕ)). get_or l j []) (items-there (ltb-true i (entry_count t) e))
              ∙ each-past item_size item_in [] j (item_count t) (drop (entry_place t i + width t) t) (ltb-false j (item_count t) q))
          go true true e true q =
              item-there (entry_place t i + width t) (item_count t) j (ltb-true j (item_count t) q)
              ∙ sym (ap (λ (l : List (List ℕ)). get_or l j []) (items-there (ltb-true i (entry_count t) e)))

      pub item-answers : {r : Part} → r ≡ item_at t i j → Answers t (item_at t i j) (item_of (table_of t) i j) r
      item-answers e = record { exact = e; means = ap (text_of t) e ∙ item-means }

  -- the counts are those of the table
  counts-mean : CountsAre t (table_of t) (counts_of t)
  unfolding counts_of table_of
  counts-mean = go (extension_ok t)
    where
      go : (u : Bool) → CountsAre t (pick u (table_from t) no_table) (pick u (counts_in t) no_counts)
      go true =
          record {
            interface = refl;
            port = refl;
            width = refl;
            addresses = sym (each-count (entry_size (width t) (item_count t)) (entry_in (width t) (item_count t)) (entry_count t) (drop (entries_from t) t));
            items = refl;
            pairings = sym (each-count (λ l. width t) (take (width t)) (pairing_count t) (drop (pairings_from t) t));
            port_items = sym (each-count item_size item_in (port_item_count t) (drop (port_items_from t) t));
          }
      go false =
          record { interface = refl; port = refl; width = refl; addresses = refl; items = refl; pairings = refl; port_items = refl }

  pub counts-answer : {r : Counts} → r ≡ counts_of t → Counted t r
  counts-answer e = record { exact = e; means = subst (CountsAre t (table_of t)) (sym e) counts-mean }
