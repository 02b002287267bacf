-- What extension link information says (T11), as a table of lists of octets, and the octets in which a table is laid out.
-- `laid_out` and `laid-read` of proofs/TableLaws.antt: well formed are exactly the tables that keep the layout, laid out; each in one way.
use Rattle.std.specs.Prelude.{ℕ, ◌+◌, List, [], ◌∷◌, ◌++◌, map, Bool, length, take, drop, get_or, eqb}
use Rattle.tally.specs.Tests.{both, all}
use Rattle.links.specs.Link.{type_count, number_count, four_ok}
use Rattle.extension.specs.Runs.{each}
use Rattle.extension.specs.Layout.{item_size, entry_size, width, entry_count, item_count, entries_from, port_item_count, pairing_count, pairings_from, port_items_from, width_ok}

pub record Entry : Type 0 where
  pub address : List ℕ
  pub items : List (List ℕ)

-- p and c are said even where there is no address
pub record Table : Type 0 where
  pub interface : List ℕ
  pub port : List ℕ
  pub width : ℕ
  pub item_count : ℕ
  pub entries : List Entry
  pub pairings : List (List ℕ)
  pub port_items : List (List ℕ)

-- From the content to the table

-- the data of the item at the front of l
abbrev pub item_in : List ℕ → List ℕ
item_in l = take (get_or l 0 0) (drop 1 l)

abbrev pub items_in : ℕ → List ℕ → List (List ℕ)
items_in c l = each item_size item_in c l

abbrev pub entry_in : ℕ → ℕ → List ℕ → Entry
entry_in p c l = record { address = take p l; items = items_in c (drop p l) }

abbrev pub entries_in : ℕ → ℕ → ℕ → List ℕ → List Entry
entries_in p c k l = each (entry_size p c) (entry_in p c) k l

abbrev pub table_from : List ℕ → Table
table_from t =
    record {
      interface = take (type_count 0 t) (drop 1 t);
      port = take (number_count 0 t) (drop (2 + type_count 0 t) t);
      width = width t;
      item_count = item_count t;
      entries = entries_in (width t) (item_count t) (entry_count t) (drop (entries_from t) t);
      pairings = each (λ l. width t) (take (width t)) (pairing_count t) (drop (pairings_from t) t);
      port_items = items_in (port_item_count t) (drop (port_items_from t) t);
    }

-- From the table to the content

unfoldable pub joined : List (List ℕ) → List ℕ
joined [] = []
joined (x ∷ xs) = x ++ joined xs

abbrev pub item_laid : List ℕ → List ℕ
item_laid x = length x ∷ x

abbrev pub items_laid : List (List ℕ) → List ℕ
items_laid xs = joined (map item_laid xs)

abbrev pub entry_laid : Entry → List ℕ
entry_laid e = e.address ++ items_laid e.items

abbrev pub laid : Table → List ℕ
laid x =
    item_laid x.interface
    ++ (item_laid x.port
    ++ (x.width ∷ length x.entries ∷ x.item_count
    ∷ (joined (map entry_laid x.entries)
    ++ (length x.port_items ∷ length x.pairings ∷ (joined x.pairings ++ items_laid x.port_items)))))

-- the tables that keep the layout: every address has p octets, and every address has c items
abbrev pub entry_ok : ℕ → ℕ → Entry → Bool
entry_ok p c e = both (eqb (length e.address) p) (eqb (length e.items) c)

unfoldable pub table_ok : Table → Bool
table_ok x =
    all (four_ok (length x.interface)
    ∷ four_ok (length x.port)
    ∷ width_ok x.width (length x.entries) (length x.pairings)
    ∷ all (map (entry_ok x.width x.item_count) x.entries)
    ∷ all (map (λ a. eqb (length a) x.width) x.pairings)
    ∷ [])
