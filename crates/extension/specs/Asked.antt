-- What is answered where the content t of extension link information is asked (A6): parts of t, and numbers.
-- Of what is not well formed, and of a number that there is not, the part is empty.
use Rattle.std.specs.Prelude.{ℕ, ◌+◌, ◌≡◌, List, [], ◌∷◌, Bool, length, get_or, ltb, eqb}
use Rattle.tally.specs.Tests.{pick, both, all}
use Rattle.tally.specs.Ranges.{some_below}
use Rattle.octets.specs.Address.{same_octets}
use Rattle.text.specs.Part.{part, nowhere, text_of}
use Rattle.text.specs.declared.Part.{Part}
use Rattle.links.specs.Link.{type_count, number_count}
use Rattle.extension.specs.Layout.{item_place, width, entry_count, item_count, entries_from, entry_place, port_item_count, pairing_count, pairings_from, pairing_place, port_items_from, extension_ok}
use Rattle.extension.specs.Table.{Entry, Table, table_from}
use Rattle.extension.specs.declared.Counts.{Counts}
use Rattle.extension.specs.declared.Opening.{Opening}
use Rattle.extension.specs.declared.Closing.{Closing}

-- where the entries begin, with p, k and c; where the pairing addresses begin, with d and q
abbrev pub opening_of : List ℕ → Opening
opening_of t = record { at = entries_from t; width = width t; addresses = entry_count t; items = item_count t }

abbrev pub closing_of : List ℕ → Closing
closing_of t = record { at = pairings_from t; portitems = port_item_count t; pairings = pairing_count t }

-- the data of the item at a place
abbrev pub item_part : List ℕ → ℕ → Part
item_part t at = part (at + 1) (get_or t at 0)

unfoldable pub address_at : List ℕ → ℕ → Part
address_at t i = pick (both (extension_ok t) (ltb i (entry_count t))) (part (entry_place t i) (width t)) nowhere

unfoldable pub item_at : List ℕ → ℕ → ℕ → Part
item_at t i j =
    pick (all (extension_ok t ∷ ltb i (entry_count t) ∷ ltb j (item_count t) ∷ [])) (item_part t (item_place t (entry_place t i + width t) j)) nowhere

unfoldable pub pairing_at : List ℕ → ℕ → Part
pairing_at t i = pick (both (extension_ok t) (ltb i (pairing_count t))) (part (pairing_place t i) (width t)) nowhere

unfoldable pub port_item_at : List ℕ → ℕ → Part
port_item_at t j = pick (both (extension_ok t) (ltb j (port_item_count t))) (item_part t (item_place t (port_items_from t) j)) nowhere

-- by n and m, p, k and c, d and q
abbrev pub counts_by : ℕ → ℕ → Opening → Closing → Counts
counts_by n m h s =
    record {
      interface = part 1 n;
      port = part (2 + n) m;
      width = h.width;
      addresses = h.addresses;
      items = h.items;
      pairings = s.pairings;
      portitems = s.portitems;
    }

abbrev pub counts_in : List ℕ → Counts
counts_in t = counts_by (type_count 0 t) (number_count 0 t) (opening_of t) (closing_of t)

abbrev pub no_counts : Counts
no_counts = record { interface = nowhere; port = nowhere; width = 0; addresses = 0; items = 0; pairings = 0; portitems = 0 }

unfoldable pub counts_of : List ℕ → Counts
counts_of t = pick (extension_ok t) (counts_in t) no_counts

-- What the answers mean: what stands in the table, and no octets where nothing does

abbrev pub no_table : Table
no_table = record { interface = []; port = []; width = 0; item_count = 0; entries = []; pairings = []; port_items = [] }

unfoldable pub table_of : List ℕ → Table
table_of t = pick (extension_ok t) (table_from t) no_table

abbrev pub no_entry : Entry
no_entry = record { address = []; items = [] }

abbrev pub address_of : Table → ℕ → List ℕ
address_of x i = (get_or x.entries i no_entry).address

abbrev pub item_of : Table → ℕ → ℕ → List ℕ
item_of x i j = get_or (get_or x.entries i no_entry).items j []

abbrev pub pairing_of : Table → ℕ → List ℕ
pairing_of x i = get_or x.pairings i []

abbrev pub port_item_of : Table → ℕ → List ℕ
port_item_of x j = get_or x.port_items j []

-- a table names a where that is one of its addresses, if they have six octets; pairing addresses are not looked at (A4)
abbrev pub table_names : Table → List ℕ → Bool
table_names x a = both (eqb x.width 6) (some_below (λ i. same_octets (address_of x i) a) (length x.entries))

-- The contract of an answer: the part is p and no other, and its octets are x
pub record Answers (t : List ℕ) (p : Part) (x : List ℕ) (r : Part) : Type 0 where
  pub exact : r ≡ p
  pub means : text_of t r ≡ x

-- the counts r are those of the table x
pub record CountsAre (t : List ℕ) (x : Table) (r : Counts) : Type 0 where
  pub interface : text_of t r.interface ≡ x.interface
  pub port : text_of t r.port ≡ x.port
  pub width : r.width ≡ x.width
  pub addresses : r.addresses ≡ length x.entries
  pub items : r.items ≡ x.item_count
  pub pairings : r.pairings ≡ length x.pairings
  pub port_items : r.portitems ≡ length x.port_items

-- The contract of the counts: these and no others, and they are those of the table
pub record Counted (t : List ℕ) (r : Counts) : Type 0 where
  pub exact : r ≡ counts_of t
  pub means : CountsAre t (table_of t) r
