-- The revision rule (T13): what a reader shows of a table that knows the first j items of an address and the first h of a port,
-- and when a field is another one with items added behind.
use Prim.{Unit}
use Rattle.std.specs.Prelude.{ℕ, zero, suc, ◌≡◌, List, [], ◌∷◌, map, length, take}
use Rattle.extension.specs.Table.{Entry, Table}

-- the first j items; a missing one shows as no octets
unfoldable pub first_items : ℕ → List (List ℕ) → List (List ℕ)
first_items zero xs = []
first_items (suc j) [] = [] ∷ first_items j []
first_items (suc j) (x ∷ xs) = x ∷ first_items j xs

-- a table with other items: f of those of each address, whose number is then c, and g of those of the port
abbrev pub entry_with : (List (List ℕ) → List (List ℕ)) → Entry → Entry
entry_with f e = record { address = e.address; items = f e.items }

abbrev pub with_items : ℕ → (List (List ℕ) → List (List ℕ)) → (List (List ℕ) → List (List ℕ)) → Table → Table
with_items c f g x =
    record {
      interface = x.interface;
      port = x.port;
      width = x.width;
      item_count = c;
      entries = map (entry_with f) x.entries;
      pairings = x.pairings;
      port_items = g x.port_items;
    }

-- what is shown
abbrev pub shown : ℕ → ℕ → Table → Table
shown j h x = with_items j (first_items j) (first_items h) x

-- the same table as an older edition has it: c items for each address and d for the port, the others cut off
abbrev pub cut_to : ℕ → ℕ → Table → Table
cut_to c d x = with_items c (take c) (take d) x

-- the items xs, and perhaps others behind them
abbrev pub Begins : List (List ℕ) → List (List ℕ) → Type 0
Begins xs ys = take (length xs) ys ≡ xs

abbrev pub EntriesGrown : List Entry → List Entry → Type 0
EntriesGrown [] [] = Unit {0}
EntriesGrown [] (f ∷ fs) = ⊥
EntriesGrown (e ∷ es) [] = ⊥
EntriesGrown (e ∷ es) (f ∷ fs) = (e.address ≡ f.address) × (Begins e.items f.items × EntriesGrown es fs)

-- y says what x says, with items added behind: those of each address, and those of the port
pub record Grown (x y : Table) : Type 0 where
  pub interface : x.interface ≡ y.interface
  pub port : x.port ≡ y.port
  pub width : x.width ≡ y.width
  pub entries : EntriesGrown x.entries y.entries
  pub pairings : x.pairings ≡ y.pairings
  pub port_items : Begins x.port_items y.port_items
