-- The records of a table, place numbers aside: a set in which no identity occurs twice.
-- Two tables have the same records whatever places these stand in.
use Rattle.std.specs.Prelude.{◌≤◌, ◌≡◌, ◌⊎◌, ◌↔◌, List, [], ◌∷◌, length}
use Rattle.std.proofs.Math.Option.{none, some}
use Rattle.tally.specs.Tests.{pick}
use Rattle.rules.specs.Identity.{Ident, same}
use Rattle.rules.specs.Model.{Rec, Places}

abbrev pub Records : Type 0
Records = List Rec

abbrev pub records_in : Places → Records
records_in [] = []
records_in (none ∷ t) = records_in t
records_in (some r ∷ t) = r ∷ records_in t

-- those of identity w
abbrev pub records_of : Ident → Records → Records
records_of w [] = []
records_of w (r ∷ x) = pick (same w r.who) (r ∷ records_of w x) (records_of w x)

-- no identity occurs twice
abbrev pub NoneTwice : Records → Type 0
NoneTwice x = (w : Ident) → length (records_of w x) ≤ 1

-- r is one of them
abbrev pub Among : Rec → Records → Type 0
Among r [] = ⊥
Among r (q ∷ x) = (r ≡ q) ⊎ Among r x

-- the same set, without doubles
pub record SameRecords (x y : Records) : Type 0 where
  pub once : NoneTwice x
  pub once_too : NoneTwice y
  pub same_ones : (r : Rec) → Among r x ↔ Among r y
