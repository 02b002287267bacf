-- What a change says (D5): it names an identity or a record, and no table and no place.
-- An entry of the list is such a change once its place is looked up in the two tables.
use Rattle.std.specs.Prelude.{ℕ, ◌≤◌, List, [], ◌∷◌, ◌++◌, map, eqb, length, get_or}
use Rattle.std.proofs.Math.Option.{Option, none, some}
use Rattle.tally.specs.Tests.{pick, both}
use Rattle.octets.specs.Address.{same_octets}
use Rattle.rules.specs.Identity.{Ident, same}
use Rattle.rules.specs.Model.{Rec, Places}
use Rattle.rules.specs.Records.{Records}
use Rattle.changes.specs.Entries.{Entry, left_kind, joined_kind, seconds_kind, altered_kind}

-- kinds 1, 3, 2 and 4: it left; its record has so many seconds left now; its record is this one, and there was none; its record is this one, and there was another
pub data Change : Type 0 where
  leaves : Ident → Change
  lasts : Ident → ℕ → Change
  joins : Rec → Change
  alters : Rec → Change

-- of whom it speaks
abbrev pub whom : Change → Ident
whom (leaves w) = w
whom (lasts w s) = w
whom (joins r) = r.who
whom (alters r) = r.who

-- What an entry says

abbrev pub said_of : (Rec → Change) → Option Rec → List Change
said_of f none = []
said_of f (some r) = f r ∷ []

-- "left" names a place of the first table a, the others one of the second table b; an entry of another kind, or of a free place, says nothing
unfoldable pub resolve : Places → Places → Entry → List Change
resolve a b e =
    pick (eqb e.kind left_kind) (said_of (λ r. leaves r.who) (get_or a e.place none))
    (pick (eqb e.kind joined_kind) (said_of joins (get_or b e.place none))
    (pick (eqb e.kind seconds_kind) (said_of (λ r. lasts r.who r.left) (get_or b e.place none))
    (pick (eqb e.kind altered_kind) (said_of alters (get_or b e.place none)) [])))

abbrev pub resolved : Places → Places → List Entry → List Change
resolved a b [] = []
resolved a b (e ∷ l) = resolve a b e ++ resolved a b l

-- What changes do to records

abbrev pub without : Ident → Records → Records
without w [] = []
without w (r ∷ x) = pick (same w r.who) (without w x) (r ∷ without w x)

abbrev pub lasting : ℕ → Rec → Rec
lasting s r = record { who = r.who; left = s; octets = r.octets; sender = r.sender }

-- f of a record of w; any other stays
abbrev pub on_who : Ident → (Rec → Rec) → Rec → Rec
on_who w f r = pick (same w r.who) (f r) r

abbrev pub apply : Change → Records → Records
apply (leaves w) x = without w x
apply (lasts w s) x = map (on_who w (lasting s)) x
apply (joins r) x = r ∷ x
apply (alters r) x = map (on_who r.who (λ q. r)) x

-- one after the other
abbrev pub applied : Records → List Change → Records
applied x [] = x
applied x (c ∷ l) = applied (apply c x) l

-- Whom a list of changes names

abbrev pub changes_of : Ident → List Change → List Change
changes_of w [] = []
changes_of w (c ∷ l) = pick (same w (whom c)) (c ∷ changes_of w l) (changes_of w l)

-- no identity is listed twice
abbrev pub ListedOnce : List Change → Type 0
ListedOnce l = (w : Ident) → length (changes_of w l) ≤ 1

-- What changed of one identity (D1)

-- from its record in the first table to that in the second, or from and to none
abbrev pub between : Option Rec → Option Rec → List Change
between none none = []
between none (some q) = joins q ∷ []
between (some r) none = leaves r.who ∷ []
between (some r) (some q) =
    pick (both (same_octets r.octets q.octets) (same_octets r.sender q.sender))
    (pick (eqb r.left q.left) [] (lasts q.who q.left ∷ []))
    (alters q ∷ [])
