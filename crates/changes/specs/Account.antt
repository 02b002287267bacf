-- What a list of entries e accounts for, between a first table a and a second table b (D4, D5): each field is a sentence of it.
-- Records are compared as sets, place numbers aside (rules/specs/Records.antt).
use Rattle.std.specs.Prelude.{ℕ, ◌+◌, ◌≤◌, ◌≡◌, ◌↔◌, List, [], length}
use Rattle.rules.specs.Identity.{Ident}
use Rattle.rules.specs.Model.{Places, lookup}
use Rattle.rules.specs.Records.{records_in, SameRecords}
use Rattle.changes.specs.Entries.{Entry, entries_in}
use Rattle.changes.specs.Changes.{resolved, applied, changes_of, ListedOnce, between}

pub record Account (a b : Places) (e : List Entry) : Type 0 where
  -- each entry says one change
  pub speaks : length (resolved a b e) ≡ length e
  -- "The list, with the places it names in the second table, turns the first table's records into the second's, place numbers aside."
  pub turns : SameRecords (applied (records_in a) (resolved a b e)) (records_in b)
  -- "list each change once: left, joined, moved seconds only, or new octets or sender (whatever the seconds)": of each identity this and nothing else
  pub exactly : (w : Ident) → changes_of w (resolved a b e) ≡ between (lookup w a) (lookup w b)
  -- so no identity is listed twice, so that a record which only moved is not one that left and joined
  pub each_once : ListedOnce (resolved a b e)
  -- "Where place numbers alone differ, nothing is listed.", and nowhere else
  pub empty_if_same : (e ≡ []) ↔ SameRecords (records_in a) (records_in b)
  -- a list with room for as many entries as both tables have records is never too short
  pub few : length e ≤ length (records_in a) + length (records_in b)

-- The same of octets o that n entries are read off: n is how many there are, and 0 exactly for the same records
pub record Accounted (p q : Places) (n : ℕ) (o : List ℕ) : Type 0 where
  pub account : Account p q (entries_in n o)
  pub number : length (entries_in n o) ≡ n
  pub none_if_same : (n ≡ 0) ↔ SameRecords (records_in p) (records_in q)
