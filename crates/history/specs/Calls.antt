-- Every sequence of calls on one table from a Start on, to which nobody else writes; and what "who sees" asks of a history.
-- Frames are any octets, ports and seconds any numbers, and refused calls are calls too. Each call does what its contract says.
use Rattle.std.specs.Prelude.{ℕ, ◌≤◌, ◌<◌, ◌≡◌, List, [], ◌∷◌, length, get_or}
use Rattle.std.proofs.Math.Option.{none, some}
use Rattle.lldpdu.specs.Extent.{extent_of}
use Rattle.naming.specs.Naming.{seen_at}
use Rattle.naming.specs.declared.Number.{Number}
use Rattle.rules.specs.Events as event
use Rattle.rules.specs.Events.{History}
use Rattle.rules.specs.Model.{Rec, Places}
use Rattle.numbers.specs.Sizes.{ports}
use Rattle.place.specs.State.{State, octets}
use Rattle.freeing.specs.Calls.{state_after, started, passed, link_lost}
use Rattle.hearing.specs.Frame.{heard_of, state_told, heard}
use Rattle.history.specs.Words.{Neighbour}

-- calls lead to the state s, and the history is what they were told, newest first
pub data Called : State → History → Type 0 where
  begun : (s : State) → length s.buf ≡ octets → Called (state_after (started s)) []
  frame : {s : State} {h : History} → Called s h → (p : ℕ) (f : List ℕ) → Called (state_told (heard p f s)) (event.frame p (heard_of f) ∷ h)
  waited : {s : State} {h : History} → Called s h → (n : ℕ) → Called (state_after (passed n s)) (event.passed n ∷ h)
  unplugged : {s : State} {h : History} → Called s h → (p : ℕ) → Called (state_after (link_lost p s)) (event.lost p ∷ h)

-- place k has the record of a neighbour after h, and that neighbour's latest announcement names the address a with the two numbers x (A4)
pub record NeighbourNames (h : History) (t : Places) (a : List ℕ) (k : ℕ) (x : Number × Number) : Type 0 where
  pub rec : Rec
  pub there : get_or t k none ≡ some rec
  pub neighbour : Neighbour ports h rec.who
  pub named : seen_at (extent_of neighbour.said.octets) neighbour.said.octets a ≡ some x

-- k is the lowest such place at or after `from` (N11)
pub record Lowest (h : History) (t : Places) (a : List ℕ) (from k : ℕ) (x : Number × Number) : Type 0 where
  pub least : from ≤ k
  pub names : NeighbourNames h t a k x
  pub before : (j : ℕ) (y : Number × Number) → from ≤ j → j < k → ¬ NeighbourNames h t a j y
