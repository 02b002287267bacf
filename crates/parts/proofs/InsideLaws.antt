-- Several parts asked one by one: the part at a number, and all of them, over the part that the code has in hand.
-- Last, what is asked of a description without system fields and extension link information.
use Prim.Native.Nat.{ℕ, ◌-◌, ◌≤◌}
use mathlib.Core.Path.{◌≡◌, sym, ap, ◌∙◌}
use mathlib.Core.List.{List, [], ◌∷◌, map}
use mathlib.Core.Bool.{Bool, true}
use native.Mathlib.Omega.{arith}
use borrow.Author.Tests.{le-leb}
use lib.ListN.{length, get_or}
use lib.Seq.{length-take-le}
use Rattle.tally.specs.Tests.{all}
use Rattle.tally.specs.Ranges.{all_below}
use Rattle.tally.proofs.RangesLaws.{all_listed}
use Rattle.text.specs.Part.{nowhere, most_parts, parts_in}
use Rattle.text.specs.declared.Part.{Part}
use Rattle.text.specs.declared.Parts.{Parts}
use Rattle.std.specs.Prelude.{None}
use Rattle.system.specs.System.{empty_system}
use Rattle.reading.specs.declared.Description.{Description}
use Rattle.parts.specs.Inside.{part_inside, system_inside, link_inside, optional_inside, all_inside}

module _ (n : ℕ) (l : Parts) where
  abbrev pub asked : ℕ → Bool
  asked k = part_inside n (get_or (parts_in l) k nowhere)

  pub asked_is : (k : ℕ) {p : Part} {r : Bool} → p ≡ get_or (parts_in l) k nowhere → r ≡ part_inside n p → asked k ≡ r
  asked_is k e f = ap (part_inside n) (sym e) ∙ sym f

  pub asked-all : length l.parts ≡ most_parts → l.count ≤ most_parts → all_below asked l.count ≡ all (map (part_inside n) (parts_in l))
  asked-all h k = ap (all_below asked) (sym (length-take-le l.count l.parts (omega arith))) ∙ all_listed (part_inside n) (parts_in l) nowhere

-- the tests of before there were system fields and extension link information, in their order, with more behind them
abbrev pub inside_before : ℕ → Description → List Bool → List Bool
inside_before n d more =
    part_inside n d.chassis.octets
    ∷ part_inside n d.port.octets
    ∷ part_inside n d.words
    ∷ part_inside n d.category
    ∷ part_inside n d.manufacturer
    ∷ part_inside n d.model
    ∷ part_inside n d.number
    ∷ link_inside n d.link
    ∷ optional_inside n d.list
    ∷ more

-- where extension link information is absent, they are asked with that of the system fields
pub inside-without-extension : (n : ℕ) (d : Description) → d.extension ≡ None → all_inside n d ≡ all (inside_before n d (all (system_inside n d.system) ∷ []))
unfolding all_inside
inside-without-extension n d x = rw (ap (optional_inside n) x)

-- and alone where the parts of the system fields lie inside
pub inside-without-both : (n : ℕ) (d : Description) → all (system_inside n d.system) ≡ true → d.extension ≡ None → all_inside n d ≡ all (inside_before n d [])
inside-without-both n d e x = inside-without-extension n d x ∙ rw e

-- and those of no system fields do
pub empty-inside : (n : ℕ) → all (system_inside n empty_system) ≡ true
empty-inside n = rw (le-leb 0 n (omega arith), le-leb 0 (n - 0) (omega arith))
