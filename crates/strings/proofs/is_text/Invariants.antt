-- `strings::is_text` meets its contract: what was looked at and what is left tell of the whole.
-- One octet is text-goes, the end is text-ends of TextLaws.
use mathlib.Core.Path.{◌≡◌}
use mathlib.Core.Bool.{not}
use lib.ListN.{drop}
use Rattle.tally.specs.Tests.{both}
use Rattle.strings.specs.Text.{text_ok}
use Rattle.strings.proofs.is_text.Given as goal

abbrev pub invariant-loop-b : goal.invariant-loop-b
invariant-loop-b l = both (not l.bad) (text_ok (drop l.b-index l.part)) ≡ text_ok l.part
