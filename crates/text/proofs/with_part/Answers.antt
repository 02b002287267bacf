-- `text::with_part` meets its contract: a fifth part is left out, another one stands behind those that there are.
-- One test decides.
use mathlib.Core.Path.{refl}
use borrow.Author.Tests.{lt-ltb, le-ltb}
use Rattle.text.specs.Part.{with_part}
use Rattle.text.proofs.with_part.Goals as goal

pub returns-then-count-ge-MOST_PARTS : goal.returns-then-count-ge-MOST_PARTS
unfolding with_part
returns-then-count-ge-MOST_PARTS c = rw (le-ltb _ 4 c.if-count-ge-MOST_PARTS.true)

pub returns : goal.returns
unfolding with_part
returns c = rw (lt-ltb _ 4 c.if-count-ge-MOST_PARTS.false) refl
