-- `line::digit_of` meets its contract: one test decides between digits and letters.
-- A number below 16 keeps both sums within an octet.
use mathlib.Core.Path.{refl}
use borrow.Author.Tests.{lt-ltb, le-ltb}
use Rattle.line.proofs.digit_of.Goals as goal

pub returns-then-n-lt10 : goal.returns-then-n-lt10
returns-then-n-lt10 c = rw (lt-ltb _ _ c.if-n-lt10.true) refl

pub returns-else-n-lt10 : goal.returns-else-n-lt10
returns-else-n-lt10 c = rw (le-ltb _ _ c.if-n-lt10.false) refl
