-- `play::begun` meets its contract: the place is what `begin` ensures, and every list of a table of the code has its length.
-- The table is kept as it is.
use mathlib.Core.Path.{refl}
use borrow.Author.Rules.{rules}
use Rattle.text.proofs.PartsLaws.{length-mapped}
use Rattle.play.proofs.begun.Goals as goal

pub returns : goal.returns
returns c =
    record {
      listed = record { ports_long = search rules; seconds_long = search rules; lengths_long = search rules; senders_long = search (rules, length-mapped) };
      place = c.begin.ensures;
      table = refl;
    }
