-- `play::read_some` meets its contract: nothing came, or what came was fed to both.
-- That a replay goes on by what it was fed is what `go_on` ensures.
use borrow.Author.Rules.{rules}
use Rattle.play.proofs.ReadingLaws.{reads_none}
use Rattle.play.proofs.read_some.Goals as goal

pub returns-in-Err : goal.returns-in-Err
returns-in-Err o c = reads_none _ _

pub returns-then-n-eq0 : goal.returns-then-n-eq0
returns-then-n-eq0 o c = reads_none _ _

pub returns : goal.returns
returns o c =
    (_, (c.go_on-first.ensures, c.go_on-second.ensures))
