-- `freeing::start` meets its contract: a buffer of another length is refused, any other is cleared.
-- Both returns are one law of the calls (start-refused, start-done).
use borrow.Author.Rules.{rules}
use Rattle.place.specs.State.{state}
use Rattle.freeing.proofs.CallLaws.{start-refused, start-done}
use Rattle.freeing.proofs.start.Goals as goal

pub returns-then-buffer-ne-OCTETS : goal.returns-then-buffer-ne-OCTETS
returns-then-buffer-ne-OCTETS c =
    let a = c.args in
    let s = state a.t a.buffer.now in
    start-refused s c.if-buffer-ne-OCTETS.true c.refuse.ensures

pub returns : goal.returns
returns c =
    let a = c.args in
    let s = state a.t a.buffer.now in
    start-done s (search rules) c.empty_table.ensures c.clear.ensures
