-- `questions::naming_in_place` meets its contract: a free place names nobody, a used one is what the reader says of its LLDPDU.
-- Each return is one law (naming-free, naming-used).
use Rattle.place.specs.State.{lldpdu_in}
use Rattle.questions.proofs.QuestionLaws.{naming-free, naming-used}
use Rattle.questions.proofs.naming_in_place.Goals as goal

pub returns-then-kept-eq0 : goal.returns-then-kept-eq0
returns-then-kept-eq0 c =
    let a = c.args in
    naming-free a.address a.kept (lldpdu_in a.buffer.now a.i a.kept) c.if-kept-eq0.true

pub returns : goal.returns
returns c =
    let a = c.args in
    let used = c.if-kept-eq0.false in
    naming-used a.address a.kept (lldpdu_in a.buffer.now a.i a.kept) used c.rest_naming.ensures c.lldpdu_at.ensures (c.requires used)
