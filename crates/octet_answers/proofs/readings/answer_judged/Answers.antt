-- `octet_answers::readings::answer_judged` meets its contract: verdict, chassis, port ID and seconds fill the slice, and a refusal is returned.
-- Each return cites what was read.
use mathlib.Core.Path.{◌≡◌, ap}
use Rattle.output.proofs.OutputLaws.{put_then}
use Rattle.octet_description.specs.Octets.{front_octets}
use Rattle.octet_answers.proofs.AnswersLaws.{filled, one-slice}
use lib.ListN.{length}
use borrow.Author.Rules.{rules}
use borrow.Author.Tests.{eq-eqb}
use Rattle.octet_answers.specs.Answers.{judged_long, back, judged_octets, judged}
use Rattle.octet_answers.proofs.readings.answer_judged.Goals as goal

pub returns-clause-exact : goal.returns-clause-exact
unfolding judged
returns-clause-exact c =
    let a = c.args.answer.now in
    let r = c.in_ok-r.r in
    let e : length a ≡ judged_long = search rules in
    rw (eq-eqb (length a) judged_long e, c.in_ok-r.was) (ap (back 0) (one-slice (filled (judged_octets r) a e c.new-out.ensures.empty (put_then _ (front_octets r.description) c.put_verdict.ensures c.put_front.ensures) (search rules))))
