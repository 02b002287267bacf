-- `numbers::first_free` meets its contract: the first place whose length is 0 (first-found).
-- PLACES stands for none.
use mathlib.Core.Path.{◌≡◌, ◌∙◌}
use mathlib.Core.Bool.{true, false}
use borrow.Author.Tests.{tests}
use borrow.Author.Rules.{rules}
use Rattle.std.proofs.lemmas.Iterator.{first_from_Range}
use Rattle.numbers.specs.Sizes.{places}
use Rattle.numbers.specs.Numbers.{is_free, first_free}
use Rattle.numbers.proofs.NumbersLaws.{first-found}
use Rattle.numbers.proofs.first_free.Goals as goal

pub returns : goal.returns
unfolding first_free
returns c =
    let free = is_free c.args.t in
    c.unwrap_or.ensures
    ∙ first-found free places c.find.result
    (first_from_Range _ _ _ c.find.result (λ k. free k ≡ true) (λ k. free k ≡ false) c.find.ensures.ran (λ x q k. search (rules, tests)) (λ x q k. search (rules, tests)))
