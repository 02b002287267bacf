-- `arguments::number_in` meets its contract: a word is read octet by octet, and no octets are no number.
-- The law is word_said of NumberLaws.
use mathlib.Core.Path.{sym, ◌∙◌}
use borrow.Author.Tests.{eqb-true, eqb-false}
use Rattle.std.proofs.Common.{rules}
use Rattle.std.proofs.lemmas.Iterator.{YieldsList-from_slice}
use Rattle.std.proofs.lemmas.Iterator.Consumers.{fold_from_yields_List}
use Rattle.arguments.specs.Number.{with_digit}
use Rattle.arguments.proofs.NumberLaws.{word_said, none_said}
use Rattle.arguments.proofs.number_in.Goals as goal

pub returns-then-is_empty : goal.returns-then-is_empty
returns-then-is_empty c = none_said c.args.word.now (eqb-true _ _ (sym c.is_empty.ensures ∙ c.if-is_empty.true))

pub returns : goal.returns
returns c =
    let word = c.args.word.now in
    fold_from_yields_List _ with_digit 0 _ c.fold.ensures.ran (YieldsList-from_slice word c.iter.ensures.rest) (λ a x b q k. search rules) ∙ word_said word (eqb-false _ _ (sym c.is_empty.ensures ∙ c.if-is_empty.false))
