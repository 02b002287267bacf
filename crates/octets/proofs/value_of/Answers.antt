-- `octets::value_of` meets its contract: the fold over up to four octets loses none of their bits.
-- The law is fold-value of NumbersLaws.
use mathlib.Core.Path.{◌∙◌}
use native.Mathlib.Omega.{arith}
use lib.ListN.{take, length-take}
use lib.Seq.{get_or-take}
use Rattle.std.proofs.Common.{rules}
use Rattle.std.proofs.lemmas.Iterator.{YieldsList-from_slice, YieldsList-from_take}
use Rattle.std.proofs.lemmas.Iterator.Consumers.{fold_from_yields_List}
use Rattle.octets.proofs.NumbersLaws.{joined, fold-value}
use Rattle.octets.proofs.value_of.Goals as goal

pub returns : goal.returns
returns c =
    let p = c.args.part.now in
    fold_from_yields_List _ joined 0 _ c.fold.ensures.ran (YieldsList-from_take 4 (YieldsList-from_slice p (cc)) c.take.ensures.count) (λ a x b q k. search rules)
    ∙ fold-value (take 4 p) (omega (arith, length-take 4 p)) (λ i h. omega (arith, length-take 4 p, get_or-take 4 p i 0 (omega (arith, length-take 4 p)), c.type_inv.part i))
