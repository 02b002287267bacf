-- `digest::mixed_octets` meets its contract: the fold over the octets is the definition's.
-- The law is fold-folded of FoldLaws.
use mathlib.Core.Path.{◌∙◌}
use Rattle.std.proofs.Common.{rules}
use Rattle.std.proofs.lemmas.Iterator.{YieldsList-from_slice}
use Rattle.std.proofs.lemmas.Iterator.Consumers.{fold_from_yields_List}
use Rattle.digest.specs.Digest.{mixed}
use Rattle.digest.proofs.FoldLaws.{fold-folded}
use Rattle.digest.proofs.mixed_octets.Goals as goal

pub returns : goal.returns
returns c =
    let s = c.args.s.now in
    fold_from_yields_List _ mixed _ _ c.fold.ensures.ran (YieldsList-from_slice s c.iter.ensures.rest) (λ a x b q k. search rules) ∙ fold-folded mixed c.args.h s
