-- `extension::counts_of` meets its contract: zeros, or the counts that were read.
-- The law is counts-read of LayoutLaws; what the counts mean is counts-answer of AskedLaws.
use mathlib.Core.Path.{sym, ◌∙◌}
use Rattle.extension.specs.Asked.{counts_of}
use Rattle.extension.proofs.LayoutLaws.{counts-read}
use Rattle.extension.proofs.AskedLaws.{counts-answer}
use Rattle.extension.proofs.counts_of.Goals as goal

pub returns-then-not-extension_fits : goal.returns-then-not-extension_fits
unfolding counts_of
returns-then-not-extension_fits c =
    counts-answer c.args.t.now
    (rw (sym c.extension_fits.ensures ∙ c.if-not-extension_fits.true, c.nowhere.ensures, c.nowhere-then-not-extension_fits.ensures))

pub returns : goal.returns
unfolding counts_of
returns c =
    counts-answer c.args.t.now
    (rw (sym c.extension_fits.ensures ∙ c.if-not-extension_fits.false)
    (counts-read c.args.t.now c.octet-n.ensures c.octet-m.ensures c.opening_of-h.ensures.0 c.closing_of-e.ensures.0))
