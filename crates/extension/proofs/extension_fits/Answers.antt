-- `extension::extension_fits` meets its contract: four tests, front to back.
-- Each return cites fits_read of LayoutLaws and the tests that led to it.
use mathlib.Core.Path.{refl, sym, ◌∙◌}
use Rattle.tally.proofs.TestsLaws.{both_end}
use Rattle.extension.proofs.LayoutLaws.{fits_read}
use Rattle.extension.proofs.extension_fits.Goals as goal

pub returns-then-not-one_to_four : goal.returns-then-not-one_to_four
returns-then-not-one_to_four c = sym (fits_read c.args.t.now c.octet-n.ensures refl refl refl ∙ rw (sym c.one_to_four.ensures ∙ c.if-not-one_to_four.true))

pub returns-then-not-one_to_four-2 : goal.returns-then-not-one_to_four-2
returns-then-not-one_to_four-2 c =
    sym (fits_read c.args.t.now c.octet-n.ensures c.octet.ensures refl refl
    ∙ rw (sym c.one_to_four.ensures ∙ c.if-not-one_to_four.false, sym c.one_to_four-2.ensures ∙ c.if-not-one_to_four-2.true))

pub returns-else-width_fits : goal.returns-else-width_fits
returns-else-width_fits c =
    sym (fits_read c.args.t.now c.octet-n.ensures c.octet.ensures c.opening_of-h.ensures.0 c.closing_of-e.ensures.0
    ∙ rw (sym c.one_to_four.ensures ∙ c.if-not-one_to_four.false, sym c.one_to_four-2.ensures ∙ c.if-not-one_to_four-2.false, sym c.width_fits.ensures ∙ c.if-width_fits.false) (sym c.if-width_fits.false))

pub returns-then-width_fits : goal.returns-then-width_fits
returns-then-width_fits c =
    sym (fits_read c.args.t.now c.octet-n.ensures c.octet.ensures c.opening_of-h.ensures.0 c.closing_of-e.ensures.0
    ∙ rw (sym c.one_to_four.ensures ∙ c.if-not-one_to_four.false, sym c.one_to_four-2.ensures ∙ c.if-not-one_to_four-2.false, sym c.width_fits.ensures ∙ c.if-width_fits.true, ← c.ends_there.ensures) (both_end _))
