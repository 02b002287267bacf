-- `fitness::is_fit` meets its contract: buffer length, shares, places, each beside the others; the first that fails decides.
-- The marks that the places gave serve the last of these.
use mathlib.Core.Path.{sym, ◌∙◌}
use native.Mathlib.Omega.{arith}
use Rattle.place.specs.State.{state}
use Rattle.fitness.proofs.FitLaws.{unfit-places, fit-by}
use Rattle.fitness.proofs.is_fit.Goals as goal

pub all_fit_in-requires : goal.all_fit_in-requires
all_fit_in-requires c = (omega arith, c.in-Some.ensures.1)

pub returns-in_default : goal.returns-in_default
returns-in_default c = unfit-places (state c.args.t c.args.buffer.now) c.in_default.ensures

pub returns : goal.returns
returns c =
    fit-by (state c.args.t c.args.buffer.now) (omega arith) (sym c.shares_fit.ensures ∙ c.if-not-shares_fit.false) c.in-Some.ensures.0 c.all_fit_in.ensures
