-- `hearing::hear` meets its contract: the place that is found decides between a known and a new identity (saying-known, saying-new).
-- The identity is that of the outline.
use mathlib.Core.Path.{ap, ◌∙◌}
use Rattle.rules.specs.Identity.{Ident}
use Rattle.place.specs.State.{state}
use Rattle.place.proofs.WhoseLaws.{outline-ident}
use Rattle.fitness.proofs.FitLaws.{fit_length}
use Rattle.hearing.proofs.ReplyLaws.{saying-known, saying-new, known-below}
use Rattle.hearing.proofs.hear.Goals as goal

pub hear_known-requires : goal.hear_known-requires
hear_known-requires c =
    let a = c.args in
    (known-below a.p a.sender a.l.now (state a.t a.buffer.now) c.requires.1.1.1 c.place_of.ensures c.in-Some.is, (fit_length _ c.requires.0, c.requires.1.1.0))

pub returns-in-Some : goal.returns-in-Some
returns-in-Some c =
    let a = c.args in
    c.hear_known.ensures ∙ saying-known a.p a.sender a.l.now (state a.t a.buffer.now) c.requires.1.1.1 c.place_of.ensures c.in-Some.is

pub hear_new-requires : goal.hear_new-requires
hear_new-requires c =
    (c.requires.0, (c.requires.1.0, (c.requires.1.1.0, ap (λ (w : Ident). w.chassis) (outline-ident c.args.l.now c.requires.1.1.1 c.args.p))))

pub returns-in-None : goal.returns-in-None
returns-in-None c =
    let a = c.args in
    c.hear_new.ensures ∙ saying-new a.p a.sender a.l.now (state a.t a.buffer.now) c.requires.1.1.1 c.place_of.ensures c.in-None.is
