-- `compare::place_in` meets its contract: the search for the chassis and the port ID of an LLDPDU is the search for its identity.
-- Both are parts of the LLDPDU itself, as its first two TLVs say them.
use mathlib.Core.Path.{ap₂, ◌∙◌}
use Rattle.ids.specs.Id.{id_meant}
use Rattle.ids.specs.declared.IdPart.{IdPart}
use Rattle.place.specs.State.{state, ident, chassis_in, port_id_in, find, place_found}
use Rattle.compare.proofs.place_in.Goals as goal

pub returns : goal.returns
unfolding chassis_in port_id_in
returns c =
    let a = c.args in
    let l = a.l.now in
    c.place_of.ensures
    ∙ ap₂ (λ (x y : IdPart). place_found (find (state a.t.now a.buffer.now) (ident a.p (id_meant l x) (id_meant l y)))) c.chassis_of.ensures c.port_of.ensures
