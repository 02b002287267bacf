-- `lldpdu::places::port_of` meets its contract: TLV 2 begins behind TLV 1.
-- L has nine bits, so the place is near.
use Prim.Native.Nat.{ℕ, ◌+◌}
use mathlib.Core.Path.{ap, ◌∙◌}
use Rattle.lldpdu.specs.Extent.{port_place, id_at}
use Rattle.lldpdu.proofs.places.port_of.Goals as goal

pub returns : goal.returns
unfolding port_place
returns c =
    c.id_at.ensures ∙ ap (λ (n : ℕ). id_at c.args.s.now (2 + n)) c.length_at.ensures.value
