-- `lldpdu::places::rest_place` meets its contract: TLV 2 behind TLV 1, TLV 3 behind TLV 2, and four octets.
-- L has nine bits, so no sum wraps.
use Prim.Native.Nat.{ℕ, ◌+◌}
use mathlib.Core.Path.{ap, ◌∙◌}
use Rattle.lldpdu.specs.Extent.{length_at, port_place, seconds_place}
use Rattle.lldpdu.proofs.places.rest_place.Goals as goal

pub returns : goal.returns
unfolding port_place seconds_place
returns c =
    let first = c.length_at-port in
    let s = c.args.s.now in
    ap (λ (n : ℕ). 2 + first.result + 2 + n + 4) c.length_at.ensures.value ∙ ap (λ (n : ℕ). 2 + n + 2 + length_at s (2 + n) + 4) first.ensures.value
