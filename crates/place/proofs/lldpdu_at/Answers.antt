-- `place::lldpdu_at` meets its contract: the octets of a place are a part of the buffer, and the LLDPDU is its front.
-- A length past the place's end gives the whole place; past the last place nothing is kept (past-empty).
use Prim.Native.Nat.{◌*◌}
use mathlib.Core.Path.{◌≡◌, ap, ◌∙◌}
use lib.ListN.{take, drop}
use Rattle.place.specs.State.{size}
use Rattle.place.proofs.ThereLaws.{past-empty, there-octets}
use Rattle.place.proofs.lldpdu_at.Goals as goal

pub returns-then-i-ge-PLACES : goal.returns-then-i-ge-PLACES
returns-then-i-ge-PLACES c =
    let a = c.args in
    past-empty a.buffer.now a.i a.length c.if-i-ge-PLACES.true

pub returns : goal.returns
returns c =
    let a = c.args in
    let place : c.text_of.result.now ≡ take size (drop (a.i * size) a.buffer.now) = c.text_of.ensures in
    c.text_of-2.ensures ∙ ap (take a.length) place ∙ there-octets a.buffer.now a.i a.length c.if-i-ge-PLACES.false
