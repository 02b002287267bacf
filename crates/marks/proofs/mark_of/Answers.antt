-- `marks::mark_of` meets its contract: two pairs of octets side by side (mark-is).
-- Each pair is below 65,536, so that the sum fits; the octets stand before TLVs 2 and 3, which lie inside (mark-places).
use Prim.Native.Nat.{ℕ, ◌+◌, ◌*◌, ◌%◌, ◌≤◌}
use mathlib.Core.Path.{◌≡◌, ap, ap₂, ◌∙◌}
use mathlib.Core.List.{List}
use native.Mathlib.Omega.{arith}
use lib.ListN.{length}
use Rattle.std.specs.Prelude.{Ok}
use Rattle.lldpdu.specs.Extent.{extent_of}
use Rattle.lldpdu.specs.Leading.{leading_of}
use Rattle.lldpdu.specs.declared.leading.Leading.{Leading}
use Rattle.lldpdu.proofs.LeadingLaws.{Behind, led}
use Rattle.marks.proofs.CheckLaws.{mark-places, mark-is}
use Rattle.marks.proofs.mark_of.Goals as goal

-- where the octets stand, in an LLDPDU with TLVs 2 and 3 at these places
module _ (l : List ℕ) {x : Leading} (h : (extent_of l ≡ Ok (length l)) × (leading_of l ≡ Ok x)) where
  behind : Behind l x.port x.seconds
  behind = (led l h.1).behind

  inside : (1 ≤ x.port) × ((2 ≤ x.seconds) × ((x.port ≤ x.seconds) × (x.seconds ≤ length l)))
  inside = mark-places l h.0 behind

pub overflow_sub-port : goal.overflow_sub-port
overflow_sub-port c = omega (arith, inside c.args.l.now c.requires)

pub bounds-l-port : goal.bounds-l-port
bounds-l-port c = omega (arith, inside c.args.l.now c.requires)

pub overflow_sub-seconds : goal.overflow_sub-seconds
overflow_sub-seconds c = omega (arith, inside c.args.l.now c.requires)

pub bounds-l-seconds : goal.bounds-l-seconds
bounds-l-seconds c = omega (arith, inside c.args.l.now c.requires)

pub overflow_sub-seconds-2 : goal.overflow_sub-seconds-2
overflow_sub-seconds-2 c = omega (arith, inside c.args.l.now c.requires)

pub bounds-l-seconds-2 : goal.bounds-l-seconds-2
bounds-l-seconds-2 c = omega (arith, inside c.args.l.now c.requires)

pub returns : goal.returns
returns c =
    let low : c.from-2.result ≡ c.pair.result % 65536 = omega arith in
    ap₂ (λ (x y : ℕ). x * 65536 + y) (c.from.ensures ∙ c.pair-front.ensures) (low ∙ ap (λ (y : ℕ). y % 65536) c.pair.ensures)
    ∙ mark-is c.args.l.now c.requires.0 (behind c.args.l.now c.requires) c.args.p
