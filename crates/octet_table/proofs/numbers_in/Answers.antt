-- `octet_table::numbers_in` meets its contract: after i turns i numbers are what their octets mean, the others still low octet first.
-- One turn is turn_more of LentLaws.
use Prim.Native.Nat.{◌+◌, ◌*◌}
use mathlib.Core.Path.{◌≡◌}
use native.Mathlib.Omega.{arith}
use borrow.Author.Rules.{rules}
use Rattle.tally.proofs.TabLaws.{filled_none, filled-all}
use Rattle.numbers.specs.Sizes.{places}
use Rattle.octet_table.proofs.LentLaws.{number, turn-next, turn_more}
use Rattle.octet_table.proofs.numbers_in.Goals as goal

pub loop-i-init : goal.loop-i-init
loop-i-init c = (search rules, search rules, search rules, c.low_first-a.ensures, filled_none _ _)

pub overflow_add-a : goal.overflow_add-a
overflow_add-a c =
    let i = c.loop-i.i in
    let octet = c.type_inv.o in
    let next = turn-next c.args.o.now _ c.loop-i.a i (omega arith) c.loop-i.invariant.3 c.loop-i.invariant.4 in
    record { fits = omega (arith, next, octet (2 * i), octet (2 * i + 1)) }

pub loop-i-preserved : goal.loop-i-preserved
loop-i-preserved c =
    let o = c.args.o.now in
    let octet = c.type_inv.o in (
      search rules,
      search rules,
      search rules,
      search rules,
      turn_more o _ c.loop-i.a c.loop-i.i (omega arith) c.loop-i.invariant.3 c.loop-i.invariant.4 octet,
    )

pub returns : goal.returns
returns c =
    let e : c.loop-i.i ≡ places = omega arith in
    filled-all (number c.args.o.now) places c.low_first-a.result c.loop-i.invariant.1 (rw e at c.loop-i.invariant.4)
