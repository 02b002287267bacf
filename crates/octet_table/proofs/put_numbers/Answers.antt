-- `octet_table::put_numbers` meets its contract: after i turns two octets of each of i numbers are put; they mean the same numbers.
-- One turn is filled_more of tally, twice.
use Prim.Native.Nat.{ℕ, ◌+◌, ◌*◌}
use mathlib.Core.Path.{◌≡◌, refl, sym, ap, ◌∙◌}
use native.Mathlib.Omega.{arith}
use mir.Syntax.{w16}
use mir.Val.{Fits}
use borrow.Author.Rules.{rules, Below-set}
use lib.ListN.{get_or, length-set}
use Rattle.tally.proofs.TabLaws.{filled_none, filled_more, filled-all}
use Rattle.numbers.specs.Sizes.{places}
use Rattle.octet_table.specs.Lent.{numbers_long, numbers_in, number_octet}
use Rattle.octet_table.proofs.LentLaws.{high-octet, low-octet, numbers-back}
use Rattle.octet_table.proofs.put_numbers.Goals as goal

pub loop-i-init : goal.loop-i-init
loop-i-init c = (search rules, refl, filled_none _ _)

pub bounds-out-i-in-loop-i : goal.bounds-out-i-in-loop-i
bounds-out-i-in-loop-i c =
    Below-set _ c.loop-i.out (2 * c.loop-i.i + 1) _ _ (omega arith)

pub loop-i-preserved : goal.loop-i-preserved
loop-i-preserved c =
    let o = c.args.out.now in
    let f = number_octet c.args.numbers in
    let i = c.loop-i.i in
    let one = filled_more f (2 * i) o (omega arith) c.loop-i.invariant.2 (sym (high-octet c.args.numbers i)) refl in
    (search rules, simp length-set (search rules), filled_more f (2 * i + 1) o (omega arith) one (sym (low-octet c.args.numbers i)) (omega arith))

pub returns : goal.returns
returns c =
    let e : c.loop-i.i ≡ places = omega arith in
    let w = filled-all (number_octet c.args.numbers) numbers_long c.args.out.now (search rules) (rw e at c.loop-i.invariant.2) in
    let small : (i : ℕ) → Fits w16 (get_or c.args.numbers i 0) = λ i. search rules in
    (w, ap numbers_in w ∙ numbers-back c.args.numbers (search rules) (λ i. omega (arith, small i)))
