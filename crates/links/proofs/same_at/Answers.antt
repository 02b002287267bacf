-- `links::same_at` meets its contract: the numbers are equal exactly if the octets are.
-- The law is number_same of NumberLaws.
use Prim.Native.Nat.{ℕ, ◌+◌, ◌-◌}
use mathlib.Core.Path.{◌≡◌}
use native.Mathlib.Omega.{arith}
use lib.ListN.{length, get_or}
use mir.Syntax.{w8}
use mir.Val.{Fits}
use borrow.Author.Rules.{rules}
use Rattle.links.proofs.NumberLaws.{number_same}
use Rattle.links.proofs.same_at.Goals as goal

pub overflow_mul-eight : goal.overflow_mul-eight
overflow_mul-eight c =
    let octet = c.type_inv.s in
    let at = c.args.at in
    omega (arith, octet (at + 2), octet (at + 2 + 1), octet (at + 2 + 2), octet (at + 2 + 3))

pub overflow_add-eight : goal.overflow_add-eight
overflow_add-eight c =
    let octet = c.type_inv.s in
    let at = c.args.at in
    omega
    (arith, octet (at - 2), octet (at - 2 + 1), octet (at - 2 + 2), octet (at - 2 + 3), octet (at + 2), octet (at + 2 + 1), octet (at + 2 + 2), octet (at + 2 + 3))

pub returns : goal.returns
returns c =
    let octet : (i : ℕ) → Fits w8 (get_or c.args.address i 0) = λ i. search rules in
    let six : length c.args.address ≡ 6 = search rules in
    number_same c.args.s.now c.args.address c.args.at c.type_inv.s octet c.requires.le_at six c.four_at.ensures c.four_at-2.ensures c.number_of.ensures
