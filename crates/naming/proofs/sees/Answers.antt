-- `naming::sees` meets its contract: another type and another subtype see nothing, the two of links are asked.
-- The laws are other-type and other-subtype of SeesLaws.
use native.Mathlib.Omega.{arith}
use Rattle.naming.proofs.SeesLaws.{other-type, other-subtype}
use Rattle.naming.proofs.sees.Goals as goal

pub returns-then-kind-ne127 : goal.returns-then-kind-ne127
returns-then-kind-ne127 c =
    let a = c.args in
    other-type a.part.now a.address a.kind c.if-kind-ne127.true

pub returns-in_default : goal.returns-in_default
returns-in_default c =
    let a = c.args in
    rw c.if-kind-ne127.false (other-subtype a.part.now a.address (λ e. omega (arith, c.octet.ensures)) (λ e. omega (arith, c.octet.ensures)))
