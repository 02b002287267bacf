-- `line::put_joined` meets its contract: the first octet, then each of the others behind a `-`.
-- One octet is put-next, the end is put-done of the output's laws.
use Rattle.std.proofs.Common.{rules, ap, ◌≡◌, ◌∷◌}
use Rattle.output.proofs.OutputLaws.{put_then, put_none, put_same, put_starts, put-next, put-done}
use Rattle.line.specs.Hex.{hex_of, dashed, joined}
use Rattle.line.proofs.HexLaws.{dashed-step, dashed-end, joined-none}
use Rattle.line.proofs.put_joined.Goals as goal

pub returns-in_default : goal.returns-in_default
returns-in_default c = put_same (put_none c.args.line.now) (joined-none c.args.octets.now c.in_default.ensures.cases)

pub loop-b-init : goal.loop-b-init
loop-b-init c = put_starts dashed c.in-Some.rest.now c.put_hex.new.line

pub loop-b-preserved : goal.loop-b-preserved
loop-b-preserved c =
    put-next dashed (λ b. 45 ∷ hex_of b) dashed-step dashed-end c.in-Some.rest.now c.loop-b.invariant c.loop-b-test.true c.put_dashed.ensures

pub returns : goal.returns
returns c =
    let rest = c.in-Some.rest.now in
    let whole : c.in-Some.first.now ∷ rest ≡ c.args.octets.now = search rules in
    put_same
    (put_then (hex_of c.in-Some.first.now) (dashed rest) c.put_hex.ensures
    (put-done dashed (λ b. 45 ∷ hex_of b) dashed-step dashed-end rest c.loop-b.invariant c.loop-b-test.false))
    (ap joined whole)
