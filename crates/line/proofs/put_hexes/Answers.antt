-- `line::put_hexes` meets its contract: a full stop, or what is left put behind what was put.
-- One octet is put-next, the end is put-done of the output's laws.
use Rattle.std.proofs.Common.{rules}
use Rattle.output.proofs.OutputLaws.{put_same, put_starts, put-next, put-done}
use Rattle.line.specs.Hex.{hex_of, hexes}
use Rattle.line.proofs.HexLaws.{hexes-step, hexes-end, stop-none, stop-some}
use Rattle.line.proofs.put_hexes.Goals as goal

pub returns-then-is_empty : goal.returns-then-is_empty
returns-then-is_empty c = put_same c.put_octet.ensures (stop-none c.args.octets.now (search rules))

pub loop-b-init : goal.loop-b-init
loop-b-init c = put_starts hexes c.args.octets.now c.args.line.now

pub loop-b-preserved : goal.loop-b-preserved
loop-b-preserved c = put-next hexes hex_of hexes-step hexes-end c.args.octets.now c.loop-b.invariant c.loop-b-test.true c.put_hex.ensures

pub returns : goal.returns
returns c =
    let s = c.args.octets.now in
    put_same (put-done hexes hex_of hexes-step hexes-end s c.loop-b.invariant c.loop-b-test.false) (stop-some s (search rules))
