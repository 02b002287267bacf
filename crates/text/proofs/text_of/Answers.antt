-- `text::text_of` meets its contract: nothing, all that is left, or the part itself.
-- The laws are part-from and part-is of octets' PartLaws.
use mathlib.Core.Path.{sym, ◌∙◌}
use native.Mathlib.Omega.{arith}
use lib.ListN.{drop_of_length-le, drop, length-drop}
use lib.Seq.{take-nil, take_all}
use Rattle.octets.proofs.PartLaws.{part-is, part-from}
use Rattle.text.proofs.text_of.Goals as goal

pub returns-then-s-start : goal.returns-then-s-start
returns-then-s-start c = rw (drop_of_length-le c.args.s.now c.if-s-start.true) (sym (take-nil c.args.p.len))

pub returns-then-s-start-2 : goal.returns-then-s-start-2
returns-then-s-start-2 c =
    let s = c.args.s.now in
    let a = c.args.p.start in
    part-from s a ∙ sym (take_all c.args.p.len (drop a s) (omega (arith, length-drop a s)))

pub returns : goal.returns
returns c = part-is c.args.s.now c.args.p.start c.args.p.len
