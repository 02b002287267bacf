-- `walk::head_at` meets its contract: too short, too long, or whole.
-- The laws are head-short, head-long and head-whole of WalkLaws, for the octets from the place on.
use mathlib.Core.Path.{refl, sym, ap, ◌∙◌}
use native.Mathlib.Omega.{arith}
use lib.ListN.{drop, length-drop}
use Rattle.std.proofs.lemmas.List.{take_rest}
use Rattle.walk.specs.Walk.{head_of}
use Rattle.walk.proofs.WalkLaws.{head-short, head-whole, head-long}
use Rattle.walk.proofs.head_at.Goals as goal

pub returns-in_err-get : goal.returns-in_err-get
returns-in_err-get c =
    let s = c.args.s.now in
    c.from_residual.ensures ∙ sym (head-short (drop c.args.at s) (omega (arith, length-drop c.args.at s, c.in_err-get.ensures)))

pub returns-in_default : goal.returns-in_default
returns-in_default c =
    let rest = c.in_ok-get.ensures.lookup.0.2 ∙ take_rest c.args.s.now c.args.at in
    sym (ap head_of (sym rest) ∙ head-short c.in_ok-get.field-0.now c.in_default.len_below)

pub returns-then-len-body : goal.returns-then-len-body
returns-then-len-body c =
    let rest = c.in_ok-get.ensures.lookup.0.2 ∙ take_rest c.args.s.now c.args.at in
    head-long _ c.in-len2-up.len_at_least refl c.len_of-len.ensures c.if-len-body.true ∙ ap head_of rest

pub returns : goal.returns
returns c =
    let rest = c.in_ok-get.ensures.lookup.0.2 ∙ take_rest c.args.s.now c.args.at in
    head-whole _ c.in-len2-up.len_at_least c.kind_of.ensures c.len_of-len.ensures c.if-len-body.false ∙ ap head_of rest
