-- `questions::sight_from` meets its contract: what is left to search gives the answer of the whole.
-- One place more is one step (sight-step); behind the last place there is nobody (sight-end).
use mathlib.Core.Path.{◌≡◌, refl, sym, ◌∙◌}
use mathlib.Core.Logic.{◌≢◌}
use native.Mathlib.Omega.{arith}
use borrow.Author.Rules.{rules}
use Rattle.std.specs.Prelude.{Option, Some, None}
use Rattle.naming.specs.declared.Naming.{Naming}
use Rattle.numbers.specs.Sizes.{places}
use Rattle.place.specs.State.{state, at}
use Rattle.questions.proofs.QuestionLaws.{kept-valid, naming-there, sight-step, sight-end}
use Rattle.questions.proofs.sight_from.Goals as goal

unnamed : (x : Option Naming) → ((n : Naming) → x ≢ Some n) → x ≡ None
unnamed None h = refl
unnamed (Some n) h = absurd (h n refl)

pub naming_in_place-requires : goal.naming_in_place-requires
unfolding at
naming_in_place-requires c =
    kept-valid (state c.args.t c.args.buffer.now) c.requires c.loop-i.i (search rules)

pub returns-in-Some : goal.returns-in-Some
unfolding at
returns-in-Some c =
    let a = c.args in
    let s = state a.t a.buffer.now in
    let told = c.naming_in_place.ensures ∙ naming-there s a.address c.loop-i.i (search rules) in
    sym (c.loop-i.invariant ∙ sight-step s a.address c.loop-i.i places (search rules) (sym told ∙ c.in-Some.is))

pub loop-i-preserved : goal.loop-i-preserved
unfolding at
loop-i-preserved c =
    let a = c.args in
    let s = state a.t a.buffer.now in
    let told = c.naming_in_place.ensures ∙ naming-there s a.address c.loop-i.i (search rules) in
    c.loop-i.invariant ∙ sight-step s a.address c.loop-i.i places (search rules) (sym told ∙ unnamed _ c.in_default.not-Some)

pub returns : goal.returns
returns c =
    let a = c.args in
    sym (c.loop-i.invariant ∙ sight-end (state a.t a.buffer.now) a.address c.loop-i.i places (omega arith))
