-- `replay::finish` meets its contract: a sound place has its answer, any other gets 1.
-- Both returns are laws of the end of a file (ends-sound, ends-unsound).
use mathlib.Core.Path.{refl, sym, ◌∙◌}
use Rattle.replay.proofs.EndLaws.{ends-sound, ends-unsound}
use Rattle.replay.proofs.finish.Goals as goal

pub returns-then-not-is_sound : goal.returns-then-not-is_sound
returns-then-not-is_sound c =
    ends-unsound c.args.r (sym c.is_sound.ensures ∙ c.if-not-is_sound.true) refl

pub returns : goal.returns
returns c =
    ends-sound c.args.r (sym c.is_sound.ensures ∙ c.if-not-is_sound.false) c.end_at.ensures
