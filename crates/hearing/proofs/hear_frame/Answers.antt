-- `hearing::hear_frame` meets its contract: the reader's refusal, or what the LLDPDU says (unread-tells, saying-tells).
-- The LLDPDU is cut out up to its End, so it has room in a place and says what the frame says; the source is its sender.
use mathlib.Core.Path.{refl, ◌∙◌}
use Rattle.place.specs.State.{state}
use Rattle.hearing.proofs.ReplyLaws.{tells, unread-tells, frame-short, same-outline, saying-tells}
use Rattle.hearing.proofs.hear_frame.Goals as goal

-- what is heard, text_of, stands behind the header and ends with its End (N3)
pub hear-requires : goal.hear-requires
hear-requires c =
    let f = c.args.frame.now in
    let o = c.outline_frame.ensures in
    let e = c.in-Ok.is in
    let t = c.text_of-l.ensures in
    (c.requires.0, (c.requires.1, (frame-short f o e t, same-outline f o e t)))

pub returns-in-Err : goal.returns-in-Err
returns-in-Err c =
    let a = c.args in
    tells c.reply_with.ensures refl ∙ unread-tells a.frame.now c.outline_frame.ensures a.p (state a.t a.buffer.now) c.in-Err.is

pub returns-in-Ok : goal.returns-in-Ok
returns-in-Ok c =
    let a = c.args in
    c.hear.ensures ∙ saying-tells a.frame.now c.outline_frame.ensures c.in-Ok.is c.text_of-l.ensures a.p (state a.t a.buffer.now) c.source_of.ensures
