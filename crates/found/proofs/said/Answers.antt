-- `found::said` meets its contract: what is unread says nothing.
-- The law is unread-skipped of FieldLaws.
use mathlib.Core.Path.{sym, ◌∙◌}
use Rattle.fields.proofs.FieldLaws.{unread-skipped}
use Rattle.found.proofs.said.Goals as goal

pub returns-then-is_unread : goal.returns-then-is_unread
returns-then-is_unread c =
    sym (unread-skipped c.args.kind c.args.part.now (sym c.is_unread.ensures ∙ c.if-is_unread.true))
