-- `naming::link_naming` meets its contract: the answer on a valid LLDPDU is the one answer (names-exactly).
-- A refusal alone is found by names_refused.
use mathlib.Core.Path.{◌≡◌, ap, ◌∙◌}
use borrow.Author.Rules.{rules}
use Rattle.std.specs.Prelude.{Ok}
use Rattle.lldpdu.specs.Extent.{extent_of}
use Rattle.naming.proofs.NamingLaws.{valid-naming, names-exactly}
use Rattle.naming.proofs.link_naming.Goals as goal

pub returns : goal.returns
returns c =
    let s = c.args.s.now in
    let a = c.args.address in
    let v : extent_of s ≡ Ok c.in_ok-extent_of.field-0 = search rules in
    names-exactly s a (ap Ok c.rest_naming.ensures ∙ valid-naming s a v)
