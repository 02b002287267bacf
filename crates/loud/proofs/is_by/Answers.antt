-- `loud::is_by` meets its contract: a free place and another port decide at once, else the chassis of what is kept.
-- The last return is by-chassis of ByLaws, those before it `otherwise`.
use Prim.Native.Nat.{ℕ}
use mathlib.Core.Path.{ap, ◌∙◌}
use mathlib.Core.List.{List}
use native.Mathlib.Omega.{arith}
use Rattle.ids.specs.Id.{id_meant, same_id}
use Rattle.ids.specs.declared.IdPart.{IdPart}
use Rattle.rules.specs.Shares.{chassis_is}
use Rattle.place.specs.State.{record_passes}
use Rattle.loud.proofs.ByLaws.{by-chassis}
use Rattle.loud.proofs.is_by.Goals as goal

pub returns : goal.returns
returns c =
    let a = c.args in
    let l = c.lldpdu_at-l.result.now in
    let asked = id_meant a.text.now a.chassis in
    c.same_id.ensures
    ∙ ap (λ (i : IdPart). same_id (id_meant l i) asked) c.chassis_of.ensures
    ∙ by-chassis a.length a.origin l a.p asked (λ e. omega arith) (omega arith)
    ∙ ap (λ (k : List ℕ). record_passes a.length a.origin k (chassis_is a.p asked)) c.lldpdu_at-l.ensures
