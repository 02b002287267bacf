-- `octet_table::table_in` meets its contract: each array is what its slice means, since octets brought to the full length mean the same.
-- The four equations make the struct's.
use Prim.Native.Nat.{ℕ}
use mathlib.Core.Path.{sym, ap, ◌∙◌}
use mathlib.Core.List.{List}
use lib.ListN.{length}
use Rattle.whole.proofs.WholeLaws.{filled-length}
use Rattle.octet_table.specs.Lent.{one_per_place, numbers_in, senders_in, table_in}
use Rattle.octet_table.proofs.LentLaws.{one_each, full-ports, full-numbers, full-senders}
use Rattle.octet_table.proofs.table_in.Goals as goal

pub returns : goal.returns
unfolding table_in
returns c =
    let a = sym (one_each _ (ap (λ (l : List ℕ). length l) c.fill.ensures ∙ filled-length _ _)) ∙ ap one_per_place c.fill.ensures ∙ full-ports _ in
    let b = c.numbers_in.ensures ∙ ap numbers_in c.fill-2.ensures ∙ full-numbers _ in
    let d = c.numbers_in-2.ensures ∙ ap numbers_in c.fill-3.ensures ∙ full-numbers _ in
    let e = c.senders_in.ensures ∙ ap senders_in c.fill-4.ensures ∙ full-senders _ in
    λ i. record { port = a i; seconds = b i; length = d i; sender = e i }
