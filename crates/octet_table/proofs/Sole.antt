-- For each public function of this crate: two answers that its contract allows are one, and so are the slices that it puts a table into.
-- The contracts are the toolchain's own reading of the source (`Post` of each function's `Reads`).
use mathlib.Core.Path.{◌≡◌, sym, ◌∙◌}
use borrow.Fn.Kinds.{Dens, res_t, ended_of}
use contract.Lifetimes.{Lfts}
use denote.Triple.Clauses.{AtExit}
use Rattle.tally.proofs.Sole.{Sole}
use Rattle.octet_table.specs.Lent.{Lent, lent}
use Rattle.octet_table.proofs.lengths_fit.Kinds as lengths-fit-kinds
use Rattle.octet_table.proofs.lengths_fit.Reads as lengths-fit
use Rattle.octet_table.proofs.table_in.Kinds as table-in-kinds
use Rattle.octet_table.proofs.table_in.Reads as table-in
use Rattle.octet_table.proofs.put_table.Kinds as put-table-kinds
use Rattle.octet_table.proofs.put_table.Reads as put-table

pub lengths-fit-sole : Sole 0 lengths-fit-kinds.ps lengths-fit-kinds.r lengths-fit.Post
lengths-fit-sole κs a r q x y e f = e ∙ sym f

pub table-in-sole : Sole 4 table-in-kinds.ps table-in-kinds.r table-in.Post
table-in-sole κs a r q x y e f = e ∙ sym f

-- the four slices at exit
abbrev slices : (κs : Lfts 4) → AtExit (ended_of 4 put-table-kinds.ps put-table-kinds.r) κs → Lent
slices κs x = lent x.1.0.now x.1.1.0.now x.1.1.1.0.now x.1.1.1.1.0.now

pub put-table-sole : (κs : Lfts 4) (a : Dens κs put-table-kinds.ps) (r q : (res_t put-table-kinds.r κs).Denot) (x y : AtExit (ended_of 4 put-table-kinds.ps put-table-kinds.r) κs)
    → put-table.Post κs a r x → put-table.Post κs a q y → slices κs x ≡ slices κs y
put-table-sole κs a r q x y e f = e.exact ∙ sym f.exact
