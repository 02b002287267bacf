-- For each public function of this crate: two outputs that its contract allows have the same octets and end at the same place, and so do two answers.
-- The contracts are the toolchain's own reading of the source (`Post` of each `Reads`).
use Prim.Native.Nat.{ℕ}
use mathlib.Core.Path.{◌≡◌, sym, ap, ◌∙◌}
use mathlib.Core.List.{List}
use borrow.Fn.Kinds.{ParamKind, ResultKind, Out, Dens, res_t, ended_of}
use contract.Lifetimes.{Lfts}
use denote.Triple.Clauses.{AtExit}
use Rattle.output.specs.Output.{Output, seen, Put}
use Rattle.output.specs.declared.Output.{Output as Lent}
use Rattle.output.proofs.Output.put_octet.Kinds as octet-kinds
use Rattle.output.proofs.Output.put_octet.Reads as octet
use Rattle.output.proofs.Output.new.Kinds as new_kinds
use Rattle.output.proofs.Output.new.Reads as new
use Rattle.output.proofs.Output.at.Kinds as behind_kinds
use Rattle.output.proofs.Output.at.Reads as behind
use Rattle.output.proofs.Output.end.Kinds as end_kinds
use Rattle.output.proofs.Output.end.Reads as end
use Rattle.output.proofs.Output.front.Kinds as front_kinds
use Rattle.output.proofs.Output.front.Reads as front
use Rattle.output.proofs.put_all.Kinds as at_kinds
use Rattle.output.proofs.put_all.Reads as at
use Rattle.output.proofs.Output.put_all.Kinds as all_kinds
use Rattle.output.proofs.Output.put_all.Reads as all

-- of a function that puts octets, with a contract P; f says which parameter is the output
abbrev pub SolePut : (n : ℕ) (ps : List (ParamKind n)) (k : ResultKind n) → Out n ps k → ((κs : Lfts n) → AtExit (ended_of n ps k) κs → Lent) → Type 0
SolePut n ps k P f =
    (κs : Lfts n) (a : Dens κs ps) (r q : (res_t k κs).Denot) (x y : AtExit (ended_of n ps k) κs) → P κs a r x → P κs a q y → seen (f κs x) ≡ seen (f κs y)

-- two outputs into which the same was put
pub same-put : {x : List ℕ} {o p q : Lent} → Put x o p → Put x o q → seen p ≡ seen q
same-put e f = e.put ∙ sym f.put

pub put-octet-sole : SolePut 2 octet-kinds.ps octet-kinds.r octet.Post (λ κs x. x.0.now)
put-octet-sole κs a r q x y = same-put

pub put-all-sole : SolePut 3 all_kinds.ps all_kinds.r all.Post (λ κs x. x.0.now)
put-all-sole κs a r q x y = same-put

-- of octets put at a place: the place behind them, and what the slice then holds
pub put-at-sole : (κs : Lfts 2) (a : Dens κs at_kinds.ps) (r q : (res_t at_kinds.r κs).Denot) (x y : AtExit (ended_of 2 at_kinds.ps at_kinds.r) κs)
    → at.Post κs a r x → at.Post κs a q y → (r ≡ q) × (x.0.now ≡ y.0.now)
put-at-sole κs a r q x y e f = (ap (λ (o : Output). o.end) (e ∙ sym f), ap (λ (o : Output). o.octets) (e ∙ sym f))

-- an output in which nothing stands yet
pub new-sole : (κs : Lfts 1) (a : Dens κs new_kinds.ps) (r q : (res_t new_kinds.r κs).Denot) (x y : AtExit (ended_of 1 new_kinds.ps new_kinds.r) κs)
    → new.Post κs a r x → new.Post κs a q y → seen r ≡ seen q
new-sole κs a r q x y e f = e.1 ∙ sym f.1

-- one behind so many octets
pub at-sole : (κs : Lfts 1) (a : Dens κs behind_kinds.ps) (r q : (res_t behind_kinds.r κs).Denot) (x y : AtExit (ended_of 1 behind_kinds.ps behind_kinds.r) κs)
    → behind.Post κs a r x → behind.Post κs a q y → seen r ≡ seen q
at-sole κs a r q x y e f = e.1 ∙ sym f.1

pub end-sole : (κs : Lfts 2) (a : Dens κs end_kinds.ps) (r q : (res_t end_kinds.r κs).Denot) (x y : AtExit (ended_of 2 end_kinds.ps end_kinds.r) κs)
    → end.Post κs a r x → end.Post κs a q y → r ≡ q
end-sole κs a r q x y e f = e ∙ sym f

-- what was put: its octets
pub front-sole : (κs : Lfts 2) (a : Dens κs front_kinds.ps) (r q : (res_t front_kinds.r κs).Denot) (x y : AtExit (ended_of 2 front_kinds.ps front_kinds.r) κs)
    → front.Post κs a r x → front.Post κs a q y → r.now ≡ q.now
front-sole κs a r q x y e f = e ∙ sym f
