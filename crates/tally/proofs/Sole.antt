-- Two answers that one contract allows are one answer, and so are two outputs: the form in which that is said of every public function.
-- P is a function's contract as the toolchain reads it: of the lifetimes, the arguments, the answer and the parameters at exit.
use Prim.Native.Nat.{ℕ}
use mathlib.Core.Path.{◌≡◌}
use mathlib.Core.List.{List}
use borrow.Fn.Kinds.{ParamKind, ResultKind, Out, Dens, res_t, ended_of}
use contract.Lifetimes.{Lfts}
use denote.Triple.Clauses.{AtExit}

abbrev pub Sole : (n : ℕ) (ps : List (ParamKind n)) (k : ResultKind n) → Out n ps k → Type 0
Sole n ps k P =
    (κs : Lfts n) (a : Dens κs ps) (r q : (res_t k κs).Denot) (x y : AtExit (ended_of n ps k) κs) → P κs a r x → P κs a q y → r ≡ q

-- the same of what a lent slice holds at exit; f says which parameter it is
abbrev pub SoleAt : (n : ℕ) (ps : List (ParamKind n)) (k : ResultKind n) → Out n ps k → ((κs : Lfts n) → AtExit (ended_of n ps k) κs → List ℕ) → Type 0
SoleAt n ps k P f =
    (κs : Lfts n) (a : Dens κs ps) (r q : (res_t k κs).Denot) (x y : AtExit (ended_of n ps k) κs) → P κs a r x → P κs a q y → f κs x ≡ f κs y
