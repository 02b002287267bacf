-- The rows of R4 to R6 are the extent's: the first that is due is the refusal of the LLDPDU, and with none of them what follows decides.
-- The walk is taken TLV by TLV, as its definition goes.
use Prim.Native.Nat.{ℕ, zero, suc, ◌+◌}
use mathlib.Core.Path.{◌≡◌, refl}
use mathlib.Core.List.{List, [], ◌∷◌}
use mathlib.Core.Bool.{Bool, true, false, not}
use native.Mathlib.Omega.{arith}
use borrow.Author.Tests.{eqb-true, ne_eqb}
use lib.ListN.{length, take, drop}
use lib.Dec.{leb, ltb, eqb}
use Rattle.tally.specs.Tests.{pick, both, either}
use Rattle.tally.specs.Due.{first_due}
use Rattle.tally.proofs.TestsLaws.{above-0}
use Rattle.octets.specs.Header.{kind_in, length_in}
use Rattle.std.specs.Prelude.{Option, Some, None, Ok, Err}
use Rattle.refusal.specs.declared.Refusal.TheVariants.{NotAsDue, OutOfPlace}
use Rattle.refusal.specs.Refusal.{number_of}
use Rattle.walk.specs.Walk.{Extent, header, head_of, step_of, on_step, walk, Walked}
use Rattle.walk.specs.declared.Head.{Head}
use Rattle.walk.specs.declared.Step.TheVariants.{End, Next}
use Rattle.lldpdu.specs.Extent.{port_place, seconds_place, rest_place, is_chassis, is_port, seconds_ok, need, rest_of, behind_port, behind_chassis, extent_of}
use Rattle.lldpdu.specs.Rows.{runs_past, fails, tlv_rows, later_ok, later_rows, rows_of}

-- an extent's refusal, or the number that is due behind it
abbrev pub due_in : Extent → ℕ → ℕ
due_in (Ok e) rest = rest
due_in (Err r) rest = number_of r

need-rows : (h : Option Head) (ok : ℕ → ℕ → Bool) (next : Extent) (rest : ℕ) {due : ℕ}
    → due ≡ due_in next rest → pick (runs_past h) 5 (pick (fails h ok) 4 due) ≡ due_in (need h ok next) rest
need-rows None ok next rest e = refl
need-rows (Some h) ok next rest {due} e = go (ok h.kind h.len)
  where
    go : (b : Bool) → pick (not b) 4 due ≡ due_in (pick b next (Err NotAsDue)) rest
    go true = e
    go false = refl

due-pick : (b : Bool) (x y : List (Bool × ℕ)) → first_due (pick b x y) ≡ pick b (first_due x) (first_due y)
due-pick true x y = refl
due-pick false x y = refl

-- one later TLV, with the walk behind it
later_rows_lem : (kind len : ℕ) (at : ℕ) (b : List ℕ) (walked : Walked) (more rest : List (Bool × ℕ))
    → first_due more ≡ due_in walked.extent (first_due rest)
    → first_due (tlv_rows (Some (header kind len)) later_ok 6 (pick (both (eqb kind 0) (eqb len 0)) rest more))
    ≡ due_in (on_step (step_of (Some (header kind len)) at) b walked).extent (first_due rest)
unfolding step_of
later_rows_lem kind len at b walked more rest e =
    rw (above-0 kind, due-pick (both (eqb kind 0) (eqb len 0)) rest more)
    (go (eqb kind 0) (eqb len 0) (leb kind 3) (eqb kind 127) (ltb len 4) (λ z. ne_eqb kind 127 (λ q. absurd (omega (arith, eqb-true kind 0 z)))))
  where
    go : (nul bare few org short : Bool) → (nul ≡ true → org ≡ false)
        → pick (not (not (either (both (not nul) few) (either (both nul (not bare)) (both org short))))) 6 (pick (both nul bare) (first_due rest) (first_due more))
        ≡ due_in (on_step (pick nul (pick bare (Ok (End (at + 2))) (Err OutOfPlace)) (pick few (Err OutOfPlace) (pick (both org short) (Err OutOfPlace) (Ok (Next kind (at + 2) len))))) b walked).extent (first_due rest)
    go true true few true short z = let q : ◌≡◌ {A = Bool} true false = z refl in cc
    go true true few false short z = refl
    go true false few org short z = refl
    go false bare true org short z = refl
    go false bare false true true z = refl
    go false bare false true false z = e
    go false bare false false short z = e

walk_rows : (l : List ℕ) (k at : ℕ) (rest : List (Bool × ℕ)) → first_due (later_rows l k rest) ≡ due_in (walk l k at).extent (first_due rest)
unfolding walk later_rows head_of step_of
walk_rows [] k at rest = refl
walk_rows (x ∷ l) (suc k) at rest = walk_rows l k (at + 1) rest
walk_rows (hi ∷ []) zero at rest = refl
walk_rows (hi ∷ lo ∷ r) zero at rest = go (leb (length_in hi lo) (length r)) (walk_rows r (length_in hi lo) (at + 2) rest)
  where
    kind : ℕ
    kind = kind_in hi

    len : ℕ
    len = length_in hi lo

    more : Walked
    more = walk r len (at + 2)

    go : (b : Bool) → first_due (later_rows r len rest) ≡ due_in more.extent (first_due rest)
        → first_due (tlv_rows (pick b (Some (header kind len)) None) later_ok 6 (pick (both (eqb kind 0) (eqb len 0)) rest (later_rows r len rest)))
        ≡ due_in (on_step (step_of (pick b (Some (header kind len)) None) at) (take len r) more).extent (first_due rest)
    go true ih = later_rows_lem kind len at (take len r) more (later_rows r len rest) rest ih
    go false ih = refl

pub extent-rows : (s : List ℕ) (rest : List (Bool × ℕ)) → first_due (rows_of s rest) ≡ due_in (extent_of s) (first_due rest)
unfolding extent_of behind_chassis behind_port rows_of
extent-rows s rest =
    need-rows (head_of (drop 0 s)) (λ kind len. is_chassis s kind) (behind_chassis s) (first_due rest)
    (need-rows (head_of (drop (port_place s) s)) (λ kind len. is_port s kind) (behind_port s) (first_due rest)
    (need-rows (head_of (drop (seconds_place s) s)) seconds_ok (rest_of s).extent (first_due rest)
    (walk_rows (drop (rest_place s) s) 0 (rest_place s) rest)))
