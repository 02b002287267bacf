-- An LLDPDU is refused with 4, 5 or 6 and nothing else (R4 to R6).
-- The walk gives 5 or 6, the first three TLVs 4 or 5.
use Prim.{Unit, tt}
use Prim.Native.Nat.{ℕ, zero, suc, ◌+◌, ◌≤◌}
use mathlib.Core.Path.{◌≡◌, refl, subst}
use mathlib.Core.List.{List, [], ◌∷◌}
use mathlib.Core.Bool.{Bool, true, false}
use native.Mathlib.Omega.{arith}
use lib.ListN.{take, drop}
use lib.Dec.{leb, ltb, eqb}
use Rattle.tally.specs.Tests.{pick, both}
use Rattle.octets.specs.Header.{length_in}
use Rattle.std.specs.Prelude.{Option, Some, None, Result, Ok, Err}
use Rattle.refusal.specs.declared.Refusal.{Refusal}
use Rattle.refusal.specs.declared.Refusal.TheVariants.{NotAsDue, RunsPast, OutOfPlace}
use Rattle.refusal.specs.Refusal.{number_of}
use Rattle.walk.specs.Walk.{Extent, head_of, step_of, on_step, walk}
use Rattle.lldpdu.specs.Extent.{port_place, seconds_place, rest_place, is_chassis, is_port, seconds_ok, need, rest_of, behind_port, behind_chassis, extent_of}
use Rattle.walk.specs.declared.Head.{Head}
use Rattle.walk.specs.declared.Step.{Step}
use Rattle.walk.specs.declared.Step.TheVariants.{End, Next}

abbrev pub Few : Extent → Type 0
Few (Ok e) = Unit {0}
Few (Err r) = (4 ≤ number_of r) × (number_of r ≤ 6)

-- a refusal by its name
by-name : {r q : Refusal} → Few (Err q) → q ≡ r → Few (Err r)
by-name {r} f e = subst (λ (x : Refusal). Few (Err x)) e f

step-few : (h : Option Head) (at : ℕ) {r : Refusal} → step_of h at ≡ Err r → Few (Err r)
unfolding step_of
step-few None at e = by-name {q = RunsPast} (omega arith, omega arith) (cc)
step-few (Some h) at {r} e = go (eqb h.kind 0) (eqb h.len 0) (leb h.kind 3) (both (eqb h.kind 127) (ltb h.len 4)) e
  where
    six : {q : Refusal} → OutOfPlace ≡ q → Few (Err q)
    six = by-name (omega arith, omega arith)

    go : (a b c d : Bool)
        → pick a (pick b (Ok (End (at + 2))) (Err OutOfPlace)) (pick c (Err OutOfPlace) (pick d (Err OutOfPlace) (Ok (Next h.kind (at + 2) h.len)))) ≡ Err r
        → Few (Err r)
    go true true c d q = absurd (cc)
    go true false c d q = six (cc)
    go false b true d q = six (cc)
    go false b false true q = six (cc)
    go false b false false q = absurd (cc)

walk-few : (l : List ℕ) (k at : ℕ) → Few (walk l k at).extent
unfolding walk
walk-few [] k at = (omega arith, omega arith)
walk-few (x ∷ l) (suc k) at = walk-few l k (at + 1)
walk-few (hi ∷ []) zero at = (omega arith, omega arith)
walk-few (hi ∷ lo ∷ r) zero at = go (step_of (head_of (hi ∷ lo ∷ r)) at) refl (walk-few r (length_in hi lo) (at + 2))
  where
    go : (x : Result Step Refusal) → step_of (head_of (hi ∷ lo ∷ r)) at ≡ x → Few (walk r (length_in hi lo) (at + 2)).extent
        → Few (on_step x (take (length_in hi lo) r) (walk r (length_in hi lo) (at + 2))).extent
    go (Err n) e ih = step-few (head_of (hi ∷ lo ∷ r)) at e
    go (Ok (End end)) e ih = tt
    go (Ok (Next kind start len)) e ih = ih

need-few : (h : Option Head) (ok : ℕ → ℕ → Bool) (next : Extent) → Few next → Few (need h ok next)
need-few None ok next f = (omega arith, omega arith)
need-few (Some h) ok next f = go (ok h.kind h.len)
  where
    go : (b : Bool) → Few (pick b next (Err NotAsDue))
    go true = f
    go false = (omega arith, omega arith)

pub extent-few : (s : List ℕ) → Few (extent_of s)
unfolding extent_of behind_chassis behind_port
extent-few s =
    need-few (head_of (drop 0 s)) (λ kind len. is_chassis s kind) (behind_chassis s)
    (need-few (head_of (drop (port_place s) s)) (λ kind len. is_port s kind) (behind_port s)
    (need-few (head_of (drop (seconds_place s) s)) seconds_ok (rest_of s).extent (walk-few (drop (rest_place s) s) 0 (rest_place s))))
