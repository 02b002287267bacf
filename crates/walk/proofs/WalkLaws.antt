-- Laws of the walk: one header at a place, and one step of the walk by its place in the LLDPDU.
-- A loop over the TLVs cites walk_refused, walk_end and walk-next, and never sees the recursion.
use Prim.Native.Nat.{ℕ, zero, suc, ◌+◌, ◌-◌, ◌<◌, ◌≤◌}
use mathlib.Core.Path.{◌≡◌, refl, sym, ap, ◌∙◌}
use mathlib.Core.List.{List, [], ◌∷◌}
use mathlib.Core.Bool.{Bool, true, false}
use native.Mathlib.Omega.{arith}
use native.Mathlib.Nat.{add-zero}
use borrow.Author.Tests.{ne_eqb, le-leb, lt-leb, leb-true}
use lib.ListN.{length, take, drop, get_or, length-drop}
use lib.Seq.{drop-drop, take_all}
use lib.Dec.{leb, ltb, eqb}
use Rattle.tally.specs.Tests.{pick, both}
use Rattle.octets.specs.Header.{kind_in, length_in}
use Rattle.std.specs.Prelude.{Option, Some, None, Result, Ok, Err}
use Rattle.std.specs.Option.{ok_or}
use Rattle.refusal.specs.declared.Refusal.{Refusal}
use Rattle.refusal.specs.declared.Refusal.TheVariants.{RunsPast, OutOfPlace}
use Rattle.walk.specs.Walk.{header, head_of, step_of, on_step, walk}
use Rattle.walk.specs.declared.Head.{Head}
use Rattle.walk.specs.declared.Step.TheVariants.{End, Next}

-- The header at a place

pub head-short : (l : List ℕ) → length l < 2 → head_of l ≡ None
unfolding head_of
head-short [] h = refl
head-short (x ∷ []) h = refl
head-short (x ∷ y ∷ r) h = absurd (omega arith)

-- what the code has read of the header in front, and what is behind it
head-two : (l : List ℕ) {kind len : ℕ} → 2 ≤ length l → kind ≡ kind_in (get_or l 0 0) → len ≡ length_in (get_or l 0 0) (get_or l 1 0)
    → head_of l ≡ pick (leb len (length (take (length l - 2) (drop 2 l)))) (Some (header kind len)) None
unfolding head_of
head-two [] h p q = absurd (omega arith)
head-two (x ∷ []) h p q = absurd (omega arith)
head-two (hi ∷ lo ∷ r) h p q =
    let e : length (take (length (hi ∷ lo ∷ r) - 2) r) ≡ length r = ap length (take_all (length (hi ∷ lo ∷ r) - 2) r (omega arith)) in
    rw (p, q, e)

module _ (l : List ℕ) {kind len : ℕ} (h : 2 ≤ length l) (p : kind ≡ kind_in (get_or l 0 0)) (q : len ≡ length_in (get_or l 0 0) (get_or l 1 0)) where
  pub head-whole : len ≤ length (take (length l - 2) (drop 2 l)) → Some (header kind len) ≡ head_of l
  head-whole f = sym (head-two l h p q ∙ rw (le-leb len _ f))

  pub head-long : length (take (length l - 2) (drop 2 l)) < len → None ≡ head_of l
  head-long f = sym (head-two l h p q ∙ rw (lt-leb len _ f))

-- a whole TLV: its two octets, and that its information string is there
pub record IsWhole (l : List ℕ) (kind len : ℕ) : Type 0 where
  pub kind-is : kind_in (get_or l 0 0) ≡ kind
  pub len_is : length_in (get_or l 0 0) (get_or l 1 0) ≡ len
  pub fits : 2 + len ≤ length l

pub whole : (l : List ℕ) (kind len : ℕ) → head_of l ≡ Some (header kind len) → IsWhole l kind len
unfolding head_of
whole [] kind len e = absurd (cc)
whole (hi ∷ []) kind len e = absurd (cc)
whole (hi ∷ lo ∷ r) kind len e = go (leb (length_in hi lo) (length r)) refl e
  where
    go : (b : Bool) → leb (length_in hi lo) (length r) ≡ b → pick b (Some (header (kind_in hi) (length_in hi lo))) None ≡ Some (header kind len) → IsWhole (hi ∷ lo ∷ r) kind len
    go true t q =
        let p : header (kind_in hi) (length_in hi lo) ≡ header kind len = cc in
        let n = ap (λ (h : Head). h.len) p in
        record { kind-is = ap (λ (h : Head). h.kind) p; len_is = n; fits = omega (arith, n, leb-true (length_in hi lo) (length r) t) }
    go false t q = absurd (cc)

pub is_whole : (l : List ℕ) (kind len : ℕ) → IsWhole l kind len → head_of l ≡ Some (header kind len)
unfolding head_of
is_whole [] kind len i = absurd (omega arith)
is_whole (hi ∷ []) kind len i = absurd (omega arith)
is_whole (hi ∷ lo ∷ r) kind len i = rw (i.kind-is, i.len_is, le-leb len (length r) (omega arith))

pub whole-fits : (s : List ℕ) (at : ℕ) {kind len : ℕ} → head_of (drop at s) ≡ Some (header kind len) → at + 2 + len ≤ length s
whole-fits s at {kind} {len} e = omega (arith, (whole (drop at s) kind len e).fits, length-drop at s)

-- the header h, by what `ok_or` made of it
module _ {h r : Option Head} (p : r ≡ h) {d : Result Head Refusal} (q : d ≡ ok_or r RunsPast) where
  pub head-some : {x : Head} → d ≡ Ok x → h ≡ Some x
  head-some e = grind arith

  pub head-none : {y : Refusal} → d ≡ Err y → (h ≡ None) × (y ≡ RunsPast)
  head-none e = (grind arith, grind arith)

pub ruleset read = (head-some, head-none)

-- behind the first three, types 4 to 126 are passed whatever their length (L9)
pub other-passed : (kind len at : ℕ) → 3 < kind → kind < 127 → step_of (Some (header kind len)) at ≡ Ok (Next kind (at + 2) len)
unfolding step_of
other-passed kind len at h k = rw (ne_eqb kind 0 (λ e. omega arith), lt-leb kind 3 h, ne_eqb kind 127 (λ e. omega arith))

-- A step that goes on has a whole TLV

pub record Stepped (h : Option Head) (at kind start len : ℕ) : Type 0 where
  pub head : h ≡ Some (header kind len)
  pub place : start ≡ at + 2

pub stepped : (h : Option Head) (at : ℕ) {kind start len : ℕ} → step_of h at ≡ Ok (Next kind start len) → Stepped h at kind start len
unfolding step_of
stepped None at e = absurd (cc)
stepped (Some h) at {kind} {start} {len} e = go (eqb h.kind 0) (eqb h.len 0) (leb h.kind 3) (both (eqb h.kind 127) (ltb h.len 4)) e
  where
    go : (a b c d : Bool)
        → pick a (pick b (Ok (End (at + 2))) (Err OutOfPlace)) (pick c (Err OutOfPlace) (pick d (Err OutOfPlace) (Ok (Next h.kind (at + 2) h.len)))) ≡ Ok (Next kind start len)
        → Stepped (Some h) at kind start len
    go true true c d q = absurd (cc)
    go true false c d q = absurd (cc)
    go false b true d q = absurd (cc)
    go false b false true q = absurd (cc)
    go false b false false q =
        let k : h.kind ≡ kind = cc in
        let n : h.len ≡ len = cc in
        record { head = λ i. Some (header (k i) (n i)); place = cc }

-- The walk by places

pub walk-drop : (l : List ℕ) (k at : ℕ) → walk l k at ≡ walk (drop k l) 0 (at + k)
unfolding walk
walk-drop [] zero at = refl
walk-drop [] (suc k) at = refl
walk-drop (x ∷ l) zero at = ap (walk (x ∷ l) 0) (sym (add-zero at))
walk-drop (x ∷ l) (suc k) at = walk-drop l k (at + 1) ∙ ap (walk (drop k l) 0) (omega arith)

pub walk_step : (l : List ℕ) (at : ℕ)
    → walk l 0 at
    ≡ on_step (step_of (head_of l) at) (take (length_in (get_or l 0 0) (get_or l 1 0)) (drop 2 l))
    (walk (drop (length_in (get_or l 0 0) (get_or l 1 0)) (drop 2 l)) 0 (at + 2 + length_in (get_or l 0 0) (get_or l 1 0)))
unfolding walk head_of step_of
walk_step [] at = refl
walk_step (hi ∷ []) at = refl
walk_step (hi ∷ lo ∷ r) at = ap (on_step (step_of (head_of (hi ∷ lo ∷ r)) at) (take (length_in hi lo) r)) (walk-drop r (length_in hi lo) (at + 2))

module _ (s : List ℕ) (at : ℕ) where
  pub walk_refused : {r : Refusal} → step_of (head_of (drop at s)) at ≡ Err r → walk (drop at s) 0 at ≡ record { extent = Err r; tlvs = [] }
  walk_refused e = walk_step (drop at s) at ∙ rw e

  pub walk_end : {end : ℕ} → step_of (head_of (drop at s)) at ≡ Ok (End end) → walk (drop at s) 0 at ≡ record { extent = Ok end; tlvs = [] }
  walk_end e = walk_step (drop at s) at ∙ rw e

  module _ {kind start len : ℕ} (e : step_of (head_of (drop at s)) at ≡ Ok (Next kind start len)) where
    pub next_fits : start + len ≤ length s
    next_fits =
        let t = stepped (head_of (drop at s)) at e in
        omega (arith, t.place, whole-fits s at t.head)

    pub next-on : at < start
    next-on = omega (arith, (stepped (head_of (drop at s)) at e).place)

    pub walk-next : walk (drop at s) 0 at
        ≡ on_step (Ok (Next kind start len)) (take len (drop start s)) (walk (drop (start + len) s) 0 (start + len))
    walk-next =
        let t = stepped (head_of (drop at s)) at e in
        let w = whole (drop at s) kind len t.head in
        walk_step (drop at s) at ∙ rw (e, w.len_is, drop-drop 2 at s, drop-drop len (at + 2) s, ← t.place)

-- what a loop over the TLVs cites
pub ruleset walking = (walk_refused, walk_end, walk-next, next_fits, next-on)
