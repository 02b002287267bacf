-- Laws of the extent: a whole TLV and its ID, and a valid LLDPDU as a record of facts.
-- `good` and `reads` pass between the answer and the facts, so that later laws build or take apart a `Good` and nothing else.
use Prim.Native.Nat.{ℕ, ◌+◌, ◌-◌, ◌≤◌}
use mathlib.Core.Path.{◌≡◌, refl, sym, ap, ap₂, ◌∙◌}
use mathlib.Core.List.{List}
use mathlib.Core.Bool.{Bool, true, false}
use native.Mathlib.Omega.{arith}
use native.Mathlib.Nat.{add-zero}
use borrow.Author.Tests.{eqb-true}
use lib.ListN.{length, take, drop, get_or, length-drop}
use lib.Seq.{get_or-drop, length-take-le}
use lib.Dec.{eqb}
use Rattle.std.specs.Prelude.{Option, Some, None, Result, Ok, Err}
use Rattle.tally.specs.Tests.{pick}
use Rattle.tally.proofs.TestsLaws.{both_true}
use Rattle.octets.specs.Header.{length_in}
use Rattle.walk.specs.Walk.{Extent, header, head_of}
use Rattle.lldpdu.specs.Extent.{length_at, port_place, seconds_place, id_in, is_chassis, is_port, seconds_ok, need, rest_of, behind_port, behind_chassis, extent_of}
use Rattle.lldpdu.specs.Outline.{outline_at, outline_of, extent_in, seconds_told}
use Rattle.ids.specs.Id.{id, chassis_ok, port_ok}
use Rattle.ids.proofs.IdLaws.{chassis-short, port-short, no-chassis, no-port}
use Rattle.walk.proofs.WalkLaws.{whole, whole-fits}
use Rattle.walk.specs.declared.Head.{Head}
use Rattle.refusal.specs.declared.Refusal.{Refusal}
use Rattle.refusal.specs.declared.Refusal.TheVariants.{NotAsDue}

-- the facts behind an answer that is no refusal
pub record Needed {A : Type 0} (h : Option Head) (ok : ℕ → ℕ → Bool) (next : Result A Refusal) (e : A) : Type 0 where
  pub kind : ℕ
  pub len : ℕ
  pub head : h ≡ Some (header kind len)
  pub passes : ok kind len ≡ true
  pub onward : next ≡ Ok e

pub needed : {A : Type 0} (h : Option Head) (ok : ℕ → ℕ → Bool) (next : Result A Refusal) (e : A) → need h ok next ≡ Ok e → Needed h ok next e
needed None ok next e q = cc
needed (Some x) ok next e q = go (ok x.kind x.len) refl q
  where
    go : (b : Bool) → ok x.kind x.len ≡ b → pick b next (Err NotAsDue) ≡ Ok e → Needed (Some x) ok next e
    go true p w = record { kind = x.kind; len = x.len; head = refl; passes = p; onward = w }
    go false p w = cc

-- A whole TLV at a place

module _ (s : List ℕ) (at : ℕ) {kind len : ℕ} (e : head_of (drop at s) ≡ Some (header kind len)) where
  pub length-at : len ≡ length_at s at
  length-at =
      sym (whole (drop at s) kind len e).len_is
      ∙ ap₂ length_in (get_or-drop at s 0 0 ∙ ap (λ (k : ℕ). get_or s k 0) (add-zero at)) (get_or-drop at s 1 0)

  -- all octets of its ID are there
  pub id-octets : length (id_in s at).octets ≡ length_at s at - 1
  id-octets =
      length-take-le (length_at s at - 1) (drop (at + 3) s) (omega (arith, length-at, whole-fits s at e, length-drop (at + 3) s))

  -- L as the code has it, and that the information string is there
  pub there : (len ≡ length_at s at) × (at + 2 + len ≤ length s)
  there = (length-at, whole-fits s at e)

  -- L of seconds to live, of a chassis ID, and of a port ID
  pub seconds-inside : seconds_ok kind len ≡ true → at + 4 ≤ length s
  seconds-inside q = omega (arith, whole-fits s at e, eqb-true len 2 (both_true (eqb kind 3) (eqb len 2) q).1)

  pub chassis-length : chassis_ok (id_in s at) ≡ true → (2 ≤ length_at s at) × (length_at s at ≤ 65)
  chassis-length q = let h = chassis-short (id_in s at) q in (omega (arith, id-octets), omega (arith, id-octets))

  pub port-length : port_ok (id_in s at) ≡ true → (2 ≤ length_at s at) × (length_at s at ≤ 256)
  port-length q = let h = port-short (id_in s at) q in (omega (arith, id-octets), omega (arith, id-octets))

-- The ID in an information string of len octets, as the code cuts it: from behind the subtype to the end, or none
module _ (s : List ℕ) (at : ℕ) {len : ℕ} (n : len ≡ length_at s at) where
  pub id-part : {end : ℕ} → end ≡ at + 2 + len → id (get_or s (at + 2) 0) (take (end - (at + 3)) (drop (at + 3) s)) ≡ id_in s at
  id-part {end} e =
      let m : end - (at + 3) ≡ length_at s at - 1 = omega (arith, n, e) in
      ap (λ (k : ℕ). id (get_or s (at + 2) 0) (take k (drop (at + 3) s))) m

-- without a subtype there is no ID, of a chassis or of a port
id-none : (s : List ℕ) (at : ℕ) → length_at s at ≡ 0 → length (id_in s at).octets ≡ 0
id-none s at e = ap (λ (k : ℕ). length (take (k - 1) (drop (at + 3) s))) e

pub bare-chassis : (s : List ℕ) → length_at s 0 ≡ 0 → chassis_ok (id_in s 0) ≡ false
bare-chassis s e = no-chassis (id_in s 0) (id-none s 0 e)

pub bare-port : (s : List ℕ) {at : ℕ} → at ≡ port_place s → length_at s at ≡ 0 → port_ok (id_in s (port_place s)) ≡ false
bare-port s p e = no-port (id_in s (port_place s)) (id-none s (port_place s) (ap (length_at s) (sym p) ∙ e))

pub ruleset bare = (bare-chassis, bare-port, id-part)

-- A valid LLDPDU of e octets

abbrev pub some_header : ℕ → ℕ → Option Head
some_header kind len = Some (header kind len)

pub record Good (s : List ℕ) (e : ℕ) : Type 0 where
  pub first : head_of (drop 0 s) ≡ Some (header 1 (length_at s 0))
  pub chassis : chassis_ok (id_in s 0) ≡ true
  pub second : head_of (drop (port_place s) s) ≡ Some (header 2 (length_at s (port_place s)))
  pub port : port_ok (id_in s (port_place s)) ≡ true
  pub third : head_of (drop (seconds_place s) s) ≡ Some (header 3 2)
  pub rest : (rest_of s).extent ≡ Ok e

pub reads : (s : List ℕ) (e : ℕ) → Good s e → extent_of s ≡ Ok e
unfolding extent_of behind_chassis behind_port
reads s e g = rw (g.first, g.chassis, g.second, g.port, g.third, g.rest)

pub good : (s : List ℕ) (e : ℕ) → extent_of s ≡ Ok e → Good s e
unfolding extent_of behind_chassis behind_port
good s e q =
    let a = needed (head_of (drop 0 s)) (λ kind len. is_chassis s kind) (behind_chassis s) e q in
    let b = needed (head_of (drop (port_place s) s)) (λ kind len. is_port s kind) (behind_port s) e a.onward in
    let c = needed (head_of (drop (seconds_place s) s)) seconds_ok (rest_of s).extent e b.onward in
    let x = both_true (eqb a.kind 1) (chassis_ok (id_in s 0)) a.passes in
    let y = both_true (eqb b.kind 2) (port_ok (id_in s (port_place s))) b.passes in
    let z = both_true (eqb c.kind 3) (eqb c.len 2) c.passes in
    record {
      first = a.head ∙ ap₂ some_header (eqb-true a.kind 1 x.0) (length-at s 0 a.head);
      chassis = x.1;
      second = b.head ∙ ap₂ some_header (eqb-true b.kind 2 y.0) (length-at s (port_place s) b.head);
      port = y.1;
      third = c.head ∙ ap₂ some_header (eqb-true c.kind 3 z.0) (eqb-true c.len 2 z.1);
      rest = c.onward;
    }

-- an outline has the extent that it is made for, and so that of its LLDPDU
pub extent-at : (x : Extent) (l : List ℕ) → extent_in (outline_at x l) ≡ x
extent-at (Ok e) l = refl
extent-at (Err r) l = refl

pub outline-extent : (l : List ℕ) → extent_in (outline_of l) ≡ extent_of l
unfolding outline_of
outline-extent l = extent-at (extent_of l) l

-- beside a refusal there are no seconds (Q2)
pub refused-seconds : (l : List ℕ) {r : Refusal} → outline_of l ≡ Err r → seconds_told (outline_of l) ≡ 0
refused-seconds l e = ap seconds_told e
