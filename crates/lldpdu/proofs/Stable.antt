-- Octets behind the End TLV never matter (L8): a valid LLDPDU followed by anything else has the same extent and outline.
-- The walk first, then the first three TLVs, then the outline.
use Prim.Native.Nat.{ℕ, zero, suc, ◌+◌, ◌-◌, ◌<◌, ◌≤◌}
use mathlib.Core.Path.{◌≡◌, refl, sym, ap, ap₂, ◌∙◌}
use mathlib.Core.List.{List, [], ◌∷◌, ◌++◌}
use mathlib.Core.Bool.{Bool, true, false}
use native.Mathlib.Omega.{arith}
use borrow.Author.Tests.{le-leb, eqb-true}
use lib.ListN.{length, take, drop, get_or, length-drop, length-append, get_or-append}
use lib.Seq.{get_or-drop, get_or-take, drop-append-le, take-add, drop_at, length-take-le, take-append-le, take-take}
use lib.Dec.{leb, ltb, eqb}
use Rattle.tally.specs.Tests.{pick, both}
use Rattle.octets.specs.Header.{kind_in, length_in}
use Rattle.octets.specs.Numbers.{pair_of}
use Rattle.octets.proofs.PartLaws.{part-of-part}
use Rattle.std.specs.Prelude.{Some, None, Result, Ok, Err}
use Rattle.refusal.specs.declared.Refusal.{Refusal}
use Rattle.refusal.specs.declared.Refusal.TheVariants.{OutOfPlace}
use Rattle.walk.specs.Walk.{header, head_of, step_of, Walked, on_step, walk}
use Rattle.ids.specs.Id.{id_meant, chassis_ok, port_ok}
use Rattle.lldpdu.specs.Extent.{length_at, port_place, seconds_place, rest_place, id_at, id_in, rest_of, extent_of}
use Rattle.lldpdu.specs.Outline.{seconds_in, outline_of}
use Rattle.walk.proofs.WalkLaws.{whole, is_whole, whole-fits}
use Rattle.lldpdu.proofs.ExtentLaws.{some_header, chassis-length, port-length, Good, good, reads}
use Rattle.walk.specs.declared.Step.{Step}
use Rattle.walk.specs.declared.Step.TheVariants.{End, Next}

-- The walk

-- a step that ends has L = 0
ended : (kind len at : ℕ) {end : ℕ} → step_of (Some (header kind len)) at ≡ Ok (End end) → (len ≡ 0) × (end ≡ at + 2)
unfolding step_of
ended kind len at {end} e = go (eqb kind 0) (eqb len 0) refl (leb kind 3) (both (eqb kind 127) (ltb len 4)) e
  where
    go : (a b : Bool) → eqb len 0 ≡ b → (c d : Bool)
        → pick a (pick b (Ok (End (at + 2))) (Err OutOfPlace)) (pick c (Err OutOfPlace) (pick d (Err OutOfPlace) (Ok (Next kind (at + 2) len)))) ≡ Ok (End end)
        → (len ≡ 0) × (end ≡ at + 2)
    go true true z c d q = (eqb-true len 0 z, cc)
    go true false z c d q = absurd (cc)
    go false b z true d q = absurd (cc)
    go false b z false true q = absurd (cc)
    go false b z false false q = absurd (cc)

-- the walk over l is over after count octets, whatever follows them
pub record Ends (l : List ℕ) (k at e : ℕ) : Type 0 where
  pub count : ℕ
  pub place : e ≡ at + count
  pub covers : k ≤ count
  pub inside : count ≤ length l
  pub same : (t : List ℕ) → walk (take count l ++ t) k at ≡ walk l k at

part-long : (n m : ℕ) (r t : List ℕ) → n ≤ m → m ≤ length r → leb n (length (take m r ++ t)) ≡ true
part-long n m r t h i = le-leb n (length (take m r ++ t)) (omega (arith, length-append (take m r) t, length-take-le m r i))

take_part : (n m : ℕ) (r t : List ℕ) → n ≤ m → m ≤ length r → take n (take m r ++ t) ≡ take n r
take_part n m r t h i = take-append-le n (take m r) t (omega (arith, length-take-le m r i)) ∙ take-take n m r h

pub ends : (l : List ℕ) (k at e : ℕ) → (walk l k at).extent ≡ Ok e → Ends l k at e
unfolding walk head_of step_of
ends [] k at e q = cc
ends (x ∷ l) (suc k) at e q =
    let i = ends l k (at + 1) e q in
    record { count = suc i.count; place = omega arith; covers = omega arith; inside = omega arith; same = i.same }
ends (hi ∷ []) zero at e q = cc
ends (hi ∷ lo ∷ r) zero at e q =
    go (leb (length_in hi lo) (length r)) refl (step_of (Some (header (kind_in hi) (length_in hi lo))) at) refl (ends r (length_in hi lo) (at + 2) e) q
  where
    go : (b : Bool) → leb (length_in hi lo) (length r) ≡ b → (x : Result Step Refusal) → step_of (Some (header (kind_in hi) (length_in hi lo))) at ≡ x
        → ((walk r (length_in hi lo) (at + 2)).extent ≡ Ok e → Ends r (length_in hi lo) (at + 2) e)
        → (on_step (step_of (pick b (Some (header (kind_in hi) (length_in hi lo))) None) at) (take (length_in hi lo) r) (walk r (length_in hi lo) (at + 2))).extent ≡ Ok e
        → Ends (hi ∷ lo ∷ r) zero at e
    go false p x v ih w = cc
    go true p (Err n) v ih w = let d = rw v at w in cc
    go true p (Ok (End end)) v ih w =
        let d : Ok end ≡ Ok e = rw v at w in
        let n : end ≡ e = cc in
        let z = ended (kind_in hi) (length_in hi lo) at v in
        record {
          count = 2;
          place = omega (arith, z.1);
          covers = omega arith;
          inside = omega arith;
          same = λ t. rw (le-leb (length_in hi lo) (length t) (omega (arith, z.0)), p, v);
        }
    go true p (Ok (Next kind start len)) v ih w =
        let i = ih (rw v at w) in
        record {
          count = suc (suc i.count);
          place = omega arith;
          covers = omega arith;
          inside = omega arith;
          same = λ t.
              rw (
                part-long (length_in hi lo) i.count r t i.covers i.inside,
                p,
                v,
                take_part (length_in hi lo) i.count r t i.covers i.inside,
                i.same t,
              );
        }

-- The first e octets of s, and anything behind them

module _ (s t : List ℕ) (e : ℕ) (h : e ≤ length s) where
  kept : (i : ℕ) → i < e → get_or (take e s ++ t) i 0 ≡ get_or s i 0
  kept i p = get_or-append (take e s) t 0 i (omega (arith, length-take-le e s h)) ∙ get_or-take e s i 0 p

  kept-text : (a n : ℕ) → a + n ≤ e → take n (drop a (take e s ++ t)) ≡ take n (drop a s)
  kept-text a n p =
      let l = length-take-le e s h in
      ap (take n) (drop-append-le a (take e s) t (omega arith))
      ∙ take-append-le n (drop a (take e s)) t (omega (arith, length-drop a (take e s)))
      ∙ part-of-part s 0 e a n {j = a} p (omega arith)

  kept-head : (at kind len : ℕ) → head_of (drop at s) ≡ Some (header kind len) → at + 2 + len ≤ e → head_of (drop at (take e s ++ t)) ≡ Some (header kind len)
  kept-head at kind len q p =
      let u = take e s ++ t in
      let i = whole (drop at s) kind len q in
      let a : get_or (drop at u) 0 0 ≡ get_or (drop at s) 0 0 = get_or-drop at u 0 0 ∙ kept (at + 0) (omega arith) ∙ sym (get_or-drop at s 0 0) in
      let b : get_or (drop at u) 1 0 ≡ get_or (drop at s) 1 0 = get_or-drop at u 1 0 ∙ kept (at + 1) (omega arith) ∙ sym (get_or-drop at s 1 0) in
      is_whole (drop at u) kind len
      (record {
        kind-is = rw a i.kind-is;
        len_is = rw (a, b) i.len_is;
        fits = omega (arith, length-drop at u, length-append (take e s) t, length-take-le e s h);
      })

  kept-walk : (at : ℕ) → (walk (drop at s) 0 at).extent ≡ Ok e → walk (drop at (take e s ++ t)) 0 at ≡ walk (drop at s) 0 at
  kept-walk at q =
      let i = ends (drop at s) 0 at e q in
      let m = i.count in
      let a : drop at (take e s ++ t) ≡ drop at (take e s) ++ t = drop-append-le at (take e s) t (omega (arith, length-take-le e s h)) in
      let b : take e s ≡ take at s ++ take m (drop at s) = ap (λ (n : ℕ). take n s) i.place ∙ take-add at m s in
      let d : drop at (take at s ++ take m (drop at s)) ≡ take m (drop at s) = drop_at (take at s) (take m (drop at s)) at (length-take-le at s (omega arith)) in
      ap (λ (l : List ℕ). walk l 0 at) (a ∙ ap (λ (l : List ℕ). drop at l ++ t) b ∙ ap (λ (l : List ℕ). l ++ t) d) ∙ i.same t

-- A valid LLDPDU of e octets

-- where its parts lie: each TLV behind the one before it
pub record Sized (s : List ℕ) (e : ℕ) : Type 0 where
  pub chassis : 2 ≤ length_at s 0
  pub second : port_place s ≡ 2 + length_at s 0
  pub port : 2 ≤ length_at s (port_place s)
  pub third : seconds_place s ≡ port_place s + 2 + length_at s (port_place s)
  pub seconds : rest_place s ≤ e
  pub whole-inside : e ≤ length s

pub sized : {s : List ℕ} {e : ℕ} → Good s e → Sized s e
unfolding port_place seconds_place
sized {s} {e} g =
    let i = ends (drop (rest_place s) s) 0 (rest_place s) e g.rest in
    let f : seconds_place s + 2 + 2 ≤ length s = whole-fits s (seconds_place s) g.third in
    record {
      chassis = (chassis-length s 0 g.first g.chassis).0;
      second = refl;
      port = (port-length s (port_place s) g.second g.port).0;
      third = refl;
      seconds = omega arith;
      whole-inside = omega (arith, length-drop (rest_place s) s);
    }

-- what is the same of it and of its octets with anything behind them
pub record Same (s u : List ℕ) (e : ℕ) : Type 0 where
  pub place : port_place u ≡ port_place s
  pub third : seconds_place u ≡ seconds_place s
  pub rest : rest_of u ≡ rest_of s
  pub octet : (i : ℕ) → i < e → get_or u i 0 ≡ get_or s i 0
  pub chassis-at : id_at u 0 ≡ id_at s 0
  pub port-at : id_at u (port_place s) ≡ id_at s (port_place s)
  pub chassis : id_in u 0 ≡ id_in s 0
  pub port : id_in u (port_place s) ≡ id_in s (port_place s)

module _ (s t : List ℕ) (e : ℕ) (g : Good s e) where
  abbrev longer : List ℕ
  longer = take e s ++ t

  z : Sized s e
  z = sized g

  same-octet : (i : ℕ) → i < e → get_or longer i 0 ≡ get_or s i 0
  same-octet = kept s t e z.whole-inside

  -- a TLV whose two octets and information string lie in front
  module _ (at : ℕ) (f : at + 2 + length_at s at ≤ e) where
    same_length : length_at longer at ≡ length_at s at
    same_length = ap₂ length_in (same-octet at (omega arith)) (same-octet (at + 1) (omega arith))

    module _ (n : 1 ≤ length_at s at) where
      same_at : id_at longer at ≡ id_at s at
      same_at =
          let l = same_length in
          let b = same-octet (at + 2) (omega arith) in
          rw (l, b)

      same_id : id_in longer at ≡ id_in s at
      same_id =
          ap (id_meant longer) same_at
          ∙ ap (λ (x : List ℕ). record { subtype = get_or s (at + 2) 0; octets = x }) (kept-text s t e z.whole-inside (at + 3) (length_at s at - 1) (omega arith))

  same_place : port_place longer ≡ port_place s
  unfolding port_place
  same_place = ap (λ (n : ℕ). 2 + n) (same_length 0 (omega (arith, z)))

  same-third : seconds_place longer ≡ seconds_place s
  unfolding seconds_place
  same-third =
      ap (λ (p : ℕ). p + 2 + length_at longer p) same_place
      ∙ ap (λ (n : ℕ). port_place s + 2 + n) (same_length (port_place s) (omega (arith, z)))

  pub same-front : Same s longer e
  same-front =
      record {
        place = same_place;
        third = same-third;
        rest = ap (λ (n : ℕ). walk (drop (n + 4) longer) 0 (n + 4)) same-third ∙ kept-walk s t e z.whole-inside (rest_place s) g.rest;
        octet = same-octet;
        chassis-at = same_at 0 (omega (arith, z)) (omega (arith, z));
        port-at = same_at (port_place s) (omega (arith, z)) (omega (arith, z));
        chassis = same_id 0 (omega (arith, z)) (omega (arith, z));
        port = same_id (port_place s) (omega (arith, z)) (omega (arith, z));
      }

  pub stays-good : Good longer e
  stays-good =
      let m = same-front in
      record {
        first = kept-head s t e z.whole-inside 0 1 (length_at s 0) g.first (omega (arith, z)) ∙ ap (some_header 1) (sym (same_length 0 (omega (arith, z))));
        chassis = ap chassis_ok m.chassis ∙ g.chassis;
        second =
            rw m.place
            (kept-head s t e z.whole-inside (port_place s) 2 (length_at s (port_place s)) g.second (omega (arith, z)) ∙ ap (some_header 2) (sym (same_length (port_place s) (omega (arith, z)))));
        port = rw m.place (ap port_ok m.port ∙ g.port);
        third = rw m.third (kept-head s t e z.whole-inside (seconds_place s) 3 2 g.third (omega (arith, z)));
        rest = ap (λ (w : Walked). w.extent) m.rest ∙ g.rest;
      }

pub extent-stable : (s t : List ℕ) (e : ℕ) → extent_of s ≡ Ok e → extent_of (take e s ++ t) ≡ Ok e
extent-stable s t e v = reads (take e s ++ t) e (stays-good s t e (good s e v))

-- what a valid LLDPDU has in its first e octets
module _ (s t : List ℕ) (e : ℕ) (v : extent_of s ≡ Ok e) where
  abbrev u : List ℕ
  u = take e s ++ t

  pub front : Same s u e
  front = same-front s t e (good s e v)

  pub seconds-same : seconds_in u ≡ seconds_in s
  seconds-same =
      let z = sized (good s e v) in
      ap (λ (q : ℕ). pair_of (get_or u (q + 2) 0) (get_or u (q + 3) 0)) front.third
      ∙ ap₂ pair_of (front.octet (seconds_place s + 2) (omega arith)) (front.octet (seconds_place s + 3) (omega arith))

  pub outline-stable : outline_of u ≡ outline_of s
  unfolding outline_of
  outline-stable = rw (extent-stable s t e v, v, front.place, front.chassis-at, front.port-at, seconds-same)
