-- Laws of the first three TLVs as the code judges them: one by what its header is, what is known behind them, and the outline put together.
-- `front-refused` and `front-on` say that the extent is theirs, and then that of the walk.
use Prim.Native.Nat.{ℕ, ◌+◌, ◌≤◌, ◌<◌}
use mathlib.Core.Path.{◌≡◌, refl, sym, ap, ◌∙◌}
use mathlib.Core.List.{List}
use mathlib.Core.Bool.{Bool, true, false}
use native.Mathlib.Omega.{arith}
use lib.ListN.{length, drop}
use lib.Dec.{eqb}
use Rattle.tally.specs.Tests.{pick}
use Rattle.tally.proofs.TestsLaws.{both_true}
use Rattle.std.specs.Prelude.{Option, Some, None, Result, Ok, Err}
use Rattle.refusal.specs.declared.Refusal.{Refusal}
use Rattle.refusal.specs.declared.Refusal.TheVariants.{NotAsDue, RunsPast}
use Rattle.walk.specs.Walk.{Extent, header, head_of, walk}
use Rattle.lldpdu.specs.Extent.{length_at, port_place, seconds_place, rest_place, id_in, is_chassis, is_port, seconds_ok, need, rest_of, behind_port, behind_chassis, extent_of}
use Rattle.lldpdu.specs.Leading.{leading, leading_behind_port, leading_behind_chassis, leading_of, onward, front_of}
use Rattle.lldpdu.proofs.ExtentLaws.{Needed, needed, length-at, chassis-length, port-length, seconds-inside}
use Rattle.ids.specs.Id.{chassis_ok, port_ok}
use Rattle.walk.proofs.WalkLaws.{whole-fits}
use Rattle.walk.specs.declared.Head.{Head}
use Rattle.lldpdu.specs.declared.leading.Leading.{Leading}

-- what is known at TLV 3: where TLVs 2 and 3 begin, and that the IDs before it lie inside
pub record Behind (s : List ℕ) (port at : ℕ) : Type 0 where
  pub second : port ≡ port_place s
  pub third : at ≡ seconds_place s
  pub some : (1 ≤ length_at s 0) × (1 ≤ length_at s port)
  pub inside : at ≤ length s
  pub near : at < 2000

-- and behind it: that it has its four octets
pub record Led (s : List ℕ) (port at : ℕ) : Type 0 where
  pub behind : Behind s port at
  pub room : at + 4 ≤ length s

-- What the code has in hand of TLVs 1 and 2: where the next one begins, and that no sum wraps
module _ (s : List ℕ) {kind len : ℕ} where
  pub behind-first : head_of (drop 0 s) ≡ Some (header kind len) → is_chassis s kind ≡ true → (2 + len ≡ port_place s) × ((1 ≤ length_at s 0) × (2 + len < 1000))
  unfolding port_place
  behind-first e q =
      let n = length-at s 0 e in
      let h = chassis-length s 0 e (both_true (eqb kind 1) (chassis_ok (id_in s 0)) q).1 in
      (ap (λ (k : ℕ). 2 + k) n, (omega arith, omega (arith, n)))

  pub behind-second : {at : ℕ} → at ≡ port_place s → 1 ≤ length_at s 0 → at < 1000 → head_of (drop at s) ≡ Some (header kind len) → is_port s kind ≡ true
      → Behind s at (at + 2 + len)
  unfolding seconds_place
  behind-second {at} p c near e q =
      let n = length-at s at e in
      let h = port-length s at e (rw p (both_true (eqb kind 2) (port_ok (id_in s (port_place s))) q).1) in
      record {
        second = p;
        third = ap (λ (k : ℕ). at + 2 + k) n ∙ ap (λ (k : ℕ). k + 2 + length_at s k) p;
        some = (c, omega arith);
        inside = whole-fits s at e;
        near = omega (arith, n);
      }

-- at TLV 3: the places as sums
module _ (s : List ℕ) {port at : ℕ} (b : Behind s port at) where
  pub behind-sums : (port ≡ 2 + length_at s 0) × (at ≡ port + 2 + length_at s port)
  unfolding port_place seconds_place
  behind-sums = (b.second, b.third ∙ ap (λ (k : ℕ). k + 2 + length_at s k) (sym b.second))

-- each of the three by itself, as it is met: it runs past the end, or its test decides
module _ (s : List ℕ) where
  pub first-short : head_of (drop 0 s) ≡ None → leading_of s ≡ Err RunsPast
  unfolding leading_of
  first-short e = rw e

  pub second-short : {at : ℕ} → at ≡ port_place s → head_of (drop at s) ≡ None → leading_behind_chassis s ≡ Err RunsPast
  unfolding leading_behind_chassis
  second-short p e =
      let e : head_of (drop (port_place s) s) ≡ None = rw (sym p) e in
      rw e

  pub third-short : {at : ℕ} → at ≡ seconds_place s → head_of (drop at s) ≡ None → leading_behind_port s ≡ Err RunsPast
  unfolding leading_behind_port
  third-short p e =
      let e : head_of (drop (seconds_place s) s) ≡ None = rw (sym p) e in
      rw e

  module _ {h : Head} {t b : Bool} where
    pub first-judged : head_of (drop 0 s) ≡ Some h → t ≡ is_chassis s h.kind → t ≡ b → leading_of s ≡ pick b (leading_behind_chassis s) (Err NotAsDue)
    unfolding leading_of
    first-judged e q w = rw (e, sym q ∙ w)

    pub second-judged : {at : ℕ} → at ≡ port_place s → head_of (drop at s) ≡ Some h → t ≡ is_port s h.kind → t ≡ b
        → leading_behind_chassis s ≡ pick b (leading_behind_port s) (Err NotAsDue)
    unfolding leading_behind_chassis
    second-judged p e q w =
        let e : head_of (drop (port_place s) s) ≡ Some h = rw (sym p) e in
        rw (e, sym q ∙ w)

    pub third-judged : {at : ℕ} → at ≡ seconds_place s → head_of (drop at s) ≡ Some h → t ≡ seconds_ok h.kind h.len → t ≡ b
        → leading_behind_port s ≡ pick b (Ok (leading (port_place s) (seconds_place s))) (Err NotAsDue)
    unfolding leading_behind_port
    third-judged p e q w =
        let e : head_of (drop (seconds_place s) s) ≡ Some h = rw (sym p) e in
        rw (e, sym q ∙ w)

-- All three, and what is behind them

need-lead : (h : Option Head) (ok : ℕ → ℕ → Bool) (next : Result Leading Refusal) (x : Extent) {y : Extent} → y ≡ onward next x
    → need h ok y ≡ onward (need h ok next) x
need-lead None ok next x e = refl
need-lead (Some h) ok next x {y} e = go (ok h.kind h.len)
  where
    go : (b : Bool) → pick b y (Err NotAsDue) ≡ onward (pick b next (Err NotAsDue)) x
    go true = e
    go false = refl

module _ (s : List ℕ) where
  pub extent-onward : extent_of s ≡ onward (leading_of s) (rest_of s).extent
  unfolding extent_of behind_chassis behind_port leading_of leading_behind_chassis leading_behind_port
  extent-onward =
      let x = (rest_of s).extent in
      need-lead (head_of (drop 0 s)) (λ kind len. is_chassis s kind) (leading_behind_chassis s) x
      (need-lead (head_of (drop (port_place s) s)) (λ kind len. is_port s kind) (leading_behind_port s) x
      (need-lead (head_of (drop (seconds_place s) s)) seconds_ok (Ok (leading (port_place s) (seconds_place s))) x refl))

  -- a refusal of the first three is that of the whole
  pub lead-refused : {r : Refusal} → leading_of s ≡ Err r → extent_of s ≡ Err r
  lead-refused e = extent-onward ∙ rw e

  pub lead-refused-front : {r : Refusal} → leading_of s ≡ Err r → front_of s ≡ Err r
  unfolding front_of
  lead-refused-front e = rw e

  module _ {l : Leading} (e : leading_of s ≡ Ok l) where
    -- each of the three in turn
    first : Needed (head_of (drop 0 s)) (λ kind len. is_chassis s kind) (leading_behind_chassis s) l
    unfolding leading_of
    first = needed (head_of (drop 0 s)) (λ kind len. is_chassis s kind) (leading_behind_chassis s) l e

    second : Needed (head_of (drop (port_place s) s)) (λ kind len. is_port s kind) (leading_behind_port s) l
    unfolding leading_behind_chassis
    second = needed (head_of (drop (port_place s) s)) (λ kind len. is_port s kind) (leading_behind_port s) l first.onward

    third : Needed (head_of (drop (seconds_place s) s)) seconds_ok (Ok (leading (port_place s) (seconds_place s))) l
    unfolding leading_behind_port
    third = needed (head_of (drop (seconds_place s) s)) seconds_ok (Ok (leading (port_place s) (seconds_place s))) l second.onward

    pub places : (port_place s ≡ l.port) × (seconds_place s ≡ l.seconds)
    places =
        let q : leading (port_place s) (seconds_place s) ≡ l = (cc (third.onward)) in
        (ap (λ (x : Leading). x.port) q, ap (λ (x : Leading). x.seconds) q)

    pub led : Led s l.port l.seconds
    led =
        let f = behind-first s first.head first.passes in
        let b = behind-second s refl f.1.0 (omega (arith, f)) second.head second.passes in
        let n = seconds-inside s (seconds_place s) third.head third.passes in
        record {
          behind =
              record {
                second = sym places.0;
                third = sym places.1;
                some = (f.1.0, rw (sym places.0) b.some.1);
                inside = omega (arith, b.third, b.inside, places.1);
                near = omega (arith, b.third, b.near, places.1);
              };
          room = omega (arith, n, places.1);
        }

    -- TLV 3 is there
    pub led-place : l.seconds ≡ seconds_place s
    led-place = led.behind.third

    pub led-room : l.seconds + 4 ≤ length s
    led-room = led.room

    -- behind it the walk decides
    pub lead-on : extent_of s ≡ (walk (drop (l.seconds + 4) s) 0 (l.seconds + 4)).extent
    lead-on = extent-onward ∙ rw (e, places.1)

    pub lead-on-front : front_of s ≡ Ok (l.seconds + 4)
    unfolding front_of
    lead-on-front = rw (e, places.1)

pub ruleset leads = (lead-refused, lead-refused-front, led-place, led-room, lead-on, lead-on-front)

-- For who goes on behind the first three: their refusal is the extent, and behind the place that they give the walk decides
pub front-refused : (s : List ℕ) {r : Refusal} → front_of s ≡ Err r → extent_of s ≡ Err r
unfolding front_of
front-refused s {r} e = go (leading_of s) refl e
  where
    go : (l : Result Leading Refusal) → leading_of s ≡ l → onward l (Ok (rest_place s)) ≡ Err r → extent_of s ≡ Err r
    go (Err m) q w = lead-refused s q ∙ w
    go (Ok l) q w = cc

pub front-on : (s : List ℕ) {from : ℕ} → front_of s ≡ Ok from → (from ≡ rest_place s) × (extent_of s ≡ (rest_of s).extent)
unfolding front_of
front-on s {from} e = go (leading_of s) refl e
  where
    go : (l : Result Leading Refusal) → leading_of s ≡ l → onward l (Ok (rest_place s)) ≡ Ok from → (from ≡ rest_place s) × (extent_of s ≡ (rest_of s).extent)
    go (Err m) q w = absurd (cc)
    go (Ok l) q w = (cc, extent-onward s ∙ rw q)
