-- TLVs that were written one behind the other, with End behind them, are what the walk meets.
-- Each has a type below 128 and an information string below 512 octets, and none is refused where it stands.
use Prim.Native.Nat.{ℕ, ◌+◌, ◌<◌}
use mathlib.Core.Path.{◌≡◌, refl, ap, ◌∙◌}
use mathlib.Core.List.{List, [], ◌∷◌, ◌++◌, map, append_assoc}
use native.Mathlib.Omega.{arith}
use borrow.Author.Tests.{le-leb}
use lib.ListN.{length, length-append}
use lib.Seq.{drop_at, take_at}
use Rattle.octets.proofs.HeaderLaws.{kind-high, length-join}
use Rattle.std.specs.Prelude.{Some, Ok}
use Rattle.walk.specs.Walk.{Tlv, Placed, header, head_of, step_of, on_step, walk}
use Rattle.walk.proofs.WalkLaws.{walk_step}
use Rattle.walk.specs.declared.Step.TheVariants.{Next}
use Rattle.tlvs.specs.Tlvs.{written, octets_of, end_tlv}

-- One TLV

pub record Short (t : Tlv) : Type 0 where
  pub kind : t.kind < 128
  pub body : length t.body < 512

module _ (t : Tlv) (rest : List ℕ) (h : Short t) where
  pub head-written : head_of (written t ++ rest) ≡ Some (header t.kind (length t.body))
  unfolding head_of
  head-written =
      rw (
        kind-high t.kind (length t.body) h.kind,
        length-join t.kind (length t.body) h.body,
        le-leb (length t.body) (length (t.body ++ rest)) (omega (arith, length-append t.body rest)),
      )

  walk-written : (at : ℕ)
      → walk (written t ++ rest) 0 at
      ≡ on_step (step_of (Some (header t.kind (length t.body))) at) t.body (walk rest 0 (at + 2 + length t.body))
  walk-written at =
      walk_step (written t ++ rest) at
      ∙ rw (
        head-written,
        length-join t.kind (length t.body) h.body,
        drop_at t.body rest (length t.body) refl,
        take_at t.body rest (length t.body) refl,
      )

-- Several TLVs that the walk passes

pub record Passed (t : Tlv) : Type 0 where
  pub short : Short t
  pub passed : (at : ℕ) → step_of (Some (header t.kind (length t.body))) at ≡ Ok (Next t.kind (at + 2) (length t.body))

pub data AllPassed : List Tlv → Type 0 where
  none_passed : AllPassed []
  more-passed : {t : Tlv} {ts : List Tlv} → Passed t → AllPassed ts → AllPassed (t ∷ ts)

pub passed-append : {a b : List Tlv} → AllPassed a → AllPassed b → AllPassed (a ++ b)
passed-append none_passed q = q
passed-append (more-passed f p) q = more-passed f (passed-append p q)

-- where they lie from a place on
abbrev pub laid : ℕ → List Tlv → List Placed
laid at [] = []
laid at (t ∷ ts) = record { start = at + 2; tlv = t } ∷ laid (at + 2 + length t.body) ts

pub laid-are : (at : ℕ) (ts : List Tlv) → map (λ p. p.tlv) (laid at ts) ≡ ts
laid-are at [] = refl
laid-are at (t ∷ ts) = ap (λ (l : List Tlv). t ∷ l) (laid-are (at + 2 + length t.body) ts)

end_short : Short end_tlv
end_short = record { kind = omega arith; body = omega arith }

pub walk-octets : {ts : List Tlv} (at : ℕ) (t : List ℕ) → AllPassed ts
    → walk (octets_of ts ++ (written end_tlv ++ t)) 0 at ≡ record { extent = Ok (at + length (octets_of ts) + 2); tlvs = laid at ts }
unfolding octets_of step_of
walk-octets at t none_passed =
    walk-written end_tlv t end_short at ∙ ap (λ (n : ℕ). record { extent = Ok n; tlvs = [] }) (omega arith)
walk-octets at t (more-passed {t = x} {ts = ts} f p) =
    let rest = octets_of ts ++ (written end_tlv ++ t) in
    let n = at + 2 + length x.body in
    let e : n + length (octets_of ts) + 2 ≡ at + length (written x ++ octets_of ts) + 2 = omega (arith, length-append x.body (octets_of ts)) in
    ap (λ (l : List ℕ). walk l 0 at) (append_assoc (written x) (octets_of ts) (written end_tlv ++ t))
    ∙ walk-written x rest f.short at
    ∙ rw (f.passed at, walk-octets n t p, e)
