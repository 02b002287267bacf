-- The walk over the TLVs behind the first three: where it ends, or why it is refused, and what it meets on the way.
-- It goes by the list of octets that is left, so that nothing before a TLV and nothing behind End can matter (L8).
use Rattle.std.specs.Prelude.{ℕ, zero, suc, ◌+◌, List, [], ◌∷◌, length, take, leb, ltb, eqb, Option, Some, None, Result, Ok, Err}
use Rattle.tally.specs.Tests.{pick, both}
use Rattle.octets.specs.Header.{kind_in, length_in}
use Rattle.refusal.specs.declared.Refusal.{Refusal}
use Rattle.refusal.specs.declared.Refusal.TheVariants.{RunsPast, OutOfPlace}
use Rattle.walk.specs.declared.Head.{Head}
use Rattle.walk.specs.declared.Step.{Step}
use Rattle.walk.specs.declared.Step.TheVariants.{End, Next}

-- the number of octets through End, or a refusal
abbrev pub Extent : Type 0
Extent = Result ℕ Refusal

-- a type and an information string
pub record Tlv : Type 0 where
  pub kind : ℕ
  pub body : List ℕ

-- a TLV with the place of its information string in the LLDPDU
pub record Placed : Type 0 where
  pub start : ℕ
  pub tlv : Tlv

-- a header by its type and L
abbrev pub header : ℕ → ℕ → Head
header kind len = record { kind = kind; len = len }

-- the header at the front of what is left, where header and information string are whole (L1, L2)
unfoldable pub head_of : List ℕ → Option Head
head_of [] = None
head_of (hi ∷ []) = None
head_of (hi ∷ lo ∷ r) = pick (leb (length_in hi lo) (length r)) (Some (header (kind_in hi) (length_in hi lo))) None

-- behind the first three: 5 (R5) before 6 (R6); type 0 with L = 0 ends (L7); types 1 to 3 are refused (L6);
-- type 127 has L of at least 4 (L10); all others are passed (L9)
unfoldable pub step_of : Option Head → ℕ → Result Step Refusal
step_of None at = Err RunsPast
step_of (Some h) at =
    pick (eqb h.kind 0) (pick (eqb h.len 0) (Ok (End (at + 2))) (Err OutOfPlace))
    (pick (leb h.kind 3) (Err OutOfPlace)
    (pick (both (eqb h.kind 127) (ltb h.len 4)) (Err OutOfPlace) (Ok (Next h.kind (at + 2) h.len))))

pub record Walked : Type 0 where
  pub extent : Extent
  pub tlvs : List Placed

-- one step, with the information string of the TLV and the walk behind it
abbrev pub on_step : Result Step Refusal → List ℕ → Walked → Walked
on_step (Err r) b more = record { extent = Err r; tlvs = [] }
on_step (Ok (End end)) b more = record { extent = Ok end; tlvs = [] }
on_step (Ok (Next kind start len)) b more =
    record { extent = more.extent; tlvs = record { start = start; tlv = record { kind = kind; body = b } } ∷ more.tlvs }

-- the octets that are left, how many of them belong to an information string that is passed, and the place in the LLDPDU
unfoldable pub walk : List ℕ → ℕ → ℕ → Walked
walk [] k at = record { extent = Err RunsPast; tlvs = [] }
walk (x ∷ l) (suc k) at = walk l k (at + 1)
walk (hi ∷ []) zero at = record { extent = Err RunsPast; tlvs = [] }
walk (hi ∷ lo ∷ r) zero at =
    let more : Walked = walk r (length_in hi lo) (at + 2) in
    on_step (step_of (head_of (hi ∷ lo ∷ r)) at) (take (length_in hi lo) r) more
