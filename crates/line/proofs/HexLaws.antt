-- Laws of octets in hex: one octet in front of others, no octet at all, and some.
-- They are what the loops over octets cite beside puts-next and puts-done of the output.
use Prim.Native.Nat.{ℕ}
use mathlib.Core.Path.{◌≡◌, refl}
use mathlib.Core.List.{List, [], ◌∷◌, ◌++◌}
use native.Mathlib.Omega.{arith}
use lib.ListN.{length}
use Rattle.line.specs.Hex.{hex_of, hexes, hexes_or_stop, dashed, joined}

pub hexes-step : (b : ℕ) (x : List ℕ) → hexes (b ∷ x) ≡ hex_of b ++ hexes x
unfolding hexes
hexes-step b x = refl

pub hexes-end : hexes [] ≡ []
unfolding hexes
hexes-end = refl

pub dashed-step : (b : ℕ) (x : List ℕ) → dashed (b ∷ x) ≡ (45 ∷ hex_of b) ++ dashed x
unfolding dashed
dashed-step b x = refl

pub dashed-end : dashed [] ≡ []
unfolding dashed
dashed-end = refl

pub stop-none : (x : List ℕ) → length x ≡ 0 → (46 ∷ []) ≡ hexes_or_stop x
stop-none [] e = refl
stop-none (b ∷ x) e = absurd (omega arith)

pub stop-some : (x : List ℕ) → (length x ≡ 0 → ⊥) → hexes x ≡ hexes_or_stop x
stop-some [] h = absurd (h refl)
stop-some (b ∷ x) h = refl

pub joined-none : (x : List ℕ) → length x ≡ 0 → [] ≡ joined x
joined-none [] e = refl
joined-none (b ∷ x) e = absurd (omega arith)
