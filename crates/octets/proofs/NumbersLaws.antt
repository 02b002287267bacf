-- Laws of numbers of several octets: what a fold that shifts and joins them gives.
-- A number of up to four octets has room in 32 bits, so no shift loses a bit.
use Prim.Native.Nat.{ℕ, zero, suc, ◌+◌, ◌*◌, ◌/◌, ◌%◌, ◌^◌, ◌<◌, ◌≤◌}
use mathlib.Core.Path.{◌≡◌, refl, ap, ◌∙◌}
use mathlib.Core.List.{List, [], ◌∷◌}
use native.Mathlib.Omega.{arith}
use lib.Bits.{bit_or, or_shifted}
use lib.ListN.{length, get_or}
use Rattle.std.specs.List.{fold}
use Rattle.octets.specs.Numbers.{value_from, value_of}

-- one octet behind those in front
abbrev pub joined : ℕ → ℕ → ℕ
joined v b = bit_or (v * 256 % 2 ^ 32) b

joined-is : (v b : ℕ) → v < 16777216 → b < 256 → joined v b ≡ v * 256 + b
joined-is v b h k =
    let d : v * 256 % 2 ^ 32 ≡ v * 256 = omega arith in
    rw d (or_shifted v 8 b k)

-- a number below this has room for n octets more
room : ℕ → ℕ
room zero = 4294967296
room (suc n) = room n / 256

room-le : (n : ℕ) → room n ≤ 4294967296
unfolding room
room-le zero = omega arith
room-le (suc n) = omega (arith, room-le n)

fold-from : (n v : ℕ) (l : List ℕ) → v < room n → length l ≤ n → ((i : ℕ) → i < length l → get_or l i 0 < 256) → fold joined v l ≡ value_from v l
unfolding value_from room
fold-from n v [] h k b = refl
fold-from zero v (x ∷ l) h k b = absurd (omega arith)
fold-from (suc n) v (x ∷ l) h k b =
    let f : x < 256 = b 0 (omega arith) in
    let m : v < 16777216 = omega (arith, room-le n) in
    ap (λ (y : ℕ). fold joined y l) (joined-is v x m f) ∙ fold-from n (v * 256 + x) l (omega arith) (omega arith) (λ i r. b (suc i) (omega arith))

pub fold-value : (l : List ℕ) → length l ≤ 4 → ((i : ℕ) → i < length l → get_or l i 0 < 256) → fold joined 0 l ≡ value_of l
unfolding room
fold-value l h b = fold-from 4 0 l (omega arith) h b
