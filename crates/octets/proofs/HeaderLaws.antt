-- Laws of the TLV header: split and join undo each other, and the code's shifts and masks are the arithmetic of specs/Header.antt.
-- The writer needs the first half, the reader the second.
use Prim.Native.Nat.{ℕ, ◌*◌, ◌/◌, ◌%◌, ◌^◌, ◌<◌}
use mathlib.Core.Path.{◌≡◌}
use native.Mathlib.Omega.{arith}
use lib.Bits.{bit_and, bit_or, and_mask, or_shifted}
use Rattle.octets.specs.Header.{kind_in, length_in, high, low}

-- what was joined is split again
pub kind-high : (k n : ℕ) → k < 128 → kind_in (high k n) ≡ k
kind-high k n h = omega arith

pub length-join : (k n : ℕ) → n < 512 → length_in (high k n) (low n) ≡ n
length-join k n h = omega arith

-- what was split is joined again
pub high-split : (hi lo : ℕ) → hi < 256 → lo < 256 → high (kind_in hi) (length_in hi lo) ≡ hi
high-split hi lo h l = omega arith

pub low-split : (hi lo : ℕ) → lo < 256 → low (length_in hi lo) ≡ lo
low-split hi lo l = omega arith

-- shifts and masks
pub length-bits : (hi lo : ℕ) → lo < 256 → bit_or (bit_and hi 1 * 256 % 2 ^ 64) lo ≡ length_in hi lo
length-bits hi lo h =
    let e : bit_and hi 1 ≡ hi % 2 = and_mask hi 1 in
    let d : hi % 2 * 256 % 2 ^ 64 ≡ hi % 2 * 256 = omega arith in
    rw (e, d) (or_shifted (hi % 2) 8 lo h)

pub high_bits : (k n : ℕ) → bit_or (bit_and k 127 * 2 % 2 ^ 8) (bit_and (n / 256) 1) ≡ high k n
high_bits k n =
    let e : bit_and k 127 ≡ k % 128 = and_mask k 7 in
    let f : bit_and (n / 256) 1 ≡ n / 256 % 2 = and_mask (n / 256) 1 in
    let d : k % 128 * 2 % 2 ^ 8 ≡ k % 128 * 2 = omega arith in
    rw (e, f, d) (or_shifted (k % 128) 1 (n / 256 % 2) (omega arith))
