-- The two octets of a TLV header in plain arithmetic (L1): seven bits of type, nine bits of length, high bits first.
-- Split and join; that they undo each other is proved in proofs/HeaderLaws.antt.
use Rattle.std.specs.Prelude.{ℕ, ◌+◌, ◌*◌, ◌/◌, ◌%◌}

abbrev pub kind_in : ℕ → ℕ
kind_in hi = hi / 2

abbrev pub length_in : ℕ → ℕ → ℕ
length_in hi lo = hi % 2 * 256 + lo

-- a type above 127 or a length above 511 does not fit, and loses its higher bits
abbrev pub high : ℕ → ℕ → ℕ
high kind len = kind % 128 * 2 + len / 256 % 2

abbrev pub low : ℕ → ℕ
low len = len % 256
