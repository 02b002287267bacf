-- The digest of a table with its buffer: each value is mixed into what the values before it gave.
-- The order is ports, seconds, lengths, senders, buffer.
use Rattle.std.specs.Prelude.{ℕ, ◌+◌, ◌*◌, ◌%◌, List, [], ◌∷◌}
use Rattle.numbers.specs.declared.Table.{Table}
use Rattle.numbers.specs.declared.Sender.{Sender}

-- the greatest prime number of 32 bits
abbrev pub modulus : ℕ
modulus = 4294967291

-- one value more
abbrev pub mixed : ℕ → ℕ → ℕ
mixed h value = (h * 31 + value + 1) % modulus

-- what a list gives, one after the other, behind h
unfoldable pub folded : {A : Type 0} → (ℕ → A → ℕ) → ℕ → List A → ℕ
folded g h [] = h
folded g h (x ∷ l) = folded g (g h x) l

abbrev pub mixed_all : ℕ → List ℕ → ℕ
mixed_all h l = folded mixed h l

abbrev pub mixed_senders : ℕ → List Sender → ℕ
mixed_senders h l = folded (λ k s. mixed_all k s.octets) h l

unfoldable pub digest_of : Table → List ℕ → ℕ
digest_of t buffer = mixed_all (mixed_senders (mixed_all (mixed_all (mixed_all 0 t.port) t.seconds) t.length) t.sender) buffer
