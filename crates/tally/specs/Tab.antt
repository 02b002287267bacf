-- A list given place by place: `tab m f` lists f 0 to f (m - 1).
-- A table's numbers and senders are read from octets so, and a table is seen so as the model's list of places.
use Rattle.std.specs.Prelude.{ℕ, zero, suc, List, [], ◌∷◌}

unfoldable pub tab : {A : Type 0} → ℕ → (ℕ → A) → List A
tab zero f = []
tab (suc m) f = f 0 ∷ tab m (λ k. f (suc k))
