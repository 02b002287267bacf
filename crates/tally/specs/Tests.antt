-- Choosing by a test, and tests joined: the words in which the rules are written as definitions.
-- They stand for "if", "and", "or", "each of these" and "absent".
use Rattle.std.specs.Prelude.{List, [], ◌∷◌, Bool, true, false}
use Rattle.std.proofs.Math.Option.{Option, none, some}

abbrev pub pick : {A : Type 0} → Bool → A → A → A
pick true a b = a
pick false a b = b

abbrev pub both : Bool → Bool → Bool
both a b = pick a b false

abbrev pub either : Bool → Bool → Bool
either a b = pick a true b

abbrev pub all : List Bool → Bool
all [] = true
all (b ∷ l) = both b (all l)

abbrev pub is_none : {A : Type 0} → Option A → Bool
is_none none = true
is_none (some x) = false
