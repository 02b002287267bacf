-- The octets that a port description may have (T10).
-- The rule lists them one by one; the code tests ranges.
use Rattle.std.specs.Prelude.{ℕ, List, [], ◌∷◌, Bool, true, false, leb, eqb}
use Rattle.tally.specs.Tests.{both, either}

abbrev pub one_of : ℕ → List ℕ → Bool
one_of b [] = false
one_of b (x ∷ l) = either (eqb b x) (one_of b l)

-- letters, digits, space and -'()+,./:=?;!*#@$_% in the order of the rule
unfoldable pub char_ok : ℕ → Bool
char_ok b =
    either (both (leb 65 b) (leb b 90))
    (either (both (leb 97 b) (leb b 122))
    (either (both (leb 48 b) (leb b 57))
    (one_of b (32 ∷ 45 ∷ 39 ∷ 40 ∷ 41 ∷ 43 ∷ 44 ∷ 46 ∷ 47 ∷ 58 ∷ 61 ∷ 63 ∷ 59 ∷ 33 ∷ 42 ∷ 35 ∷ 64 ∷ 36 ∷ 95 ∷ 37 ∷ []))))

unfoldable pub text_ok : List ℕ → Bool
text_ok [] = true
text_ok (b ∷ l) = both (char_ok b) (text_ok l)
