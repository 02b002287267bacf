-- Some words as they are read, computed: one digit, a leading zero, the greatest number, one more, and words that are no number.
-- They hold the definition to J3.
use mathlib.Core.Path.{◌≡◌, refl}
use mathlib.Core.List.{[], ◌∷◌}
use Rattle.arguments.specs.Number.{greatest, value_from, said_from, number_in}

pub three-read : number_in (51 ∷ []) ≡ 3
unfolding value_from said_from number_in
three-read = refl

-- 010
pub ten-read : number_in (48 ∷ 49 ∷ 48 ∷ []) ≡ 10
unfolding value_from said_from number_in
ten-read = refl

-- 18446744073709551614, the last number below the greatest, and the greatest times ten
pub great-read : number_in (49 ∷ 56 ∷ 52 ∷ 52 ∷ 54 ∷ 55 ∷ 52 ∷ 52 ∷ 48 ∷ 55 ∷ 51 ∷ 55 ∷ 48 ∷ 57 ∷ 53 ∷ 53 ∷ 49 ∷ 54 ∷ 49 ∷ 52 ∷ []) ≡ 0xFFFF_FFFF_FFFF_FFFE
unfolding value_from said_from number_in
great-read = refl

pub too-large-read : number_in (49 ∷ 56 ∷ 52 ∷ 52 ∷ 54 ∷ 55 ∷ 52 ∷ 52 ∷ 48 ∷ 55 ∷ 51 ∷ 55 ∷ 48 ∷ 57 ∷ 53 ∷ 53 ∷ 49 ∷ 54 ∷ 49 ∷ 53 ∷ 48 ∷ []) ≡ greatest
unfolding value_from said_from number_in
too-large-read = refl

-- 3x, -1, and no octets
pub letter-read : number_in (51 ∷ 120 ∷ []) ≡ greatest
unfolding value_from said_from number_in
letter-read = refl

pub sign_read : number_in (45 ∷ 49 ∷ []) ≡ greatest
unfolding value_from said_from number_in
sign_read = refl

pub empty-read : number_in [] ≡ greatest
unfolding number_in
empty-read = refl
