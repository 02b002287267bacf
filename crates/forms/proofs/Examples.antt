-- Forms filled in, computed: a form that is not the first, each mark once, values that are not there, and a form that is not there.
-- They hold the definitions to what the words beside them say.
use mathlib.Core.Path.{◌≡◌, refl}
use mathlib.Core.List.{[], ◌∷◌}
use Rattle.line.specs.Decimal.{digits_in, decimal}
use Rattle.line.specs.Hex.{hexes, dashed, chassis_shown}
use Rattle.forms.specs.Form.{stands_for, values_taken, forms_left, formed}

-- of the forms `#|a %` the second, with two octets of the text: `a 02AF`
pub second-form : formed (35 ∷ 124 ∷ 97 ∷ 32 ∷ 37 ∷ []) 2 (1 ∷ 2 ∷ []) (0xFF ∷ 0x02 ∷ 0xAF ∷ []) ≡ 97 ∷ 32 ∷ 48 ∷ 50 ∷ 65 ∷ 70 ∷ []
unfolding formed stands_for values_taken forms_left hexes
second-form = refl

-- of the forms `#~` the first, with 7 and two octets of the text: `702-AF`
pub number-then-joined : formed (35 ∷ 126 ∷ []) 1 (7 ∷ 0 ∷ 2 ∷ []) (0x02 ∷ 0xAF ∷ []) ≡ 55 ∷ 48 ∷ 50 ∷ 45 ∷ 65 ∷ 70 ∷ []
unfolding formed stands_for values_taken forms_left decimal digits_in dashed
number-then-joined = refl

-- of the form `@#` with subtype 7, two octets of the text and 5: `local AF5`
pub local-then-number : formed (64 ∷ 35 ∷ []) 1 (7 ∷ 1 ∷ 2 ∷ 5 ∷ []) (0xFF ∷ 65 ∷ 70 ∷ []) ≡ 108 ∷ 111 ∷ 99 ∷ 97 ∷ 108 ∷ 32 ∷ 65 ∷ 70 ∷ 53 ∷ []
unfolding formed stands_for values_taken forms_left chassis_shown decimal digits_in
local-then-number = refl

-- of the form `@` with subtype 4 and two octets of the text: `02-AF`
pub address-filled-in : formed (64 ∷ []) 1 (4 ∷ 0 ∷ 2 ∷ []) (0x02 ∷ 0xAF ∷ []) ≡ 48 ∷ 50 ∷ 45 ∷ 65 ∷ 70 ∷ []
unfolding formed stands_for values_taken forms_left chassis_shown dashed
address-filled-in = refl

-- of the forms `a|b` the third: nothing
pub no-such-form : formed (97 ∷ 124 ∷ 98 ∷ []) 3 [] [] ≡ []
unfolding formed stands_for values_taken forms_left
no-such-form = refl

-- of the forms `a|b|c` the second: `b`, and nothing of the form behind it
pub form-between : formed (97 ∷ 124 ∷ 98 ∷ 124 ∷ 99 ∷ []) 2 [] [] ≡ 98 ∷ []
unfolding formed stands_for values_taken forms_left
form-between = refl

-- of the form `#%` with no values and no text: `0.`
pub nothing-filled-in : formed (35 ∷ 37 ∷ []) 1 [] [] ≡ 48 ∷ 46 ∷ []
unfolding formed stands_for values_taken forms_left decimal digits_in
nothing-filled-in = refl
