-- Some numbers and octets as they are printed, computed: one digit, two, and the most seconds that there are; octets with and without a dash; chassis.
-- They hold the definitions to J2.
use mathlib.Core.Path.{◌≡◌, refl}
use mathlib.Core.List.{[], ◌∷◌}
use Rattle.line.specs.Decimal.{digits_in, decimal}
use Rattle.line.specs.Hex.{hexes, hexes_or_stop, dashed, joined, chassis_shown}

pub zero-printed : decimal 0 ≡ 48 ∷ []
unfolding decimal digits_in
zero-printed = refl

pub ten-printed : decimal 10 ≡ 49 ∷ 48 ∷ []
unfolding decimal digits_in
ten-printed = refl

-- the most seconds to live (L5)
pub seconds-printed : decimal 65535 ≡ 54 ∷ 53 ∷ 53 ∷ 51 ∷ 53 ∷ []
unfolding decimal digits_in
seconds-printed = refl

-- 02-AF
pub joined-printed : joined (0x02 ∷ 0xAF ∷ []) ≡ 48 ∷ 50 ∷ 45 ∷ 65 ∷ 70 ∷ []
unfolding dashed
joined-printed = refl

-- 02AF, and a full stop for no octets
pub hexes-printed : hexes_or_stop (0x02 ∷ 0xAF ∷ []) ≡ 48 ∷ 50 ∷ 65 ∷ 70 ∷ []
unfolding hexes
hexes-printed = refl

pub none-printed : hexes_or_stop [] ≡ 46 ∷ []
none-printed = refl

-- 02-00-00-00-00-01, the chassis of frame A
pub six-printed : chassis_shown 4 (0x02 ∷ 0x00 ∷ 0x00 ∷ 0x00 ∷ 0x00 ∷ 0x01 ∷ []) ≡ 48 ∷ 50 ∷ 45 ∷ 48 ∷ 48 ∷ 45 ∷ 48 ∷ 48 ∷ 45 ∷ 48 ∷ 48 ∷ 45 ∷ 48 ∷ 48 ∷ 45 ∷ 48 ∷ 49 ∷ []
unfolding chassis_shown dashed
six-printed = refl

-- 02-00-00-FF-FE-00-00-01
pub eight-printed : chassis_shown 4 (0x02 ∷ 0x00 ∷ 0x00 ∷ 0xFF ∷ 0xFE ∷ 0x00 ∷ 0x00 ∷ 0x01 ∷ [])
    ≡ 48 ∷ 50 ∷ 45 ∷ 48 ∷ 48 ∷ 45 ∷ 48 ∷ 48 ∷ 45 ∷ 70 ∷ 70 ∷ 45 ∷ 70 ∷ 69 ∷ 45 ∷ 48 ∷ 48 ∷ 45 ∷ 48 ∷ 48 ∷ 45 ∷ 48 ∷ 49 ∷ []
unfolding chassis_shown dashed
eight-printed = refl

-- local 0123AB
pub local-printed : chassis_shown 7 (48 ∷ 49 ∷ 50 ∷ 51 ∷ 65 ∷ 66 ∷ []) ≡ 108 ∷ 111 ∷ 99 ∷ 97 ∷ 108 ∷ 32 ∷ 48 ∷ 49 ∷ 50 ∷ 51 ∷ 65 ∷ 66 ∷ []
unfolding chassis_shown
local-printed = refl
