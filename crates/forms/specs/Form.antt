-- Forms of what is printed, divided by `|`: octets that are put as they stand, and marks that are filled in.
-- Only the form that is wanted is put. Forms are counted down to it: 1 is left in it, 0 behind it.
use Rattle.std.specs.Prelude.{ℕ, ◌-◌, List, [], ◌∷◌, ◌++◌, drop, get_or, eqb}
use Rattle.tally.specs.Tests.{pick}
use Rattle.text.specs.Part.{part, text_of}
use Rattle.line.specs.Decimal.{decimal}
use Rattle.line.specs.Hex.{hexes_or_stop, joined, chassis_shown}

-- `#`: a value in decimal
abbrev pub number_mark : ℕ
number_mark = 35

-- `%`: a part of the text in hex; `~`: the same joined by `-`
abbrev pub hex_mark : ℕ
hex_mark = 37

abbrev pub joined_mark : ℕ
joined_mark = 126

-- `@`: a chassis, whose octets are a part of the text
abbrev pub chassis_mark : ℕ
chassis_mark = 64

-- `|`: the next form begins
abbrev pub next_form : ℕ
next_form = 124

-- what an octet b stands for where so many forms are left, by the next three values: a number, the start and the length of a part,
-- or a subtype and such a part
unfoldable pub stands_for : ℕ → ℕ → ℕ → ℕ → ℕ → List ℕ → List ℕ
stands_for left b first second third text =
    pick (eqb left 1) (
    pick (eqb b next_form) [] (
    pick (eqb b number_mark) (decimal first) (
    pick (eqb b hex_mark) (hexes_or_stop (text_of text (part first second))) (
    pick (eqb b joined_mark) (joined (text_of text (part first second))) (
    pick (eqb b chassis_mark) (chassis_shown first (text_of text (part second third))) (b ∷ [])))))) []

-- how many values it takes
unfoldable pub values_taken : ℕ → ℕ → ℕ
values_taken left b = pick (eqb left 1) (pick (eqb b number_mark) 1 (pick (eqb b hex_mark) 2 (pick (eqb b joined_mark) 2 (pick (eqb b chassis_mark) 3 0)))) 0

-- how many forms are left behind it
unfoldable pub forms_left : ℕ → ℕ → ℕ
forms_left left b = pick (eqb b next_form) (left - 1) left

-- the forms, where so many are left and these values; with w left at the start it is form number w, counted from 1
-- a value that is not there counts as 0
unfoldable pub formed : List ℕ → ℕ → List ℕ → List ℕ → List ℕ
formed [] left values text = []
formed (b ∷ forms) left values text =
    stands_for left b (get_or values 0 0) (get_or values 1 0) (get_or values 2 0) text ++ formed forms (forms_left left b) (drop (values_taken left b) values) text
