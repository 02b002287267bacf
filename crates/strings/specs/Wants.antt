-- What each ID of device information asks of its string (T3 to T6).
-- An ID that is not read here asks for a string of any length.
use Rattle.std.specs.Prelude.{ℕ, leb, eqb}
use Rattle.tally.specs.Tests.{pick, both}
use Rattle.strings.specs.declared.Wanted.{Wanted}
use Rattle.strings.specs.declared.Wanted.TheVariants.{Text, Free, Vendor}

-- category, manufacturer code, model name, model number (T3); the vendor's (T6); all others (T4, T5)
unfoldable pub wanted_of : ℕ → Wanted
wanted_of id =
    pick (eqb id 1) (Text 255)
    (pick (eqb id 2) (Text 6)
    (pick (both (leb 3 id) (leb id 4)) (Text 31)
    (pick (eqb id 255) Vendor Free)))
