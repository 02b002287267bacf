-- When what a description says keeps the rules (W2, W3, W5, W7). Each rule is a list of tests, all of which must pass.
-- The rules of the system fields stand in system/specs; that its parts lie inside the text is said in parts/specs.
use Rattle.std.specs.Prelude.{ℕ, ◌+◌, ◌%◌, List, [], ◌∷◌, Bool, true, length, leb, eqb}
use Rattle.std.proofs.Math.Option.{Option, none, some}
use Rattle.tally.specs.Tests.{pick, both, all, is_none}
use Rattle.strings.specs.Text.{text_ok}
use Rattle.ids.specs.Id.{chassis_ok, port_ok}
use Rattle.found.specs.Contents.{LinkInfo}
use Rattle.system.specs.System.{system_rules, absent_rules}
use Rattle.extension.specs.Layout.{extension_ok}
use Rattle.reading.specs.Meaning.{Said}

-- T10
abbrev pub words_sound : List ℕ → Bool
words_sound words = both (leb (length words) 255) (text_ok words)

-- T3; an empty string is an absent one
abbrev pub string_rules : Said → List Bool
string_rules d =
    leb (length d.category) 255 ∷ leb (length d.manufacturer) 6 ∷ leb (length d.model) 31 ∷ leb (length d.number) 31 ∷ []

-- T7 and W5, by the numbers of octets of interface type, port number and addresses; L is at most 511
abbrev pub table_rules : ℕ → ℕ → ℕ → List Bool
table_rules n m a = leb 1 n ∷ leb n 4 ∷ leb 1 m ∷ leb m 4 ∷ eqb (a % 6) 0 ∷ leb (7 + n + m + a) 511 ∷ []

abbrev pub table_sound : ℕ → ℕ → ℕ → Bool
table_sound n m a = all (table_rules n m a)

abbrev pub link_sound : Option LinkInfo → Bool
link_sound none = true
link_sound (some l) = table_sound (length l.interface) (length l.port) (length l.addresses)

-- T11 and W5, by the octets behind the subtype; L is at most 511
abbrev pub content_sound : List ℕ → Bool
content_sound content = both (leb (4 + length content) 511) (extension_ok content)

abbrev pub extension_sound : Option (List ℕ) → Bool
extension_sound none = true
extension_sound (some content) = content_sound content

-- T8 and W5, by the number of octets of the addresses; L is at most 511
abbrev pub listed_sound : ℕ → Bool
listed_sound a = both (eqb (a % 6) 0) (leb (5 + a) 511)

abbrev pub list_sound : Option (List ℕ) → Bool
list_sound none = true
list_sound (some addresses) = listed_sound (length addresses)

-- W3: with seconds 0 all but chassis and port ID is absent
abbrev pub goodbye_rules : Said → List Bool
goodbye_rules d =
    eqb (length d.words) 0
    ∷ eqb (length d.category) 0
    ∷ eqb (length d.manufacturer) 0
    ∷ eqb (length d.model) 0
    ∷ eqb (length d.number) 0
    ∷ is_none d.link
    ∷ is_none d.extension
    ∷ is_none d.list
    ∷ all (absent_rules d.system)
    ∷ []

-- W2: with seconds above 0 category and model number are there
abbrev pub live_rules : Said → List Bool
live_rules d = leb 1 (length d.category) ∷ leb 1 (length d.number) ∷ []

abbrev pub timely_of : Said → Bool
timely_of d = pick (eqb d.seconds 0) (all (goodbye_rules d)) (all (live_rules d))

-- chassis and port ID are as the reader asks for them (L3, L4)
abbrev pub rules : Said → List Bool
rules d =
    chassis_ok d.chassis
    ∷ port_ok d.port
    ∷ words_sound d.words
    ∷ all (string_rules d)
    ∷ link_sound d.link
    ∷ extension_sound d.extension
    ∷ list_sound d.list
    ∷ all (system_rules d.system)
    ∷ timely_of d
    ∷ []

unfoldable pub sound_of : Said → Bool
sound_of d = all (rules d)
