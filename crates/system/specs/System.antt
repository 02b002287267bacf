-- The system fields (S1 to S5): what the TLVs of types 5 to 8 say together, and when those of a description are right.
-- `system_in` is the one to believe; `system_at` says it by places, as the code answers, and `system_meant` what that means.
use Rattle.std.specs.Prelude.{ℕ, List, [], ◌∷◌, map, Bool, length, take, get_or, leb, eqb, Option as CodeOption, Some, None}
use Rattle.std.proofs.Math.Option.{Option, none, some}
use Rattle.tally.specs.Tests.{pick, all, is_none}
use Rattle.octets.specs.Numbers.{pair_of}
use Rattle.text.specs.Part.{nowhere, text_of, most_parts, empty_parts, texts_of}
use Rattle.text.specs.declared.Part.{Part}
use Rattle.fields.specs.Field.{system_name, system_description, capabilities, management_ok}
use Rattle.walk.specs.Walk.{Tlv}
use Rattle.found.specs.Contents.{first}
use Rattle.found.specs.Found.{part_at, mark_of}
use Rattle.found.specs.declared.Mark.{Mark}
use Rattle.found.specs.declared.Found.{Found}
use Rattle.system.specs.declared.Capabilities.{Capabilities}
use Rattle.system.specs.declared.System.{System}

-- What is said

-- what the system can do, and what of it is enabled (S2)
pub record Flags : Type 0 where
  pub able : ℕ
  pub enabled : ℕ

abbrev pub flags : ℕ → ℕ → Flags
flags able enabled = record { able = able; enabled = enabled }

pub record SystemInfo : Type 0 where
  pub name : List ℕ
  pub description : List ℕ
  pub capabilities : Option Flags
  pub management : List (List ℕ)

-- S1: of a wrong length it is absent, and an absent string is empty (A2)
abbrev pub up_to255 : List ℕ → List ℕ
up_to255 x = pick (leb (length x) 255) x []

-- S2: exactly four octets; none at all are not four
abbrev pub flags_in : List ℕ → Option Flags
flags_in b = pick (eqb (length b) 4) (some (flags (pair_of (get_or b 0 0) (get_or b 1 0)) (pair_of (get_or b 2 0) (get_or b 3 0)))) none

-- the information strings of the TLVs of a type, in order
unfoldable pub of_type : ℕ → List Tlv → List (List ℕ)
of_type kind [] = []
of_type kind (t ∷ ts) = pick (eqb t.kind kind) (t.body ∷ of_type kind ts) (of_type kind ts)

-- those of a right length for a management address (S3)
unfoldable pub right_ones : List (List ℕ) → List (List ℕ)
right_ones [] = []
right_ones (b ∷ l) = pick (management_ok (length b)) (b ∷ right_ones l) (right_ones l)

-- the first of type 5, of type 6 and of type 7, whatever its length (S4); of type 8 the first four of a right length (S5)
abbrev pub system_in : List Tlv → SystemInfo
system_in ts =
    record {
      name = up_to255 (first (of_type 5 ts));
      description = up_to255 (first (of_type 6 ts));
      capabilities = flags_in (first (of_type 7 ts));
      management = take most_parts (right_ones (of_type 8 ts));
    }

abbrev pub unsaid : SystemInfo
unsaid = record { name = []; description = []; capabilities = none; management = [] }

-- When a description may be written

-- S3
abbrev pub management_sound : List (List ℕ) → Bool
management_sound l = all (map (λ a. management_ok (length a)) l)

-- S1, S3, and no more than four (W7)
abbrev pub system_rules : SystemInfo → List Bool
system_rules x =
    leb (length x.name) 255
    ∷ leb (length x.description) 255
    ∷ leb (length x.management) most_parts
    ∷ management_sound x.management
    ∷ []

-- W3
abbrev pub absent_rules : SystemInfo → List Bool
absent_rules x =
    eqb (length x.name) 0 ∷ eqb (length x.description) 0 ∷ is_none x.capabilities ∷ eqb (length x.management) 0 ∷ []

-- By places, as the code answers: what was found, in the LLDPDU s

unfoldable pub short_at : Mark → Part
short_at m = pick (leb m.len 255) (part_at m) nowhere

unfoldable pub capabilities_in : List ℕ → CodeOption Capabilities
capabilities_in b =
    pick (eqb (length b) 4) (Some (record { able = pair_of (get_or b 0 0) (get_or b 1 0); enabled = pair_of (get_or b 2 0) (get_or b 3 0) })) None

abbrev pub system_at : List ℕ → Found → System
system_at s f =
    record {
      name = short_at (mark_of system_name f);
      description = short_at (mark_of system_description f);
      capabilities = capabilities_in (text_of s (part_at (mark_of capabilities f)));
      management = f.management;
    }

abbrev pub empty_system : System
empty_system = record { name = nowhere; description = nowhere; capabilities = None; management = empty_parts }

-- What that means over the text s

abbrev pub flags_meant : CodeOption Capabilities → Option Flags
flags_meant None = none
flags_meant (Some c) = some (flags c.able c.enabled)

abbrev pub system_meant : List ℕ → System → SystemInfo
system_meant s x =
    record {
      name = text_of s x.name;
      description = text_of s x.description;
      capabilities = flags_meant x.capabilities;
      management = texts_of s x.management;
    }
