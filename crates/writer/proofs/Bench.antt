-- The numbers of the rules, computed: what is written of the descriptions of frame A (B1) and B17 and of one with the extension link information of B21, and the limits of W3, W5 and W7.
-- Three descriptions and six tables; the round trip says the rest of every description.
use Prim.Native.Nat.{ℕ, ◌*◌}
use mathlib.Core.Path.{◌≡◌, refl}
use mathlib.Core.List.{List, [], ◌∷◌, ◌++◌, map}
use mathlib.Core.Bool.{true, false}
use mathlib.Core.Option.{Option, none, some}
use lib.ListN.{replicate}
use Rattle.strings.specs.Text.{text_ok}
use Rattle.ids.specs.Id.{id, chassis_ok, port_ok}
use Rattle.found.specs.Contents.{LinkInfo}
use Rattle.tally.specs.Tests.{all}
use Rattle.system.specs.System.{SystemInfo, flags, unsaid, system_rules, absent_rules}
use Rattle.reading.specs.Meaning.{Said}
use Rattle.tlvs.specs.Tlvs.{octets_of, link_info}
use Rattle.announcement.specs.Encode.{system_tlvs, device_tlvs, field_tlvs, tlvs_of, encode}
use Rattle.description.specs.Rules.{link_sound, extension_sound, list_sound, sound_of}
use Rattle.extension.specs.Runs.{span}
use Rattle.extension.specs.Layout.{extension_ok}

-- frame A's description with link information, extension link information, an address list and system fields
abbrev saying : Option LinkInfo → Option (List ℕ) → Option (List ℕ) → SystemInfo → Said
saying linked extended listed x =
    record {
      chassis = id 4 (0x02 ∷ 0x00 ∷ 0x00 ∷ 0x00 ∷ 0x00 ∷ 0x01 ∷ []);
      port = id 7 (0x31 ∷ []);
      seconds = 120;
      words = [];
      category = 0x41 ∷ [];
      manufacturer = [];
      model = [];
      number = 0x37 ∷ [];
      link = linked;
      extension = extended;
      list = listed;
      system = x;
    }

abbrev said-a : Said
said-a = saying none none none unsaid

-- the octets of its TLVs 1 to 3, and of its category and model number
abbrev first_three : List ℕ
first_three = 0x02 ∷ 0x07 ∷ 0x04 ∷ 0x02 ∷ 0x00 ∷ 0x00 ∷ 0x00 ∷ 0x00 ∷ 0x01 ∷ 0x04 ∷ 0x02 ∷ 0x07 ∷ 0x31 ∷ 0x06 ∷ 0x02 ∷ 0x00 ∷ 0x78 ∷ []

abbrev devices : List ℕ
devices = 0xFE ∷ 0x07 ∷ 0xE0 ∷ 0x27 ∷ 0x1A ∷ 0x01 ∷ 0x01 ∷ 0x01 ∷ 0x41 ∷ 0xFE ∷ 0x07 ∷ 0xE0 ∷ 0x27 ∷ 0x1A ∷ 0x01 ∷ 0x04 ∷ 0x01 ∷ 0x37 ∷ []

pub bench-sound : sound_of said-a ≡ true
unfolding sound_of text_ok chassis_ok port_ok
bench-sound = refl

pub bench-written : encode said-a ≡ first_three ++ (devices ++ (0x00 ∷ 0x00 ∷ []))
unfolding encode tlvs_of field_tlvs system_tlvs device_tlvs octets_of
bench-written = refl

-- what B17 says: its system fields stand behind the port description, before the TTC fields (W1)
abbrev said-b : Said
said-b =
    saying none none none
    (record {
      name = 0x73 ∷ 0x77 ∷ [];
      description = 0x78 ∷ [];
      capabilities = some (flags 20 4);
      management = (0x05 ∷ 0x01 ∷ 0x0A ∷ 0x00 ∷ 0x00 ∷ 0x01 ∷ 0x02 ∷ 0x00 ∷ 0x01 ∷ []) ∷ [];
    })

pub system-sound : sound_of said-b ≡ true
unfolding sound_of text_ok chassis_ok port_ok
system-sound = refl

pub system-written : encode said-b
    ≡ first_three
    ++ (0x0A ∷ 0x02 ∷ 0x73 ∷ 0x77
    ∷ 0x0C ∷ 0x01 ∷ 0x78
    ∷ 0x0E ∷ 0x04 ∷ 0x00 ∷ 0x14 ∷ 0x00 ∷ 0x04
    ∷ 0x10 ∷ 0x09 ∷ 0x05 ∷ 0x01 ∷ 0x0A ∷ 0x00 ∷ 0x00 ∷ 0x01 ∷ 0x02 ∷ 0x00 ∷ 0x01
    ∷ (devices ++ (0x00 ∷ 0x00 ∷ [])))
unfolding encode tlvs_of field_tlvs system_tlvs device_tlvs octets_of
system-written = refl

-- the extension link information of B21 (T11)
abbrev extended : List ℕ
extended =
    0x01 ∷ 0x47 ∷ 0x01 ∷ 0x00 ∷ 0x06 ∷ 0x01 ∷ 0x02
    ∷ 0x02 ∷ 0x00 ∷ 0x00 ∷ 0x00 ∷ 0x00 ∷ 0x09 ∷ 0x01 ∷ 0x32 ∷ 0x00
    ∷ 0x01 ∷ 0x01 ∷ 0x02 ∷ 0x00 ∷ 0x00 ∷ 0x00 ∷ 0x00 ∷ 0x0A ∷ 0x01 ∷ 0x07 ∷ []

-- with link information of one address and an address list of none, between which it stands
abbrev said-c : Said
said-c = saying (some (link_info (0x06 ∷ []) (0x03 ∷ []) (0x02 ∷ 0x00 ∷ 0x00 ∷ 0x00 ∷ 0x00 ∷ 0x08 ∷ []))) (some extended) (some []) unsaid

pub extension-sound : sound_of said-c ≡ true
unfolding sound_of text_ok chassis_ok port_ok extension_ok span
extension-sound = refl

pub extension-encoded : encode said-c
    ≡ first_three
    ++ (devices
    ++ (0xFE ∷ 0x0F ∷ 0xE0 ∷ 0x27 ∷ 0x1A ∷ 0x02 ∷ 0x01 ∷ 0x06 ∷ 0x01 ∷ 0x03 ∷ 0x01 ∷ 0x02 ∷ 0x00 ∷ 0x00 ∷ 0x00 ∷ 0x00 ∷ 0x08
    ∷ 0xFE ∷ 0x1E ∷ 0xE0 ∷ 0x27 ∷ 0x1A ∷ 0x04 ∷ (extended
    ++ (0xFE ∷ 0x05 ∷ 0xE0 ∷ 0x27 ∷ 0x1A ∷ 0x03 ∷ 0x00
    ∷ 0x00 ∷ 0x00 ∷ []))))
unfolding encode tlvs_of field_tlvs system_tlvs device_tlvs octets_of
extension-encoded = refl

-- no address and two items of the port, of 255 and of n octets: 266 + n octets behind the subtype (W5)
abbrev two_items : ℕ → List ℕ
two_items n = 0x01 ∷ 0x47 ∷ 0x01 ∷ 0x00 ∷ 0x00 ∷ 0x00 ∷ 0x00 ∷ 0x02 ∷ 0x00 ∷ 0xFF ∷ (replicate 255 0 ++ (n ∷ replicate n 0))

pub extension-limits : map (λ n. extension_sound (some (two_items n))) (0 ∷ 241 ∷ 242 ∷ []) ≡ true ∷ true ∷ false ∷ []
unfolding extension_ok span
extension-limits = refl

pub extension-empty : extension_sound (some []) ≡ false
unfolding extension_ok span
extension-empty = refl

-- a name of n octets and a description of m, and k management addresses of n octets
abbrev strings : ℕ → ℕ → SystemInfo
strings n m = record { name = replicate n 1; description = replicate m 1; capabilities = none; management = [] }

abbrev managed : ℕ → ℕ → SystemInfo
managed k n = record { name = []; description = []; capabilities = none; management = replicate k (replicate n 1) }

pub system-limits : map (λ x. all (system_rules x))
    (strings 255 255 ∷ strings 256 0 ∷ strings 0 256 ∷ managed 4 9 ∷ managed 4 167 ∷ managed 1 8 ∷ managed 1 168 ∷ managed 5 9 ∷ [])
    ≡ true ∷ false ∷ false ∷ true ∷ true ∷ false ∷ false ∷ false ∷ []
system-limits = refl

-- what a goodbye may carry of the system: nothing, not even capabilities with no flag set (W3)
abbrev flagless : SystemInfo
flagless = record { name = []; description = []; capabilities = some (flags 0 0); management = [] }

pub goodbye-limits : map (λ x. all (absent_rules x)) (unsaid ∷ strings 1 0 ∷ strings 0 1 ∷ flagless ∷ managed 1 9 ∷ []) ≡ true ∷ false ∷ false ∷ false ∷ false ∷ []
goodbye-limits = refl

-- k addresses in link information with n = m, and in an address list
abbrev linked : ℕ → ℕ → Option LinkInfo
linked n k = some (link_info (replicate n 1) (replicate n 1) (replicate (6 * k) 0))

abbrev listed : ℕ → Option (List ℕ)
listed k = some (replicate (6 * k) 0)

pub link-limits : (link_sound (linked 1 83) ≡ true) × (link_sound (linked 1 84) ≡ false) × (link_sound (linked 4 82) ≡ true) × (link_sound (linked 4 83) ≡ false)
link-limits = (refl, refl, refl, refl)

pub list-limits : (list_sound (listed 84) ≡ true) × (list_sound (listed 85) ≡ false)
list-limits = (refl, refl)
