-- What the writer writes of what is said (W1): the TLVs in their order, then their octets.
-- Each TLV by itself stands in tlvs/specs.
use Rattle.std.specs.Prelude.{ℕ, List, [], ◌∷◌, ◌++◌, map}
use Rattle.walk.specs.Walk.{Tlv}
use Rattle.system.specs.System.{SystemInfo}
use Rattle.reading.specs.Meaning.{Said}
use Rattle.tlvs.specs.Tlvs.{octets_of, chassis_tlv, port_tlv, seconds_tlv, end_tlv, words_tlv, name_tlv, system_description_tlv, management_tlv, device_tlv, unless_empty, if_flagged, if_linked, if_extended, if_listed, countable, countable_link, countable_list}

-- the system fields, in order of type (S1 to S3)
unfoldable pub system_tlvs : SystemInfo → List Tlv
system_tlvs x =
    unless_empty name_tlv x.name
    ++ (unless_empty system_description_tlv x.description
    ++ (if_flagged x.capabilities ++ map management_tlv x.management))

-- IDs 1 to 4 (T3)
unfoldable pub device_tlvs : Said → List Tlv
device_tlvs d =
    unless_empty (device_tlv 1) d.category
    ++ (unless_empty (device_tlv 2) d.manufacturer
    ++ (unless_empty (device_tlv 3) d.model ++ unless_empty (device_tlv 4) d.number))

unfoldable pub field_tlvs : Said → List Tlv
field_tlvs d =
    unless_empty words_tlv d.words
    ++ (system_tlvs d.system ++ (device_tlvs d ++ (if_linked d.link ++ (if_extended d.extension ++ if_listed d.list))))

unfoldable pub tlvs_of : Said → List Tlv
tlvs_of d = chassis_tlv d.chassis ∷ port_tlv d.port ∷ seconds_tlv d.seconds ∷ (field_tlvs d ++ (end_tlv ∷ []))

unfoldable pub encode : Said → List ℕ
encode d = octets_of (tlvs_of d)

-- what is said, but for what no octet can count; a description that keeps the rules has nothing of the kind
abbrev pub countable_of : Said → Said
countable_of d =
    record {
      chassis = d.chassis;
      port = d.port;
      seconds = d.seconds;
      words = d.words;
      category = countable d.category;
      manufacturer = countable d.manufacturer;
      model = countable d.model;
      number = countable d.number;
      link = countable_link d.link;
      extension = d.extension;
      list = countable_list d.list;
      system = d.system;
    }
