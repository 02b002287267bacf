-- What a TLV behind the first three says, by its type and its information string b.
-- It is skipped, not well formed, or has the content of a topic behind some octets of b.
use Rattle.std.specs.Prelude.{ℕ, List, [], ◌∷◌, Bool, not, length, drop, get_or, leb, eqb}
use Rattle.tally.specs.Tests.{pick, both, all}
use Rattle.strings.specs.Text.{text_ok}
use Rattle.fields.specs.Device.{device_of}
use Rattle.links.specs.Link.{link_ok, list_ok}
use Rattle.extension.specs.Layout.{extension_ok}
use Rattle.fields.specs.declared.Field.{Field}
use Rattle.fields.specs.declared.Field.TheVariants.{Skipped, Malformed, Says}

-- the topics; device information of IDs 1 to 4 has its ID for its topic
abbrev pub port_description : ℕ
port_description = 0

abbrev pub category : ℕ
category = 1

abbrev pub manufacturer : ℕ
manufacturer = 2

abbrev pub model_name : ℕ
model_name = 3

abbrev pub model_number : ℕ
model_number = 4

abbrev pub link : ℕ
link = 5

abbrev pub address_list : ℕ
address_list = 6

abbrev pub extension : ℕ
extension = 7

abbrev pub system_name : ℕ
system_name = 8

abbrev pub system_description : ℕ
system_description = 9

abbrev pub capabilities : ℕ
capabilities = 10

-- how many topics there are of which one content is read; their numbers are below this
abbrev pub topics : ℕ
topics = 11

-- the one topic of which several contents are read (S5)
abbrev pub management : ℕ
management = topics

-- T10
unfoldable pub description_of : List ℕ → Field
description_of b = pick (both (leb (length b) 255) (text_ok b)) (Says port_description 0) Malformed

-- S3, by the number of octets
abbrev pub management_ok : ℕ → Bool
management_ok n = both (leb 9 n) (leb n 167)

-- S3; one of a wrong length is passed over (S5)
unfoldable pub management_of : List ℕ → Field
management_of b = pick (management_ok (length b)) (Says management 0) Skipped

-- T7; the content begins with n
unfoldable pub link_of : List ℕ → Field
link_of b = pick (link_ok b) (Says link 4) Malformed

-- T8; the content is the addresses
unfoldable pub list_of : List ℕ → Field
list_of b = pick (list_ok b) (Says address_list 5) Malformed

-- T11; the content begins with n, and one that is not well formed is passed over (H1)
unfoldable pub extension_of : List ℕ → Field
extension_of b = pick (extension_ok (drop 4 b)) (Says extension 4) Skipped

-- T1: E0-27-1A in front
unfoldable pub is_ttc : List ℕ → Bool
is_ttc b = all (eqb (get_or b 0 0) 0xE0 ∷ eqb (get_or b 1 0) 0x27 ∷ eqb (get_or b 2 0) 0x1A ∷ [])

-- by the subtype (T1, T9)
unfoldable pub ttc_of : List ℕ → Field
ttc_of b =
    pick (eqb (get_or b 3 0) 1) (device_of b)
    (pick (eqb (get_or b 3 0) 2) (link_of b)
    (pick (eqb (get_or b 3 0) 3) (list_of b)
    (pick (eqb (get_or b 3 0) 4) (extension_of b) Skipped)))

-- above type 8 only TTC fields are read (L9, T1)
unfoldable pub unread : ℕ → List ℕ → Bool
unread kind b = both (leb 9 kind) (not (both (eqb kind 127) (is_ttc b)))

-- by the type (L9); types 5 to 7 whatever their length, since the first of each decides (S4)
unfoldable pub field_of : ℕ → List ℕ → Field
field_of kind b =
    pick (eqb kind 4) (description_of b)
    (pick (eqb kind 5) (Says system_name 0)
    (pick (eqb kind 6) (Says system_description 0)
    (pick (eqb kind 7) (Says capabilities 0)
    (pick (eqb kind 8) (management_of b)
    (pick (both (eqb kind 127) (is_ttc b)) (ttc_of b) Skipped)))))
