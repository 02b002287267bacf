-- The TLVs that the writer writes (L1 to L7, T1 to T11, S1 to S3), and their octets.
-- An empty string is absent and has no TLV. Nor have absent capabilities, absent link information of either kind and an absent address list.
use Rattle.std.specs.Prelude.{ℕ, ◌/◌, ◌%◌, List, [], ◌∷◌, ◌++◌, Bool, length, leb}
use Rattle.std.proofs.Math.Option.{Option, none, some}
use Rattle.tally.specs.Tests.{pick, all}
use Rattle.octets.specs.Header.{high, low}
use Rattle.ids.specs.Id.{Id}
use Rattle.walk.specs.Walk.{Tlv}
use Rattle.found.specs.Contents.{LinkInfo}
use Rattle.system.specs.System.{Flags}

abbrev pub tlv : ℕ → List ℕ → Tlv
tlv kind body = record { kind = kind; body = body }

-- a header of seven bits of type and nine bits of length, and the information string (L1)
abbrev pub written : Tlv → List ℕ
written t = high t.kind (length t.body) ∷ low (length t.body) ∷ t.body

unfoldable pub octets_of : List Tlv → List ℕ
octets_of [] = []
octets_of (t ∷ ts) = written t ++ octets_of ts

-- The first three (L3 to L5) and the last (L7)

-- an ID: its subtype, then its octets
abbrev pub id_tlv : ℕ → Id → Tlv
id_tlv kind d = tlv kind (d.subtype ∷ d.octets)

abbrev pub chassis_tlv : Id → Tlv
chassis_tlv chassis = id_tlv 1 chassis

abbrev pub port_tlv : Id → Tlv
port_tlv port = id_tlv 2 port

abbrev pub seconds_tlv : ℕ → Tlv
seconds_tlv seconds = tlv 3 (seconds / 256 ∷ seconds % 256 ∷ [])

abbrev pub end_tlv : Tlv
end_tlv = tlv 0 []

-- The fields: a port description (T10), the system fields (S1 to S3), and TTC fields (T1)

abbrev pub words_tlv : List ℕ → Tlv
words_tlv words = tlv 4 words

abbrev pub name_tlv : List ℕ → Tlv
name_tlv name = tlv 5 name

abbrev pub system_description_tlv : List ℕ → Tlv
system_description_tlv description = tlv 6 description

abbrev pub flags_tlv : Flags → Tlv
flags_tlv f = tlv 7 (f.able / 256 ∷ f.able % 256 ∷ f.enabled / 256 ∷ f.enabled % 256 ∷ [])

abbrev pub management_tlv : List ℕ → Tlv
management_tlv address = tlv 8 address

abbrev pub ttc_tlv : ℕ → List ℕ → Tlv
ttc_tlv subtype content = tlv 127 (0xE0 ∷ 0x27 ∷ 0x1A ∷ subtype ∷ content)

-- T2
abbrev pub device_tlv : ℕ → List ℕ → Tlv
device_tlv id string = ttc_tlv 1 (id ∷ length string ∷ string)

-- T7: n, interface type, m, port number, k, k addresses of six octets
abbrev pub link_content : LinkInfo → List ℕ
link_content l = length l.interface ∷ (l.interface ++ (length l.port ∷ (l.port ++ (length l.addresses / 6 ∷ l.addresses))))

abbrev pub link_tlv : LinkInfo → Tlv
link_tlv l = ttc_tlv 2 (link_content l)

-- T11: the octets behind the subtype, n to the last item
abbrev pub extension_tlv : List ℕ → Tlv
extension_tlv content = ttc_tlv 4 content

-- T8: k, k addresses of six octets
abbrev pub list_tlv : List ℕ → Tlv
list_tlv addresses = ttc_tlv 3 (length addresses / 6 ∷ addresses)

-- What is there

abbrev pub unless_empty : (List ℕ → Tlv) → List ℕ → List Tlv
unless_empty f [] = []
unless_empty f (x ∷ l) = f (x ∷ l) ∷ []

abbrev pub if_present : {A : Type 0} → (A → Tlv) → Option A → List Tlv
if_present f none = []
if_present f (some x) = f x ∷ []

abbrev pub if_flagged : Option Flags → List Tlv
if_flagged capabilities = if_present flags_tlv capabilities

abbrev pub if_linked : Option LinkInfo → List Tlv
if_linked link = if_present link_tlv link

abbrev pub if_extended : Option (List ℕ) → List Tlv
if_extended content = if_present extension_tlv content

abbrev pub if_listed : Option (List ℕ) → List Tlv
if_listed addresses = if_present list_tlv addresses

-- link information by its three parts
abbrev pub link_info : List ℕ → List ℕ → List ℕ → LinkInfo
link_info interface port addresses = record { interface = interface; port = port; addresses = addresses }

-- What an octet can count (s of T2; n, m and k of T7; k of T8); what it cannot is left out

abbrev pub most_counted : ℕ
most_counted = 255

abbrev pub countable : List ℕ → List ℕ
countable x = pick (leb (length x) most_counted) x []

abbrev pub link_counts : LinkInfo → List Bool
link_counts l = leb (length l.interface) most_counted ∷ leb (length l.port) most_counted ∷ leb (length l.addresses / 6) most_counted ∷ []

abbrev pub countable_link : Option LinkInfo → Option LinkInfo
countable_link none = none
countable_link (some l) = pick (all (link_counts l)) (some l) none

abbrev pub countable_list : Option (List ℕ) → Option (List ℕ)
countable_list none = none
countable_list (some addresses) = pick (leb (length addresses / 6) most_counted) (some addresses) none
