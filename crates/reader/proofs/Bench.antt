-- The bench frames B1 to B12 and B14 to B24: one table of frames and answers, and one computed test of it against the rules.
-- Verdicts, lengths and every field are in it; the code's answers mean the same by its contract. Then frame A from other sources (F4).
use Prim.Native.Nat.{ℕ}
use mathlib.Core.Path.{◌≡◌, refl}
use mathlib.Core.List.{List, [], ◌∷◌, ◌++◌, map}
use mathlib.Core.Bool.{Bool, true, false}
use mathlib.Core.Option.{Option, none, some}
use lib.ListN.{take, drop, replicate}
use Rattle.tally.specs.Ranges.{all_below, some_below}
use Rattle.octets.specs.Address.{six_at, same_octets, is_group}
use Rattle.octets.specs.Numbers.{value_from}
use Rattle.strings.specs.Text.{char_ok, text_ok}
use Rattle.strings.specs.Wants.{wanted_of}
use Rattle.fields.specs.Device.{device_of}
use Rattle.links.specs.Link.{link_ok, list_ok}
use Rattle.fields.specs.Field.{description_of, management_of, link_of, list_of, extension_of, is_ttc, ttc_of, field_of}
use Rattle.walk.specs.Walk.{head_of, step_of, walk}
use Rattle.ids.specs.Id.{Id, id, chassis_ok, port_ok}
use Rattle.lldpdu.specs.Extent.{port_place, seconds_place, behind_port, behind_chassis, extent_of}
use Rattle.found.specs.Contents.{contents, well_formed, htip_of}
use Rattle.system.specs.System.{SystemInfo, flags, of_type, right_ones, unsaid}
use Rattle.extension.specs.Runs.{span, each}
use Rattle.extension.specs.Layout.{extension_ok}
use Rattle.extension.specs.Table.{table_from}
use Rattle.naming.specs.Naming.{first_seen, seen_at}
use Rattle.naming.specs.declared.Number.{Number}
use Rattle.reading.specs.Meaning.{ReaderAnswer, refused_answer, answer_of}
use Rattle.reader.specs.Frame.{everyone, nearest, frame_ok, on_frame}

-- frame A in pieces
abbrev header : List ℕ
header = 0xFF ∷ 0xFF ∷ 0xFF ∷ 0xFF ∷ 0xFF ∷ 0xFF ∷ 0x02 ∷ 0x00 ∷ 0x00 ∷ 0x00 ∷ 0x00 ∷ 0x01 ∷ 0x88 ∷ 0xCC ∷ []

abbrev chassis : List ℕ
chassis = 0x02 ∷ 0x07 ∷ 0x04 ∷ 0x02 ∷ 0x00 ∷ 0x00 ∷ 0x00 ∷ 0x00 ∷ 0x01 ∷ []

abbrev port : List ℕ
port = 0x04 ∷ 0x02 ∷ 0x07 ∷ 0x31 ∷ []

abbrev seconds : List ℕ
seconds = 0x06 ∷ 0x02 ∷ 0x00 ∷ 0x78 ∷ []

abbrev category : List ℕ
category = 0xFE ∷ 0x07 ∷ 0xE0 ∷ 0x27 ∷ 0x1A ∷ 0x01 ∷ 0x01 ∷ 0x01 ∷ 0x41 ∷ []

abbrev number : List ℕ
number = 0xFE ∷ 0x07 ∷ 0xE0 ∷ 0x27 ∷ 0x1A ∷ 0x01 ∷ 0x04 ∷ 0x01 ∷ 0x37 ∷ []

abbrev end : List ℕ
end = 0x00 ∷ 0x00 ∷ []

abbrev first : List ℕ
first = chassis ++ port ++ seconds

abbrev frame-a : List ℕ
frame-a = header ++ first ++ category ++ number ++ end

-- a valid frame of n octets, with chassis c, verdict h, category k, system fields x and extension link information e
abbrev from : Id → ℕ → Bool → List ℕ → SystemInfo → Option (List ℕ) → ReaderAnswer
from c n h k x e =
    record {
      refusal = 0;
      octets = n;
      htip = h;
      said =
          record {
            chassis = c;
            port = id 7 (0x31 ∷ []);
            seconds = 120;
            words = [];
            category = k;
            manufacturer = [];
            model = [];
            number = 0x37 ∷ [];
            link = none;
            extension = e;
            list = none;
            system = x;
          };
    }

-- the same with the chassis of frame A, without either; and with its category too, HTIP and with one of them
abbrev address : Id
address = id 4 (0x02 ∷ 0x00 ∷ 0x00 ∷ 0x00 ∷ 0x00 ∷ 0x01 ∷ [])

abbrev valid : ℕ → Bool → List ℕ → ReaderAnswer
valid n h k = from address n h k unsaid none

abbrev saying : ℕ → SystemInfo → ReaderAnswer
saying n x = from address n true (0x41 ∷ []) x none

abbrev linking : ℕ → Option (List ℕ) → ReaderAnswer
linking n e = from address n true (0x41 ∷ []) unsaid e

-- frame A with another TLV 1
abbrev behind : List ℕ → List ℕ
behind c = header ++ c ++ port ++ seconds ++ category ++ number ++ end

-- frame A with TLVs put before the End
abbrev with : List ℕ → List ℕ
with x = header ++ first ++ category ++ number ++ x ++ end

pub record Case : Type 0 where
  pub frame : List ℕ
  pub answer : ReaderAnswer

abbrev case : List ℕ → ReaderAnswer → Case
case f a = record { frame = f; answer = a }

-- an address of eight octets
abbrev eight : List ℕ
eight = 0x02 ∷ 0x00 ∷ 0x00 ∷ 0xFF ∷ 0xFE ∷ 0x00 ∷ 0x00 ∷ 0x01 ∷ []

-- a management address of nine octets, by its last one, and its TLV
abbrev managed : ℕ → List ℕ
managed i = 0x05 ∷ 0x01 ∷ 0x0A ∷ 0x00 ∷ 0x00 ∷ 0x01 ∷ 0x02 ∷ 0x00 ∷ i ∷ []

abbrev management : ℕ → List ℕ
management i = 0x10 ∷ 0x09 ∷ managed i

-- extension link information of B21, by the length of the port's item; of B23 and of B24; and its TLV, by L
abbrev radio : ℕ → List ℕ
radio n =
    0x01 ∷ 0x47 ∷ 0x01 ∷ 0x00 ∷ 0x06 ∷ 0x01 ∷ 0x02
    ∷ 0x02 ∷ 0x00 ∷ 0x00 ∷ 0x00 ∷ 0x00 ∷ 0x09 ∷ 0x01 ∷ 0x32 ∷ 0x00
    ∷ 0x01 ∷ 0x01 ∷ 0x02 ∷ 0x00 ∷ 0x00 ∷ 0x00 ∷ 0x00 ∷ 0x0A ∷ n ∷ 0x07 ∷ []

abbrev wide : List ℕ
wide = 0x01 ∷ 0x47 ∷ 0x01 ∷ 0x00 ∷ 0x08 ∷ 0x01 ∷ 0x00 ∷ 0x02 ∷ 0x00 ∷ 0x00 ∷ 0x00 ∷ 0x00 ∷ 0x09 ∷ 0x00 ∷ 0x00 ∷ 0x00 ∷ 0x00 ∷ []

abbrev later : List ℕ
later =
    0x01 ∷ 0x47 ∷ 0x01 ∷ 0x00 ∷ 0x06 ∷ 0x01 ∷ 0x0A
    ∷ 0x02 ∷ 0x00 ∷ 0x00 ∷ 0x00 ∷ 0x00 ∷ 0x09 ∷ 0x01 ∷ 0x32 ∷ 0x00 ∷ 0x00 ∷ 0x00 ∷ 0x00 ∷ 0x00 ∷ 0x00 ∷ 0x00 ∷ 0x00 ∷ 0x00
    ∷ 0x00 ∷ 0x00 ∷ []

abbrev extending : ℕ → List ℕ → List ℕ
extending l t = 0xFE ∷ l ∷ 0xE0 ∷ 0x27 ∷ 0x1A ∷ 0x04 ∷ t

abbrev pub bench : List Case
bench =
    case frame-a (valid 37 true (0x41 ∷ []))
    ∷ case (frame-a ++ 0 ∷ 0 ∷ 0 ∷ 0 ∷ 0 ∷ 0 ∷ 0 ∷ 0 ∷ 0 ∷ []) (valid 37 true (0x41 ∷ []))
    ∷ case (take 50 frame-a) (refused_answer 5)
    ∷ case (take 14 frame-a) (refused_answer 5)
    ∷ case (take 13 frame-a) (refused_answer 3)
    ∷ case (take 12 frame-a ++ 0x08 ∷ 0x00 ∷ drop 14 frame-a) (refused_answer 3)
    ∷ case (behind (0x02 ∷ 0x06 ∷ 0x04 ∷ 0x02 ∷ 0x00 ∷ 0x00 ∷ 0x00 ∷ 0x00 ∷ [])) (refused_answer 4)
    ∷ case (header ++ chassis ++ port ++ (0x06 ∷ 0x03 ∷ 0x00 ∷ 0x78 ∷ 0x00 ∷ []) ++ category ++ number ++ end) (refused_answer 4)
    ∷ case (with (0x06 ∷ 0x02 ∷ 0x00 ∷ 0x78 ∷ [])) (refused_answer 6)
    ∷ case (with (0xFE ∷ 0x03 ∷ 0xE0 ∷ 0x27 ∷ 0x1A ∷ [])) (refused_answer 6)
    ∷ case (header ++ first ++ (0xFE ∷ 0x05 ∷ 0xE0 ∷ 0x27 ∷ 0x1A ∷ 0x01 ∷ 0x01 ∷ []) ++ number ++ end) (valid 35 false [])
    ∷ case (header ++ first ++ (0xFE ∷ 0x07 ∷ 0xE0 ∷ 0x27 ∷ 0x1A ∷ 0x01 ∷ 0x01 ∷ 0x02 ∷ 0x41 ∷ []) ++ number ++ end) (valid 37 false [])
    ∷ case (behind (0x02 ∷ 0x09 ∷ 0x04 ∷ eight)) (from (id 4 eight) 39 true (0x41 ∷ []) unsaid none)
    ∷ case (behind (0x02 ∷ 0x03 ∷ 0x07 ∷ 0x41 ∷ 0x46 ∷ [])) (from (id 7 (0x41 ∷ 0x46 ∷ [])) 33 true (0x41 ∷ []) unsaid none)
    ∷ case (behind (0x02 ∷ 0x43 ∷ 0x07 ∷ replicate 66 0x30)) (refused_answer 4)
    ∷ case (with ((0x0A ∷ 0x02 ∷ 0x73 ∷ 0x77 ∷ 0x0C ∷ 0x01 ∷ 0x78 ∷ 0x0E ∷ 0x04 ∷ 0x00 ∷ 0x14 ∷ 0x00 ∷ 0x04 ∷ []) ++ management 1))
    (saying 61 (record { name = 0x73 ∷ 0x77 ∷ []; description = 0x78 ∷ []; capabilities = some (flags 20 4); management = managed 1 ∷ [] }))
    ∷ case (with ((0x0B ∷ 0x00 ∷ replicate 256 0x41) ++ (0x0A ∷ 0x01 ∷ 0x42 ∷ []))) (saying 298 unsaid)
    ∷ case (with (0x0E ∷ 0x05 ∷ 0x00 ∷ 0x14 ∷ 0x00 ∷ 0x04 ∷ 0x00 ∷ 0x0E ∷ 0x04 ∷ 0x00 ∷ 0x14 ∷ 0x00 ∷ 0x04 ∷ [])) (saying 50 unsaid)
    ∷ case (with ((0x10 ∷ 0x08 ∷ replicate 8 0x00) ++ (management 1 ++ management 2 ++ management 3 ++ management 4 ++ management 5)))
    (saying 102 (record { name = []; description = []; capabilities = none; management = managed 1 ∷ managed 2 ∷ managed 3 ∷ managed 4 ∷ [] }))
    ∷ case (with (extending 0x1E (radio 1))) (linking 69 (some (radio 1)))
    ∷ case (with (extending 0x1E (radio 2))) (linking 69 none)
    ∷ case (with (extending 0x15 wide)) (linking 60 (some wide))
    ∷ case (with (extending 0x1E later)) (linking 69 (some later))
    ∷ []

pub bench-right : map (λ (c : Case). on_frame (refused_answer 3) answer_of c.frame) bench ≡ map (λ (c : Case). c.answer) bench
unfolding six_at same_octets is_group char_ok text_ok wanted_of device_of link_ok list_ok description_of link_of list_of is_ttc ttc_of field_of head_of step_of walk all_below chassis_ok port_ok port_place seconds_place behind_port behind_chassis extent_of contents well_formed htip_of of_type right_ones management_of extension_of extension_ok span answer_of frame_ok on_frame
bench-right = refl

-- who sees an address in them (A4), and the items of B24 (T13)

abbrev station : ℕ → List ℕ
station n = 0x02 ∷ 0x00 ∷ 0x00 ∷ 0x00 ∷ 0x00 ∷ n ∷ []

abbrev seen-in : List ℕ → ℕ → Option (Number × Number)
seen-in x n = seen_at (extent_of (drop 14 (with x))) (drop 14 (with x)) (station n)

abbrev at-radio : Option (Number × Number)
at-radio = some (record { octets = 1; value = 0x47 }, record { octets = 1; value = 0 })

pub bench-seen : seen-in (extending 0x1E (radio 1)) 9
    ∷ seen-in (extending 0x1E (radio 1)) 10
    ∷ seen-in (extending 0x1E (radio 2)) 9
    ∷ seen-in (extending 0x15 wide) 9
    ∷ seen-in (extending 0x1E later) 9
    ∷ []
    ≡ at-radio ∷ none ∷ none ∷ none ∷ at-radio ∷ []
unfolding six_at char_ok text_ok wanted_of device_of link_ok list_ok description_of link_of list_of head_of step_of walk all_below chassis_ok port_ok port_place seconds_place behind_port behind_chassis extent_of first_seen field_of is_ttc ttc_of management_of extension_of extension_ok span each some_below same_octets value_from
bench-seen = refl

pub bench-items : (table_from later).entries ≡ record { address = station 9; items = (0x32 ∷ []) ∷ replicate 9 [] } ∷ []
unfolding span each
bench-items = refl

-- Frame A from other sources (F4)

abbrev fits-from : List ℕ → Bool
fits-from a = frame_ok (take 6 frame-a ++ a ++ drop 12 frame-a)

pub group-sources : map fits-from ((0x03 ∷ 0x00 ∷ 0x00 ∷ 0x00 ∷ 0x00 ∷ 0x01 ∷ []) ∷ nearest ∷ everyone ∷ []) ≡ false ∷ false ∷ false ∷ []
unfolding six_at same_octets is_group frame_ok
group-sources = refl

pub other-sources : map fits-from ((0x00 ∷ 0x00 ∷ 0x00 ∷ 0x00 ∷ 0x00 ∷ 0x00 ∷ []) ∷ (0xFE ∷ 0xFF ∷ 0xFF ∷ 0xFF ∷ 0xFF ∷ 0xFF ∷ []) ∷ []) ≡ true ∷ true ∷ []
unfolding six_at same_octets is_group frame_ok
other-sources = refl
