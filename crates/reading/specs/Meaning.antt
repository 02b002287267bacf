-- What an LLDPDU says, by the rules alone and in lists of octets: this is what must be believed of the reader.
-- No place, no mark and no code type stands in it; what the code answers means this, and that is part of its contract.
use Rattle.std.specs.Prelude.{ℕ, ◌≡◌, List, [], ◌∷◌, Bool, false, Result, Ok, Err, Option as CodeOption, Some, None}
use Rattle.std.proofs.Math.Option.{Option, none, some}
use Rattle.links.specs.Link.{type_count, number_count}
use Rattle.found.specs.Contents.{contents, htip_of, first, LinkInfo, link_in, tlvs_in}
use Rattle.fields.specs.Field.{port_description, category, manufacturer, model_name, model_number, link, address_list, extension}
use Rattle.walk.specs.Walk.{Tlv, Extent}
use Rattle.ids.specs.Id.{Id, id, id_meant}
use Rattle.lldpdu.specs.Extent.{port_place, id_in, extent_of}
use Rattle.lldpdu.specs.Outline.{seconds_in}
use Rattle.text.specs.Part.{text_of, optional_text}
use Rattle.system.specs.System.{SystemInfo, system_in, unsaid, system_meant}
use Rattle.reading.specs.Reading.{reading_of}
use Rattle.refusal.specs.Refusal.{number_of}
use Rattle.refusal.specs.declared.Refusal.{Refusal}
use Rattle.reading.specs.declared.Link.{Link}
use Rattle.reading.specs.declared.Description.{Description}
use Rattle.reading.specs.declared.Reading.{Reading}

-- What is said

pub record Said : Type 0 where
  pub chassis : Id
  pub port : Id
  pub seconds : ℕ
  pub words : List ℕ
  pub category : List ℕ
  pub manufacturer : List ℕ
  pub model : List ℕ
  pub number : List ℕ
  pub link : Option LinkInfo
  pub extension : Option (List ℕ)
  pub list : Option (List ℕ)
  pub system : SystemInfo

-- absent link information and absent octets differ from empty ones (A3)
abbrev pub first_link : List (List ℕ) → Option LinkInfo
first_link [] = none
first_link (c ∷ l) = some (link_in c (type_count 0 c) (number_count 0 c))

abbrev pub first_content : List (List ℕ) → Option (List ℕ)
first_content [] = none
first_content (x ∷ l) = some x

-- chassis, port ID and seconds from TLVs 1 to 3, the rest from the TLVs ts behind them
abbrev pub said_in : List ℕ → List Tlv → Said
said_in s ts =
    record {
      chassis = id_in s 0;
      port = id_in s (port_place s);
      seconds = seconds_in s;
      words = first (contents port_description ts);
      category = first (contents category ts);
      manufacturer = first (contents manufacturer ts);
      model = first (contents model_name ts);
      number = first (contents model_number ts);
      link = first_link (contents link ts);
      extension = first_content (contents extension ts);
      list = first_content (contents address_list ts);
      system = system_in ts;
    }

-- The answer (A1): a refusal number, 0 where there is none, and what stands beside it

pub record ReaderAnswer : Type 0 where
  pub refusal : ℕ
  pub octets : ℕ
  pub htip : Bool
  pub said : Said

abbrev pub refused_answer : ℕ → ReaderAnswer
refused_answer n =
    record {
      refusal = n;
      octets = 0;
      htip = false;
      said =
          record {
            chassis = id 0 [];
            port = id 0 [];
            seconds = 0;
            words = [];
            category = [];
            manufacturer = [];
            model = [];
            number = [];
            link = none;
            extension = none;
            list = none;
            system = unsaid;
          };
    }

abbrev pub answer_at : Extent → List ℕ → ReaderAnswer
answer_at (Err r) s = refused_answer (number_of r)
answer_at (Ok e) s = record { refusal = 0; octets = e; htip = htip_of (tlvs_in s); said = said_in s (tlvs_in s) }

unfoldable pub answer_of : List ℕ → ReaderAnswer
answer_of s = answer_at (extent_of s) s

-- What the code's answer means over the LLDPDU s that was read

abbrev pub link_meant : List ℕ → CodeOption Link → Option LinkInfo
link_meant s None = none
link_meant s (Some l) = some (record { interface = text_of s l.interface; port = text_of s l.port; addresses = text_of s l.addresses })

abbrev pub said_by : List ℕ → Description → Said
said_by s d =
    record {
      chassis = id_meant s d.chassis;
      port = id_meant s d.port;
      seconds = d.seconds;
      words = text_of s d.words;
      category = text_of s d.category;
      manufacturer = text_of s d.manufacturer;
      model = text_of s d.model;
      number = text_of s d.number;
      link = link_meant s d.link;
      extension = optional_text s d.extension;
      list = optional_text s d.list;
      system = system_meant s d.system;
    }

abbrev pub meant : List ℕ → Result Reading Refusal → ReaderAnswer
meant s (Err r) = refused_answer (number_of r)
meant s (Ok r) = record { refusal = 0; octets = r.octets; htip = r.htip; said = said_by s r.description }

-- The contract of the reader: the answer is this one and no other, and it means what the rules say
pub record Reads (s : List ℕ) (r : Result Reading Refusal) : Type 0 where
  pub exact : r ≡ reading_of s
  pub means : meant s r ≡ answer_of s
