-- What the TLVs behind the first three say, as the code gathers it: for each topic how often and where first, and where the management
-- addresses are. That these mean the contents of specs/Contents.antt is proved in proofs/MarkLaws.antt and proofs/ManagementLaws.antt.
use Rattle.std.specs.Prelude.{ℕ, ◌+◌, ◌-◌, List, [], ◌∷◌, Bool, true, false, not, length, get_or, set, replicate, leb, eqb}
use Rattle.tally.specs.Tests.{pick, all}
use Rattle.fields.specs.Field.{category, manufacturer, model_name, model_number, topics, management, field_of}
use Rattle.fields.specs.declared.Field.{Field}
use Rattle.fields.specs.declared.Field.TheVariants.{Skipped, Malformed, Says}
use Rattle.walk.specs.Walk.{Placed, Walked}
use Rattle.text.specs.Part.{part, empty_parts, with_part}
use Rattle.text.specs.declared.Part.{Part}
use Rattle.found.specs.declared.Mark.{Mark}
use Rattle.found.specs.declared.Found.{Found}
use Rattle.found.specs.declared.Survey.{Survey}

abbrev pub unmarked : Mark
unmarked = record { times = 0; start = 0; len = 0 }

abbrev pub nothing : Found
nothing = record { marks = replicate topics unmarked; malformed = false; management = empty_parts }

-- the part that a mark delimits
abbrev pub part_at : Mark → Part
part_at m = part m.start m.len

-- the first place stays, and that there was another is known
unfoldable pub marked_at : Mark → ℕ → ℕ → Mark
marked_at m start len = pick (eqb m.times 0) (record { times = 1; start = start; len = len }) (record { times = 2; start = m.start; len = m.len })

abbrev pub mark_of : ℕ → Found → Mark
mark_of topic f = get_or f.marks topic unmarked

-- with one TLV more, whose information string has len octets from start on
unfoldable pub noted : Found → Field → ℕ → ℕ → Found
noted f Skipped start len = f
noted f Malformed start len = record { marks = f.marks; malformed = true; management = f.management }
noted f (Says topic skip) start len =
    record {
      marks = pick (eqb topic management) f.marks (set f.marks topic (marked_at (mark_of topic f) (start + skip) (len - skip)));
      malformed = f.malformed;
      management = pick (eqb topic management) (with_part f.management (part (start + skip) (len - skip))) f.management;
    }

unfoldable pub gather : Found → List Placed → Found
gather f [] = f
gather f (p ∷ ps) = gather (noted f (field_of p.tlv.kind p.tlv.body) p.start (length p.tlv.body)) ps

-- the walk as the code goes it: its extent, and what is found with what its TLVs say
unfoldable pub survey_by : Found → Walked → Survey
survey_by f w = record { extent = w.extent; found = gather f w.tlvs }

-- H1, from the marks
unfoldable pub htip_in : Found → Bool
htip_in f =
    all (not f.malformed
    ∷ eqb (mark_of category f).times 1
    ∷ eqb (mark_of model_number f).times 1
    ∷ leb (mark_of manufacturer f).times 1
    ∷ leb (mark_of model_name f).times 1
    ∷ [])
