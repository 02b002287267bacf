-- What the TLVs behind the first three say together: the contents of each topic, in the order of the TLVs, and the verdict (H1).
-- No place, no mark and no code type stands in it.
use Rattle.std.specs.Prelude.{ℕ, ◌+◌, List, [], ◌∷◌, map, Bool, true, false, length, take, drop, leb, eqb}
use Rattle.tally.specs.Tests.{pick, both, all}
use Rattle.fields.specs.Field.{category, manufacturer, model_name, model_number, field_of}
use Rattle.fields.specs.declared.Field.{Field}
use Rattle.fields.specs.declared.Field.TheVariants.{Skipped, Malformed, Says}
use Rattle.walk.specs.Walk.{Tlv}
use Rattle.lldpdu.specs.Extent.{rest_of}

abbrev pub on_field : Field → ℕ → List ℕ → List (List ℕ) → List (List ℕ)
on_field Skipped topic b more = more
on_field Malformed topic b more = more
on_field (Says n skip) topic b more = pick (eqb topic n) (drop skip b ∷ more) more

unfoldable pub contents : ℕ → List Tlv → List (List ℕ)
contents topic [] = []
contents topic (t ∷ ts) = on_field (field_of t.kind t.body) topic t.body (contents topic ts)

abbrev pub formed : Field → Bool
formed Skipped = true
formed Malformed = false
formed (Says n skip) = true

unfoldable pub well_formed : List Tlv → Bool
well_formed [] = true
well_formed (t ∷ ts) = both (formed (field_of t.kind t.body)) (well_formed ts)

-- H1: every field is well formed, IDs 1 and 4 are there, and none of IDs 1 to 4 is there twice
unfoldable pub htip_of : List Tlv → Bool
htip_of ts =
    all (well_formed ts
    ∷ eqb (length (contents category ts)) 1
    ∷ eqb (length (contents model_number ts)) 1
    ∷ leb (length (contents manufacturer ts)) 1
    ∷ leb (length (contents model_name ts)) 1
    ∷ [])

-- the first well-formed one counts; an absent string reads as empty (A2)
abbrev pub first : List (List ℕ) → List ℕ
first [] = []
first (x ∷ l) = x

-- the TLVs behind the first three
abbrev pub tlvs_in : List ℕ → List Tlv
tlvs_in s = map (λ p. p.tlv) (rest_of s).tlvs

-- What a content of the topic link says (T7): its two numbers, with n and m octets, and its addresses

-- the addresses stand one behind the other, six octets each
pub record LinkInfo : Type 0 where
  pub interface : List ℕ
  pub port : List ℕ
  pub addresses : List ℕ

abbrev pub link_in : List ℕ → ℕ → ℕ → LinkInfo
link_in c n m = record { interface = take n (drop 1 c); port = take m (drop (2 + n) c); addresses = drop (3 + n + m) c }
