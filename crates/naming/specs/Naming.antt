-- Who sees an address (A4): the first TLV that is well-formed link information, basic or extension, and names it, with its two numbers.
-- The rest of the LLDPDU, the verdict and the address list play no part in it.
use Rattle.std.specs.Prelude.{ℕ, ◌+◌, ◌*◌, ◌≤◌, ◌≡◌, List, [], ◌∷◌, Bool, false, length, take, drop, eqb, Result, Ok, Err, Option as CodeOption, Some, None}
use Rattle.std.proofs.Math.Option.{Option, none, some}
use Rattle.tally.specs.Tests.{pick, both}
use Rattle.tally.specs.Ranges as ranges
use Rattle.octets.specs.Address.{six_at, same_octets}
use Rattle.octets.specs.Numbers.{value_of}
use Rattle.links.specs.Link.{type_count, number_count, address_count, names_of}
use Rattle.extension.specs.Layout.{extension_names}
use Rattle.extension.specs.Table.{Table, table_from}
use Rattle.extension.specs.Asked.{table_names}
use Rattle.fields.specs.Field.{link, extension, field_of}
use Rattle.fields.specs.declared.Field.{Field}
use Rattle.fields.specs.declared.Field.TheVariants.{Skipped, Malformed, Says}
use Rattle.walk.specs.Walk.{Tlv, Placed, Extent}
use Rattle.lldpdu.specs.Extent.{rest_of, extent_of}
use Rattle.refusal.specs.Refusal.{refusal_of}
use Rattle.refusal.specs.declared.Refusal.{Refusal}
use Rattle.found.specs.Contents.{LinkInfo, link_in, tlvs_in}
use Rattle.naming.specs.declared.Number.{Number}
use Rattle.naming.specs.declared.Naming.{Naming}

-- an answer, and its two numbers, where there are any
abbrev pub Answer : Type 0
Answer = Result (CodeOption Naming) Refusal

abbrev pub numbers_named : CodeOption Naming → Option (Number × Number)
numbers_named None = none
numbers_named (Some n) = some (n.interface, n.port)

abbrev pub numbers_of : Answer → Option (Number × Number)
numbers_of (Ok n) = numbers_named n
numbers_of (Err r) = none

-- b is the information string of the field
abbrev pub sees : Field → List ℕ → List ℕ → Bool
sees Skipped b a = false
sees Malformed b a = false
sees (Says topic skip) b a = pick (eqb topic link) (names_of b a) (both (eqb topic extension) (extension_names (drop skip b) a))

abbrev pub sees_in : ℕ → List ℕ → List ℕ → Bool
sees_in kind b a = sees (field_of kind b) b a

abbrev pub number_in : List ℕ → Number
number_in l = record { octets = length l; value = value_of l }

-- b is the information string of well-formed link information of either kind (T7, T11)
unfoldable pub numbers_in : List ℕ → Naming
numbers_in b =
    record {
      interface = number_in (take (type_count 4 b) (drop 5 b));
      port = number_in (take (number_count 4 b) (drop (6 + type_count 4 b) b));
    }

-- what the code needs before it may cut the two numbers out
pub record Numbered (b : List ℕ) : Type 0 where
  pub type_short : type_count 4 b ≤ 4
  pub number_short : number_count 4 b ≤ 4
  pub inside : 6 + type_count 4 b + number_count 4 b ≤ length b

unfoldable pub first_naming : List ℕ → List Placed → CodeOption Naming
first_naming a [] = None
first_naming a (p ∷ ps) = pick (sees_in p.tlv.kind p.tlv.body a) (Some (numbers_in p.tlv.body)) (first_naming a ps)

abbrev pub naming_at : Extent → List ℕ → List ℕ → Answer
naming_at (Err r) s a = Err r
naming_at (Ok e) s a = Ok (first_naming a (rest_of s).tlvs)

unfoldable pub naming_of : List ℕ → List ℕ → Answer
naming_of s a = naming_at (extent_of s) s a

-- What an answer says, by the rules alone: no place and no code type but the two numbers stands in it

-- c is the content of a link information, with n and m octets in its two numbers; one of its k addresses is a
abbrev pub named_in : List ℕ → ℕ → ℕ → List ℕ → Bool
named_in c n m a = ranges.some_below (λ i. same_octets (six_at c (3 + n + m + 6 * i)) a) (address_count 0 c)

abbrev pub numbers_from : LinkInfo → Number × Number
numbers_from l = (number_in l.interface, number_in l.port)

abbrev pub seen_by_link : List ℕ → List ℕ → ℕ → ℕ → Option (Number × Number) → Option (Number × Number)
seen_by_link a c n m more = pick (named_in c n m a) (some (numbers_from (link_in c n m))) more

-- x is what extension link information says
abbrev pub seen_by_table : List ℕ → Table → Option (Number × Number) → Option (Number × Number)
seen_by_table a x more = pick (table_names x a) (some (number_in x.interface, number_in x.port)) more

-- the content of a field begins behind the octets that it skips
abbrev pub seen_by : List ℕ → Field → List ℕ → Option (Number × Number) → Option (Number × Number)
seen_by a Skipped b more = more
seen_by a Malformed b more = more
seen_by a (Says topic skip) b more =
    pick (eqb topic link) (seen_by_link a (drop skip b) (type_count 0 (drop skip b)) (number_count 0 (drop skip b)) more)
    (pick (eqb topic extension) (seen_by_table a (table_from (drop skip b)) more) more)

-- the numbers of the first TLV that names a
unfoldable pub first_seen : List ℕ → List Tlv → Option (Number × Number)
first_seen a [] = none
first_seen a (t ∷ ts) = seen_by a (field_of t.kind t.body) t.body (first_seen a ts)

abbrev pub seen_at : Extent → List ℕ → List ℕ → Option (Number × Number)
seen_at (Err r) s a = none
seen_at (Ok e) s a = first_seen a (tlvs_in s)

-- The contract of who sees an address: this answer and no other, with the refusal and the numbers that the rules give
pub record Names (s a : List ℕ) (r : Answer) : Type 0 where
  pub exact : r ≡ naming_of s a
  pub refusal : refusal_of r ≡ refusal_of (extent_of s)
  pub numbers : numbers_of r ≡ seen_at (extent_of s) s a
