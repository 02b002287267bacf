-- Laws of a description's octets: how many there are, that each presence is 0 or 1, and that they mean the description that they were written for.
-- What may be absent is first written in one form, there or not; then every octet stands at a place that is a number.
use Prim.{Unit}
use Prim.Native.Nat.{ℕ, ◌<◌, ◌≤◌}
use mathlib.Core.Path.{◌≡◌, refl, sym, ap, ap₂, ◌∙◌}
use mathlib.Core.List.{List, [], ◌∷◌, ◌++◌}
use mathlib.Core.Bool.{Bool, true, false}
use native.Mathlib.Decide.{dec_lt}
use native.Mathlib.Omega.{arith}
use lib.ListN.{length, get_or}
use lib.Seq.{length-take-le}
use lib.Dec.{ltb}
use borrow.Author.Tests.{ltb-true}
use Rattle.tally.proofs.TestsLaws.{held}
use Rattle.tally.specs.Counts.{one}
use Rattle.std.specs.Prelude.{Option, Some, None}
use Rattle.tally.specs.Tab.{tab}
use Rattle.tally.proofs.TabLaws.{tab-same, tab-get_or}
use Rattle.octets.specs.Numbers.{two_octets}
use Rattle.text.specs.Part.{part, nowhere, most_parts, parts_in}
use Rattle.text.specs.declared.Part.{Part}
use Rattle.text.specs.declared.Parts.{Parts}
use Rattle.text.proofs.PartsLaws.{front_at, past-count}
use Rattle.ids.specs.declared.IdPart.{IdPart}
use Rattle.system.specs.declared.Capabilities.{Capabilities}
use Rattle.system.specs.declared.System.{System}
use Rattle.reading.specs.declared.Link.{Link}
use Rattle.reading.specs.declared.Description.{Description}
use Rattle.octet_description.specs.Octets.{size, part_octets, id_octets, optional_octets, table_octets, link_octets, sets_octets, flags_octets, parts_octets, front_octets, strings_octets, description_octets, number_from, part_from, id_from, optional_from, link_from, flags_from, parts_from, system_from, description_in, presences_ok}

-- A system and a description, with their fields known under other names

pub system-same : (x : System) {n e : Part} {c : Option Capabilities} {m : Parts} → n ≡ x.name → e ≡ x.description → c ≡ x.capabilities → m ≡ x.management
    → ◌≡◌ {A = System} (record { name = n; description = e; capabilities = c; management = m }) x
system-same x p q r s = rw (p, q, r, s)

pub description-same : (d : Description) {c p : IdPart} {s : ℕ} {w k f m n : Part} {l : Option Link} {e a : Option Part} {x : System}
    → c ≡ d.chassis → p ≡ d.port → s ≡ d.seconds → w ≡ d.words → k ≡ d.category → f ≡ d.manufacturer → m ≡ d.model → n ≡ d.number
    → l ≡ d.link → e ≡ d.extension → a ≡ d.list → x ≡ d.system
    → ◌≡◌ {A = Description}
    (record {
      chassis = c;
      port = p;
      seconds = s;
      words = w;
      category = k;
      manufacturer = f;
      model = m;
      number = n;
      link = l;
      extension = e;
      list = a;
      system = x;
    })
    d
description-same d c p s w k f m n l e a x = rw (c, p, s, w, k, f, m, n, l, e, a, x)

-- What may be absent, in one form: whether it is there, and what stands behind the presence

abbrev is_there : {A : Type 0} → Option A → Bool
is_there None = false
is_there (Some x) = true

abbrev inside : Option Part → Part
inside None = nowhere
inside (Some p) = p

abbrev optional_form : Option Part → List ℕ
optional_form o = one (is_there o) ∷ part_octets (inside o)

optional-form : (o : Option Part) → optional_octets o ≡ optional_form o
optional-form None = refl
optional-form (Some p) = refl

abbrev table_inside : Option Link → Link
table_inside None = record { interface = nowhere; port = nowhere; addresses = nowhere }
table_inside (Some l) = l

abbrev link_form : Option Link → List ℕ
link_form l = one (is_there l) ∷ table_octets (table_inside l)

link-form : (l : Option Link) → link_octets l ≡ link_form l
link-form None = refl
link-form (Some l) = refl

abbrev sets_inside : Option Capabilities → Capabilities
sets_inside None = record { able = 0; enabled = 0 }
sets_inside (Some c) = c

abbrev flags_form : Option Capabilities → List ℕ
flags_form c = one (is_there c) ∷ sets_octets (sets_inside c)

flags-form : (c : Option Capabilities) → flags_octets c ≡ flags_form c
flags-form None = refl
flags-form (Some c) = refl

-- the octets of a description, with those of what may be absent in that form
abbrev system_form : System → List ℕ
system_form x = part_octets x.name ++ (part_octets x.description ++ (flags_form x.capabilities ++ parts_octets (parts_in x.management)))

abbrev description_form : Description → List ℕ
description_form d =
    front_octets d ++ (strings_octets d ++ ((link_form d.link ++ (optional_form d.extension ++ optional_form d.list)) ++ system_form d.system))

description-form : (d : Description) → description_octets d ≡ description_form d
unfolding description_octets
description-form d = rw (link-form d.link, optional-form d.extension, optional-form d.list, flags-form d.system.capabilities)

-- How many octets there are

pub octets-long : (d : Description) → length (description_octets d) ≡ size
octets-long d = ap length (description-form d)

pub front_long : (d : Description) → length (front_octets d) ≡ 12
front_long d = refl

-- Each presence is 0 or 1

one-small : (b : Bool) → ltb (one b) 2 ≡ true
one-small true = refl
one-small false = refl

pub presences-written : (d : Description) → presences_ok (description_octets d) ≡ true
unfolding presences_ok
presences-written d =
    ap presences_ok (description-form d)
    ∙ rw (one-small (is_there d.link), one-small (is_there d.extension), one-small (is_there d.list), one-small (is_there d.system.capabilities))

-- and one that passes is no other (X5)
pub presences-are : (o : List ℕ) → presences_ok o ≡ true → (get_or o 32 0 ≤ 1) × ((get_or o 45 0 ≤ 1) × ((get_or o 50 0 ≤ 1) × (get_or o 63 0 ≤ 1)))
unfolding presences_ok
presences-are o e =
    let h = held (ltb (get_or o 32 0) 2 ∷ ltb (get_or o 45 0) 2 ∷ ltb (get_or o 50 0) 2 ∷ ltb (get_or o 63 0) 2 ∷ []) e in
    let below : (k : ℕ) → ltb (get_or o k 0) 2 ≡ true → get_or o k 0 ≤ 1 = λ k t. omega (arith, ltb-true (get_or o k 0) 2 t) in
    (below 32 h.0, (below 45 h.1.0, (below 50 h.1.1.0, below 63 h.1.1.1.0)))

-- A description whose octets mean it: its numbers fit in two octets, and behind the count of its management parts there is nothing

pub record SmallPart (p : Part) : Type 0 where
  pub start : p.start < 65536
  pub len : p.len < 65536

abbrev pub SmallOptional : Option Part → Type 0
SmallOptional None = Unit {0}
SmallOptional (Some p) = SmallPart p

abbrev pub SmallLink : Option Link → Type 0
SmallLink None = Unit {0}
SmallLink (Some l) = SmallPart l.interface × (SmallPart l.port × SmallPart l.addresses)

abbrev pub SmallFlags : Option Capabilities → Type 0
SmallFlags None = Unit {0}
SmallFlags (Some c) = (c.able < 65536) × (c.enabled < 65536)

pub record SmallParts (l : Parts) : Type 0 where
  pub room : length l.parts ≡ most_parts
  pub few : l.count ≤ most_parts
  pub rest : (k : ℕ) → l.count ≤ k → get_or l.parts k nowhere ≡ nowhere
  pub each : (k : ℕ) → SmallPart (get_or l.parts k nowhere)

pub record Small (d : Description) : Type 0 where
  pub chassis : SmallPart d.chassis.octets
  pub port : SmallPart d.port.octets
  pub seconds : d.seconds < 65536
  pub words : SmallPart d.words
  pub category : SmallPart d.category
  pub manufacturer : SmallPart d.manufacturer
  pub model : SmallPart d.model
  pub number : SmallPart d.number
  pub link : SmallLink d.link
  pub extension : SmallOptional d.extension
  pub list : SmallOptional d.list
  pub name : SmallPart d.system.name
  pub description : SmallPart d.system.description
  pub capabilities : SmallFlags d.system.capabilities
  pub management : SmallParts d.system.management

-- Each field comes back from its own octets

number-back : (n : ℕ) → n < 65536 → number_from (two_octets n) 0 ≡ n
number-back n h = omega arith

part-back : (p : Part) → SmallPart p → part_from (part_octets p) 0 ≡ p
part-back p s = ap₂ part (number-back p.start s.start) (number-back p.len s.len)

id-back : (i : IdPart) → SmallPart i.octets → id_from (id_octets i) 0 ≡ i
id-back i s = ap (λ (p : Part). record { subtype = i.subtype; octets = p }) (part-back i.octets s)

optional-back : (o : Option Part) → SmallOptional o → optional_from (optional_form o) 0 ≡ o
optional-back None s = refl
optional-back (Some p) s = rw (part-back p s)

link-back : (l : Option Link) → SmallLink l → link_from (link_form l) 0 ≡ l
link-back None s = refl
link-back (Some l) s = rw (part-back l.interface s.0, part-back l.port s.1.0, part-back l.addresses s.1.1)

flags-back : (c : Option Capabilities) → SmallFlags c → flags_from (flags_form c) 0 ≡ c
flags-back None s = refl
flags-back (Some c) s = rw (number-back c.able s.0, number-back c.enabled s.1)

module _ (l : Parts) (s : SmallParts l) where
  abbrev at : ℕ → Part
  at k = get_or l.parts k nowhere

  abbrev back : ℕ → Part
  back k = part_from (part_octets (get_or (parts_in l) k nowhere)) 0

  -- what is not below the count is nowhere, and so it is in the array
  same-part : (k : ℕ) → get_or (parts_in l) k nowhere ≡ at k
  same-part k =
      elim (dec_lt k l.count) [
        | yes h ↦ front_at l k h
        | no f ↦ past-count l k (omega arith) ∙ sym (s.rest k (omega arith))
      ]

  each_back : (k : ℕ) → back k ≡ at k
  each_back k = ap (λ (p : Part). part_from (part_octets p) 0) (same-part k) ∙ part-back (at k) (s.each k)

  parts-back : parts_from (parts_octets (parts_in l)) 0 ≡ l
  unfolding tab
  parts-back =
      ap₂ (λ (n : ℕ) (m : List Part). record { count = n; parts = m })
      (length-take-le l.count l.parts (omega (arith, s.few, s.room)))
      (tab-same most_parts at back (λ k h. each_back k) ∙ ap (λ (n : ℕ). tab n at) (sym s.room) ∙ tab-get_or l.parts nowhere)

-- The whole

system-back : (d : Description) → Small d → system_from (system_form d.system) 0 ≡ d.system
system-back d s =
    let x = d.system in
    system-same x (part-back x.name s.name) (part-back x.description s.description) (flags-back x.capabilities s.capabilities) (parts-back x.management s.management)

pub octets-back : (d : Description) → Small d → description_in (description_octets d) ≡ d
unfolding description_in
octets-back d s =
    ap description_in (description-form d)
    ∙ description-same d
    (id-back d.chassis s.chassis)
    (id-back d.port s.port)
    (number-back d.seconds s.seconds)
    (part-back d.words s.words)
    (part-back d.category s.category)
    (part-back d.manufacturer s.manufacturer)
    (part-back d.model s.model)
    (part-back d.number s.number)
    (link-back d.link s.link)
    (optional-back d.extension s.extension)
    (optional-back d.list s.list)
    (system-back d s)
