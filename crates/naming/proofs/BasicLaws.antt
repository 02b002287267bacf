-- An LLDPDU without extension link information: who sees an address as before there was any (A4).
-- `seen_before` is the definition of then, over the contents of link information alone.
use Prim.Native.Nat.{ℕ}
use mathlib.Core.Path.{◌≡◌, refl, sym, ap}
use mathlib.Core.List.{List, [], ◌∷◌}
use mathlib.Core.Bool.{Bool, true, false}
use mathlib.Core.Option.{Option, none}
use borrow.Author.Tests.{eqb-true, eqb-false, eq-eqb, ne_eqb}
use native.Mathlib.Omega.{arith}
use lib.ListN.{length, drop}
use lib.Dec.{eqb}
use Rattle.tally.specs.Tests.{pick}
use Rattle.links.specs.Link.{type_count, number_count}
use Rattle.fields.specs.Field.{link, extension, field_of}
use Rattle.fields.specs.declared.Field.{Field}
use Rattle.fields.specs.declared.Field.TheVariants.{Skipped, Malformed, Says}
use Rattle.walk.specs.Walk.{Tlv}
use Rattle.found.specs.Contents.{on_field, contents}
use Rattle.naming.specs.Naming.{seen_by_link, seen_by, first_seen}
use Rattle.naming.specs.declared.Number.{Number}

abbrev pub seen_before : List ℕ → List (List ℕ) → Option (Number × Number)
seen_before a [] = none
seen_before a (c ∷ cs) = seen_by_link a c (type_count 0 c) (number_count 0 c) (seen_before a cs)

-- one field in front of the others: it is not extension link information
field-before : (a b : List ℕ) (x : Field) (more : Option (Number × Number)) (es ls : List (List ℕ)) → on_field x extension b es ≡ [] → more ≡ seen_before a ls
    → seen_by a x b more ≡ seen_before a (on_field x link b ls)
field-before a b Skipped more es ls n ih = ih
field-before a b Malformed more es ls n ih = ih
field-before a b (Says topic skip) more es ls n ih = go (eqb topic link) refl (eqb topic extension) refl n
  where
    go : (u : Bool) → eqb topic link ≡ u → (v : Bool) → eqb topic extension ≡ v → pick (eqb extension topic) (drop skip b ∷ es) es ≡ []
        → seen_by a (Says topic skip) b more ≡ seen_before a (pick (eqb link topic) (drop skip b ∷ ls) ls)
    go true p v q m = rw (p, eq-eqb link topic (sym (eqb-true topic link p)), ih)
    go false p true q m = absurd (let z = ap length (sym (rw (eq-eqb extension topic (sym (eqb-true topic extension q))) at m)) in omega arith)
    go false p false q m = rw (p, q, ne_eqb link topic (λ e. eqb-false topic link p (sym e))) ih

silent-rest : (b : List ℕ) (x : Field) (es : List (List ℕ)) → on_field x extension b es ≡ [] → es ≡ []
silent-rest b Skipped es n = n
silent-rest b Malformed es n = n
silent-rest b (Says topic skip) es n = go (eqb extension topic) n
  where
    go : (u : Bool) → pick u (drop skip b ∷ es) es ≡ [] → es ≡ []
    go true m = absurd (let z = ap length m in omega arith)
    go false m = m

pub seen-as-before : (a : List ℕ) (ts : List Tlv) → contents extension ts ≡ [] → first_seen a ts ≡ seen_before a (contents link ts)
unfolding first_seen contents
seen-as-before a [] n = refl
seen-as-before a (t ∷ ts) n =
    let x = field_of t.kind t.body in
    field-before a t.body x (first_seen a ts) (contents extension ts) (contents link ts) n (seen-as-before a ts (silent-rest t.body x (contents extension ts) n))
