-- The contents of the topics of the system are the information strings of types 5 to 7, and those of type 8 that have a right length.
-- `by-topics`: what the TLVs say by their types (S4, S5) is what they say by topics, as it is gathered.
use Prim.Native.Nat.{ℕ, ◌<◌}
use mathlib.Core.Path.{◌≡◌, refl, sym, ap, subst, ◌∙◌}
use mathlib.Core.List.{List, [], ◌∷◌}
use mathlib.Core.Bool.{Bool, true, false}
use native.Mathlib.Omega.{arith}
use borrow.Author.Tests.{eqb-true, ne_eqb}
use lib.ListN.{length, take}
use lib.Dec.{eqb}
use Rattle.tally.specs.Tests.{pick, both}
use Rattle.text.specs.Part.{most_parts}
use Rattle.fields.specs.Field.{extension, system_name, system_description, capabilities, management, description_of, management_ok, management_of, is_ttc, ttc_of, field_of}
use Rattle.fields.specs.declared.Field.{Field}
use Rattle.fields.specs.declared.Field.TheVariants.{Skipped, Malformed, Says}
use Rattle.fields.proofs.FieldLaws.{FitsTo, description-fits, ttc-fits}
use Rattle.walk.specs.Walk.{Tlv}
use Rattle.found.specs.Contents.{on_field, contents, first}
use Rattle.system.specs.System.{up_to255, flags_in, of_type, right_ones, system_in}

-- a fact of every type is one of types 4 to 8 and of any other
by-type : (P : ℕ → Type 0) (k : ℕ) → P 4 → P 5 → P 6 → P 7 → P 8
    → (eqb k 4 ≡ false → eqb k 5 ≡ false → eqb k 6 ≡ false → eqb k 7 ≡ false → eqb k 8 ≡ false → P k) → P k
by-type P k four five six seven eight other =
    go (eqb k 4) refl (eqb k 5) refl (eqb k 6) refl (eqb k 7) refl (eqb k 8) refl
  where
    is : (n : ℕ) → eqb k n ≡ true → P n → P k
    is n e p = subst P (sym (eqb-true k n e)) p

    go : (a : Bool) → eqb k 4 ≡ a → (b : Bool) → eqb k 5 ≡ b → (c : Bool) → eqb k 6 ≡ c → (d : Bool) → eqb k 7 ≡ d → (e : Bool) → eqb k 8 ≡ e → P k
    go true p b q c r d s e t = is 4 p four
    go false p true q c r d s e t = is 5 q five
    go false p false q true r d s e t = is 6 r six
    go false p false q false r true s e t = is 7 s seven
    go false p false q false r false s true t = is 8 t eight
    go false p false q false r false s false t = other p q r s t

-- One TLV, with information string b and the contents of those behind it

module _ (b : List ℕ) (more : List (List ℕ)) where
  abbrev met : ℕ → ℕ → List (List ℕ)
  met topic k = on_field (field_of k b) topic b more

  -- what a port description or a TTC field says is no content of the system
  low : (topic : ℕ) → extension < topic → (x : Field) → FitsTo extension b x → on_field x topic b more ≡ more
  low topic h Skipped f = refl
  low topic h Malformed f = refl
  low topic h (Says n skip) f = rw (ne_eqb topic n (λ e. omega (arith, f.known)))

  ttc-low : (topic : ℕ) → extension < topic → (t : Bool) → on_field (pick t (ttc_of b) Skipped) topic b more ≡ more
  ttc-low topic h true = low topic h (ttc_of b) (ttc-fits b)
  ttc-low topic h false = refl

  abbrev right : List (List ℕ)
  right = pick (management_ok (length b)) (b ∷ more) more

  -- a management address is a content of its own topic and of no other
  address-met : on_field (management_of b) management b more ≡ right
  unfolding management_of
  address-met = go (management_ok (length b))
    where
      go : (t : Bool) → on_field (pick t (Says management 0) Skipped) management b more ≡ pick t (b ∷ more) more
      go true = refl
      go false = refl

  quiet : (topic : ℕ) → topic < management → on_field (management_of b) topic b more ≡ more
  unfolding management_of
  quiet topic h = go (management_ok (length b))
    where
      go : (t : Bool) → on_field (pick t (Says management 0) Skipped) topic b more ≡ more
      go true = rw (ne_eqb topic management (λ e. omega arith))
      go false = refl

  -- each topic of the system by the type of the TLV: what is said at types 5, 6, 7 and 8
  at-type : (topic : ℕ) → extension < topic → (found : ℕ → List (List ℕ)) → met topic 5 ≡ found 5 → met topic 6 ≡ found 6 → met topic 7 ≡ found 7 → met topic 8 ≡ found 8
      → ((n : ℕ) → eqb n 5 ≡ false → eqb n 6 ≡ false → eqb n 7 ≡ false → eqb n 8 ≡ false → found n ≡ more)
      → (k : ℕ) → met topic k ≡ found k
  unfolding field_of
  at-type topic h found five six seven eight other k =
      by-type (λ n. met topic n ≡ found n) k (low topic h (description_of b) (description-fits b) ∙ sym (other 4 refl refl refl refl)) five six seven eight
      (λ p q r s t. rw (p, q, r, s, t) (ttc-low topic h (both (eqb k 127) (is_ttc b)) ∙ sym (other k q r s t)))

  name-met : (k : ℕ) → met system_name k ≡ pick (eqb k 5) (b ∷ more) more
  unfolding field_of
  name-met = at-type system_name (omega arith) (λ k. pick (eqb k 5) (b ∷ more) more) refl refl refl (quiet system_name (omega arith)) (λ n p q r s. rw p)

  description-met : (k : ℕ) → met system_description k ≡ pick (eqb k 6) (b ∷ more) more
  unfolding field_of
  description-met = at-type system_description (omega arith) (λ k. pick (eqb k 6) (b ∷ more) more) refl refl refl (quiet system_description (omega arith)) (λ n p q r s. rw q)

  capabilities-met : (k : ℕ) → met capabilities k ≡ pick (eqb k 7) (b ∷ more) more
  unfolding field_of
  capabilities-met = at-type capabilities (omega arith) (λ k. pick (eqb k 7) (b ∷ more) more) refl refl refl (quiet capabilities (omega arith)) (λ n p q r s. rw r)

  management-met : (k : ℕ) → met management k ≡ pick (eqb k 8) right more
  unfolding field_of
  management-met = at-type management (omega arith) (λ k. pick (eqb k 8) right more) refl refl refl address-met (λ n p q r s. rw s)

-- All of them

-- a topic that every TLV of a type has for its whole content
listed : (topic kind : ℕ) → ((b : List ℕ) (more : List (List ℕ)) (k : ℕ) → met b more topic k ≡ pick (eqb k kind) (b ∷ more) more)
    → (ts : List Tlv) → contents topic ts ≡ of_type kind ts
unfolding contents of_type
listed topic kind f [] = refl
listed topic kind f (t ∷ ts) =
    f t.body (contents topic ts) t.kind
    ∙ ap (λ (l : List (List ℕ)). pick (eqb t.kind kind) (t.body ∷ l) l) (listed topic kind f ts)

pub names : (ts : List Tlv) → contents system_name ts ≡ of_type 5 ts
names = listed system_name 5 name-met

pub descriptions : (ts : List Tlv) → contents system_description ts ≡ of_type 6 ts
descriptions = listed system_description 6 description-met

pub flag-sets : (ts : List Tlv) → contents capabilities ts ≡ of_type 7 ts
flag-sets = listed capabilities 7 capabilities-met

pub addresses : (ts : List Tlv) → contents management ts ≡ right_ones (of_type 8 ts)
unfolding contents of_type right_ones
addresses [] = refl
addresses (t ∷ ts) =
    management-met t.body (contents management ts) t.kind
    ∙ ap (λ (l : List (List ℕ)). pick (eqb t.kind 8) (pick (management_ok (length t.body)) (t.body ∷ l) l) l) (addresses ts)
    ∙ go (eqb t.kind 8)
  where
    go : (u : Bool) → pick u (pick (management_ok (length t.body)) (t.body ∷ right_ones (of_type 8 ts)) (right_ones (of_type 8 ts))) (right_ones (of_type 8 ts))
        ≡ right_ones (pick u (t.body ∷ of_type 8 ts) (of_type 8 ts))
    go true = refl
    go false = refl

pub by-topics : (ts : List Tlv)
    → system_in ts
    ≡ record {
      name = up_to255 (first (contents system_name ts));
      description = up_to255 (first (contents system_description ts));
      capabilities = flags_in (first (contents capabilities ts));
      management = take most_parts (contents management ts);
    }
by-topics ts = rw (names ts, descriptions ts, flag-sets ts, addresses ts)
