-- Laws of what TLVs say together, by the TLVs one behind the other.
-- `verdict-untouched`: system fields and extension link information play no part in the verdict (H1), whatever they have and wherever they stand.
use Prim.Native.Nat.{ℕ, ◌<◌, ◌≤◌}
use mathlib.Core.Path.{◌≡◌, refl, sym, ap, ◌∙◌}
use mathlib.Core.List.{List, [], ◌∷◌, ◌++◌}
use mathlib.Core.Bool.{Bool, true, false, true≢false}
use native.Mathlib.Omega.{arith}
use borrow.Author.Tests.{ne_eqb, eqb-true, leb-true, lt-leb}
use lib.ListN.{length, drop, get_or}
use lib.Dec.{leb, eqb}
use Rattle.tally.specs.Tests.{pick, both, either, all}
use Rattle.tally.proofs.TestsLaws.{both_true, held}
use Rattle.extension.specs.Layout.{extension_ok}
use Rattle.fields.specs.Field.{category, manufacturer, model_name, model_number, extension, system_name, system_description, capabilities, management, management_ok, management_of, extension_of, is_ttc, ttc_of, field_of}
use Rattle.fields.specs.declared.Field.{Field}
use Rattle.fields.specs.declared.Field.TheVariants.{Skipped, Malformed, Says}
use Rattle.walk.specs.Walk.{Tlv}
use Rattle.found.specs.Contents.{on_field, contents, formed, well_formed, htip_of}

pub contents-append : (topic : ℕ) (a b : List Tlv) → contents topic (a ++ b) ≡ contents topic a ++ contents topic b
unfolding contents
contents-append topic [] b = refl
contents-append topic (t ∷ a) b = go (field_of t.kind t.body) (contents-append topic a b)
  where
    go : (x : Field) → contents topic (a ++ b) ≡ contents topic a ++ contents topic b
        → on_field x topic t.body (contents topic (a ++ b)) ≡ on_field x topic t.body (contents topic a) ++ contents topic b
    go Skipped ih = ih
    go Malformed ih = ih
    go (Says n skip) ih = met (eqb topic n)
      where
        met : (u : Bool) → pick u (drop skip t.body ∷ contents topic (a ++ b)) (contents topic (a ++ b))
            ≡ pick u (drop skip t.body ∷ contents topic a) (contents topic a) ++ contents topic b
        met true = ap (λ (l : List (List ℕ)). drop skip t.body ∷ l) ih
        met false = ih

pub formed-append : (a b : List Tlv) → well_formed (a ++ b) ≡ both (well_formed a) (well_formed b)
unfolding well_formed
formed-append [] b = refl
formed-append (t ∷ a) b = rw (formed-append a b) (go (formed (field_of t.kind t.body)))
  where
    go : (u : Bool) → both u (both (well_formed a) (well_formed b)) ≡ both (both u (well_formed a)) (well_formed b)
    go true = refl
    go false = refl

-- A field that stands aside: a system field, or extension link information

-- what is not malformed, and says nothing of topics that are not its own
record Apart (own : ℕ → Bool) (b : List ℕ) (x : Field) : Type 0 where
  pub well : formed x ≡ true
  pub silent : (topic : ℕ) → own topic ≡ false → (more : List (List ℕ)) → on_field x topic b more ≡ more

module _ (own : ℕ → Bool) (b : List ℕ) where
  apart-pick : (t : Bool) (x y : Field) → Apart own b x → Apart own b y → Apart own b (pick t x y)
  apart-pick true x y p q = p
  apart-pick false x y p q = q

  apart-says : (n skip : ℕ) → own n ≡ true → Apart own b (Says n skip)
  apart-says n skip o =
      record { well = refl; silent = λ topic e more. rw (ne_eqb topic n (λ q. true≢false (sym o ∙ ap own (sym q) ∙ e))) }

  apart_none : Apart own b Skipped
  apart_none = record { well = refl; silent = λ topic e more. refl }

abbrev system_topic : ℕ → Bool
system_topic topic = leb system_name topic

abbrev extension_topic : ℕ → Bool
extension_topic topic = eqb topic extension

system-apart : (b : List ℕ) (kind : ℕ) → 5 ≤ kind → kind ≤ 8 → Apart system_topic b (field_of kind b)
unfolding field_of management_of
system-apart b kind low high =
    let says : (n : ℕ) → system_topic n ≡ true → Apart system_topic b (Says n 0) = λ n o. apart-says system_topic b n 0 o in
    let none = apart_none system_topic b in
    rw (ne_eqb kind 4 (λ e. omega arith), ne_eqb kind 127 (λ e. omega arith))
    (apart-pick system_topic b (eqb kind 5) (Says system_name 0) _ (says system_name refl)
    (apart-pick system_topic b (eqb kind 6) (Says system_description 0) _ (says system_description refl)
    (apart-pick system_topic b (eqb kind 7) (Says capabilities 0) _ (says capabilities refl)
    (apart-pick system_topic b (eqb kind 8) _ Skipped (apart-pick system_topic b (management_ok (length b)) (Says management 0) Skipped (says management refl) none) none))))

extension-apart : (b : List ℕ) → is_ttc b ≡ true → get_or b 3 0 ≡ 4 → Apart extension_topic b (field_of 127 b)
unfolding field_of ttc_of extension_of
extension-apart b ttc four =
    rw (ttc, four)
    (apart-pick extension_topic b (extension_ok (drop 4 b)) (Says extension 4) Skipped (apart-says extension_topic b extension 4 refl) (apart_none extension_topic b))

-- types 5 to 8, and TTC fields of subtype 4, whatever their length and their octets; and the topics that each may speak of
abbrev pub is_system : Tlv → Bool
is_system t = both (leb 5 t.kind) (leb t.kind 8)

abbrev pub extension_tests : Tlv → List Bool
extension_tests t = eqb t.kind 127 ∷ is_ttc t.body ∷ eqb (get_or t.body 3 0) 4 ∷ []

abbrev pub aside : Tlv → Bool
aside t = either (is_system t) (all (extension_tests t))

abbrev pub own_topic : Tlv → ℕ → Bool
own_topic t topic = pick (is_system t) (system_topic topic) (extension_topic topic)

aside-apart : (t : Tlv) → aside t ≡ true → Apart (own_topic t) t.body (field_of t.kind t.body)
aside-apart t e = go (is_system t) refl e
  where
    go : (u : Bool) → is_system t ≡ u → either u (all (extension_tests t)) ≡ true
        → Apart (λ topic. pick u (system_topic topic) (extension_topic topic)) t.body (field_of t.kind t.body)
    go true p q =
        let w = both_true (leb 5 t.kind) (leb t.kind 8) p in
        system-apart t.body t.kind (leb-true 5 t.kind w.0) (leb-true t.kind 8 w.1)
    go false p q =
        let w = held (extension_tests t) q in
        rw (eqb-true t.kind 127 w.0) (extension-apart t.body w.1.0 (eqb-true (get_or t.body 3 0) 4 w.1.1.0))

-- the topics before theirs are not their own
before-own : (t : Tlv) (topic : ℕ) → topic < extension → own_topic t topic ≡ false
before-own t topic h = go (is_system t)
  where
    go : (u : Bool) → pick u (system_topic topic) (extension_topic topic) ≡ false
    go true = lt-leb system_name topic (omega arith)
    go false = ne_eqb topic extension (λ q. omega arith)

-- t stands aside, between a and b
module _ (a : List Tlv) (t : Tlv) (b : List Tlv) (e : aside t ≡ true) where
  -- no content of a topic that is not its own changes
  pub contents-untouched : (topic : ℕ) → own_topic t topic ≡ false → contents topic (a ++ (t ∷ b)) ≡ contents topic (a ++ b)
  unfolding contents
  contents-untouched topic h =
      contents-append topic a (t ∷ b)
      ∙ ap (λ (l : List (List ℕ)). contents topic a ++ l) ((aside-apart t e).silent topic h (contents topic b))
      ∙ sym (contents-append topic a b)

  formed-untouched : well_formed (a ++ (t ∷ b)) ≡ well_formed (a ++ b)
  unfolding well_formed
  formed-untouched = formed-append a (t ∷ b) ∙ rw (aside-apart t e).well (sym (formed-append a b))

  pub verdict-untouched : htip_of (a ++ (t ∷ b)) ≡ htip_of (a ++ b)
  unfolding htip_of
  verdict-untouched =
      rw (
        formed-untouched,
        contents-untouched category (before-own t category (omega arith)),
        contents-untouched model_number (before-own t model_number (omega arith)),
        contents-untouched manufacturer (before-own t manufacturer (omega arith)),
        contents-untouched model_name (before-own t model_name (omega arith)),
      )
