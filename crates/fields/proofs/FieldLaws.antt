-- Laws of what a TLV says: a topic is one of those that there are, its content lies inside the information string,
-- and only a well formed link information speaks of links, a well formed extension link information of its own.
use Prim.{Unit, tt}
use Prim.Native.Nat.{ℕ, ◌+◌, ◌*◌, ◌<◌, ◌≤◌}
use mathlib.Core.Path.{◌≡◌, refl}
use mathlib.Core.List.{List, [], ◌∷◌}
use mathlib.Core.Bool.{Bool, true, false, not}
use native.Mathlib.Omega.{arith}
use borrow.Author.Tests.{eqb-true, leb-true, not-true, ne_eqb}
use lib.ListN.{length, drop, get_or, length-drop}
use lib.Dec.{leb, ltb, eqb}
use Rattle.tally.specs.Tests.{pick, both, all}
use Rattle.tally.proofs.TestsLaws.{both_true}
use Rattle.strings.specs.Text.{text_ok}
use Rattle.strings.specs.Wants.{wanted_of}
use Rattle.fields.specs.Device.{on_wanted, device_of}
use Rattle.links.specs.Link.{link_ok, list_ok}
use Rattle.fields.specs.Field.{link, extension, system_name, system_description, capabilities, management, description_of, management_ok, management_of, link_of, list_of, extension_of, is_ttc, ttc_of, unread, field_of}
use Rattle.links.proofs.LinkLaws.{link-has}
use Rattle.extension.specs.Layout.{extension_ok}
use Rattle.extension.proofs.LayoutLaws.{fits-some}
use Rattle.strings.specs.declared.Wanted.{Wanted}
use Rattle.strings.specs.declared.Wanted.TheVariants.{Text, Free, Vendor}
use Rattle.fields.specs.declared.Field.{Field}
use Rattle.fields.specs.declared.Field.TheVariants.{Skipped, Malformed, Says}

-- what holds of a content: its topic, which is no greater than `most`, its place, and of links that they are well formed
pub record Sound (most : ℕ) (b : List ℕ) (topic skip : ℕ) : Type 0 where
  pub known : topic ≤ most
  pub inside : skip ≤ length b
  pub linked : topic ≡ link → (link_ok b ≡ true) × (skip ≡ 4)
  pub extended : topic ≡ extension → (extension_ok (drop 4 b) ≡ true) × (skip ≡ 4)

abbrev pub FitsTo : ℕ → List ℕ → Field → Type 0
FitsTo most b Skipped = Unit {0}
FitsTo most b Malformed = Unit {0}
FitsTo most b (Says topic skip) = Sound most b topic skip

abbrev pub Fits : List ℕ → Field → Type 0
Fits b x = FitsTo management b x

fits-pick : (most : ℕ) (b : List ℕ) (t : Bool) (x y : Field) → (t ≡ true → FitsTo most b x) → FitsTo most b y → FitsTo most b (pick t x y)
fits-pick most b true x y p q = p refl
fits-pick most b false x y p q = q

-- what a port description or a TTC field says is known
fits_on : (b : List ℕ) (x : Field) → FitsTo extension b x → Fits b x
fits_on b Skipped h = tt
fits_on b Malformed h = tt
fits_on b (Says topic skip) h = record { known = omega (arith, h.known); inside = h.inside; linked = h.linked; extended = h.extended }

-- only IDs 1 to 4 want a text
pub wanted-small : (id most : ℕ) → wanted_of id ≡ Text most → id < link
unfolding wanted_of
wanted-small id most e = go (eqb id 1) refl (eqb id 2) refl (both (leb 3 id) (leb id 4)) refl (eqb id 255) e
  where
    go : (a : Bool) → eqb id 1 ≡ a → (b : Bool) → eqb id 2 ≡ b → (c : Bool) → both (leb 3 id) (leb id 4) ≡ c → (d : Bool)
        → pick a (Text 255) (pick b (Text 6) (pick c (Text 31) (pick d Vendor Free))) ≡ Text most → id < link
    go true p b q c r d w = omega (arith, eqb-true id 1 p)
    go false p true q c r d w = omega (arith, eqb-true id 2 q)
    go false p false q true r d w = omega (arith, leb-true id 4 (both_true (leb 3 id) (leb id 4) r).1)
    go false p false q false r true w = let z : ◌≡◌ {A = ℕ} 0 1 = cc in absurd (omega arith)
    go false p false q false r false w = let z : ◌≡◌ {A = ℕ} 0 1 = cc in absurd (omega arith)

module _ (b : List ℕ) where
  by-wanted : (w : Wanted) (id s : ℕ) → wanted_of id ≡ w → FitsTo extension b (on_wanted w (length b) id s)
  by-wanted (Text most) id s e =
      let small = wanted-small id most e in
      fits-pick extension b (all (eqb (length b) (6 + s) ∷ leb 1 s ∷ leb s most ∷ [])) (Says id 6) Malformed
      (λ t.
      record {
        known = omega arith;
        inside = omega (arith, eqb-true (length b) (6 + s) (both_true (eqb (length b) (6 + s)) (all (leb 1 s ∷ leb s most ∷ [])) t).0);
        linked = λ q. absurd (omega arith);
        extended = λ q. absurd (omega arith);
      })
      tt
  by-wanted Free id s e = fits-pick extension b (eqb (length b) (6 + s)) Skipped Malformed (λ t. tt) tt
  by-wanted Vendor id s e = tt

  device-fits : FitsTo extension b (device_of b)
  unfolding device_of
  device-fits =
      fits-pick extension b (ltb (length b) 5) Malformed (on_wanted (wanted_of (get_or b 4 0)) (length b) (get_or b 4 0) (get_or b 5 0))
      (λ t. tt)
      (by-wanted (wanted_of (get_or b 4 0)) (get_or b 4 0) (get_or b 5 0) refl)

  pub description-fits : FitsTo extension b (description_of b)
  unfolding description_of
  description-fits =
      fits-pick extension b (both (leb (length b) 255) (text_ok b)) (Says 0 0) Malformed
      (λ t. record { known = omega arith; inside = omega arith; linked = λ q. absurd (omega arith); extended = λ q. absurd (omega arith) })
      tt

  -- the whole information string is the content of a topic behind those of TTC fields
  whole-fits : (topic : ℕ) → extension < topic → topic ≤ management → Fits b (Says topic 0)
  whole-fits topic h k = record { known = k; inside = omega arith; linked = λ q. absurd (omega arith); extended = λ q. absurd (omega arith) }

  management-fits : Fits b (management_of b)
  unfolding management_of
  management-fits = fits-pick management b (management_ok (length b)) (Says management 0) Skipped (λ t. whole-fits management (omega arith) (omega arith)) tt

  link_fits : FitsTo extension b (link_of b)
  unfolding link_of
  link_fits =
      fits-pick extension b (link_ok b) (Says 5 4) Malformed
      (λ t. record { known = omega arith; inside = omega (arith, (link-has b t).ends); linked = λ q. (t, refl); extended = λ q. absurd (omega arith) })
      tt

  list-fits : FitsTo extension b (list_of b)
  unfolding list_of list_ok
  list-fits =
      fits-pick extension b (eqb (length b) (5 + 6 * get_or b 4 0)) (Says 6 5) Malformed
      (λ t. record { known = omega arith; inside = omega (arith, eqb-true (length b) (5 + 6 * get_or b 4 0) t); linked = λ q. absurd (omega arith); extended = λ q. absurd (omega arith) })
      tt

  -- a content that is well formed has octets
  extension-fits : FitsTo extension b (extension_of b)
  unfolding extension_of
  extension-fits =
      fits-pick extension b (extension_ok (drop 4 b)) (Says extension 4) Skipped
      (λ t.
      record {
        known = omega arith;
        inside = omega (arith, fits-some (drop 4 b) t, length-drop 4 b);
        linked = λ q. absurd (omega arith);
        extended = λ q. (t, refl);
      })
      tt

  pub ttc-fits : FitsTo extension b (ttc_of b)
  unfolding ttc_of
  ttc-fits =
      fits-pick extension b (eqb (get_or b 3 0) 1) (device_of b) _ (λ t. device-fits)
      (fits-pick extension b (eqb (get_or b 3 0) 2) (link_of b) _ (λ t. link_fits)
      (fits-pick extension b (eqb (get_or b 3 0) 3) (list_of b) _ (λ t. list-fits)
      (fits-pick extension b (eqb (get_or b 3 0) 4) (extension_of b) Skipped (λ t. extension-fits) tt)))

  pub field_fits : (kind : ℕ) → Fits b (field_of kind b)
  unfolding field_of
  field_fits kind =
      fits-pick management b (eqb kind 4) (description_of b) _ (λ t. fits_on b (description_of b) description-fits)
      (fits-pick management b (eqb kind 5) (Says system_name 0) _ (λ t. whole-fits system_name (omega arith) (omega arith))
      (fits-pick management b (eqb kind 6) (Says system_description 0) _ (λ t. whole-fits system_description (omega arith) (omega arith))
      (fits-pick management b (eqb kind 7) (Says capabilities 0) _ (λ t. whole-fits capabilities (omega arith) (omega arith))
      (fits-pick management b (eqb kind 8) (management_of b) _ (λ t. management-fits)
      (fits-pick management b (both (eqb kind 127) (is_ttc b)) (ttc_of b) Skipped (λ t. fits_on b (ttc_of b) ttc-fits) tt)))))

-- a TLV that is unread says nothing
pub unread-skipped : (kind : ℕ) (b : List ℕ) → unread kind b ≡ true → field_of kind b ≡ Skipped
unfolding unread field_of
unread-skipped kind b e =
    let w = both_true (leb 9 kind) (not (both (eqb kind 127) (is_ttc b))) e in
    let high = leb-true 9 kind w.0 in
    rw (
      ne_eqb kind 4 (λ q. omega arith),
      ne_eqb kind 5 (λ q. omega arith),
      ne_eqb kind 6 (λ q. omega arith),
      ne_eqb kind 7 (λ q. omega arith),
      ne_eqb kind 8 (λ q. omega arith),
      not-true (both (eqb kind 127) (is_ttc b)) w.1,
    )
