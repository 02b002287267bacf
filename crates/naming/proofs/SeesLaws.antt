-- Which TLVs see an address, by type, organization and subtype (T1): link information and its extension alone do (A4).
-- The code that asks them finds most of it by itself; each answer is one law here.
use Prim.Native.Nat.{ℕ, ◌+◌, ◌<◌}
use mathlib.Core.Path.{◌≡◌, refl, sym}
use mathlib.Core.Logic.{◌≢◌}
use mathlib.Core.List.{List, [], ◌∷◌}
use mathlib.Core.Bool.{Bool, true, false}
use native.Mathlib.Omega.{arith}
use borrow.Author.Tests.{ne_eqb}
use lib.ListN.{length, drop, get_or}
use lib.Dec.{leb, ltb, eqb}
use Rattle.tally.specs.Tests.{pick, both, all}
use Rattle.strings.specs.Text.{text_ok}
use Rattle.strings.specs.Wants.{wanted_of}
use Rattle.strings.specs.declared.Wanted.{Wanted}
use Rattle.strings.specs.declared.Wanted.TheVariants.{Text, Free, Vendor}
use Rattle.links.specs.Link.{link_ok, list_ok, names_of}
use Rattle.extension.specs.Layout.{extension_ok, extension_names}
use Rattle.fields.specs.Device.{on_wanted, device_of}
use Rattle.fields.specs.Field.{link, address_list, extension, system_name, system_description, capabilities, management, port_description, description_of, management_ok, management_of, link_of, list_of, extension_of, is_ttc, ttc_of, field_of}
use Rattle.fields.specs.declared.Field.{Field}
use Rattle.fields.specs.declared.Field.TheVariants.{Skipped, Malformed, Says}
use Rattle.fields.proofs.FieldLaws.{wanted-small}
use Rattle.naming.specs.Naming.{sees, sees_in}

module _ (b a : List ℕ) where
  -- a field that sees no address, whatever its octets are
  abbrev Blind : Field → Type 0
  Blind x = sees x b a ≡ false

  either : (t : Bool) (x y : Field) → Blind x → Blind y → Blind (pick t x y)
  either true x y p q = p
  either false x y p q = q

  -- the topics of device information are below those of links
  small-blind : (id : ℕ) → id < link → Blind (Says id 6)
  small-blind id l = rw (ne_eqb id link (λ e. omega arith), ne_eqb id extension (λ e. omega arith))

  wanted-blind : (w : Wanted) (id n s : ℕ) → wanted_of id ≡ w → Blind (on_wanted w n id s)
  wanted-blind (Text most) id n s e = either (all (eqb n (6 + s) ∷ leb 1 s ∷ leb s most ∷ [])) (Says id 6) Malformed (small-blind id (wanted-small id most e)) refl
  wanted-blind Free id n s e = either (eqb n (6 + s)) Skipped Malformed refl refl
  wanted-blind Vendor id n s e = refl

  device-blind : Blind (device_of b)
  unfolding device_of
  device-blind =
      either (ltb (length b) 5) Malformed (on_wanted (wanted_of (get_or b 4 0)) (length b) (get_or b 4 0) (get_or b 5 0)) refl
      (wanted-blind (wanted_of (get_or b 4 0)) (get_or b 4 0) (length b) (get_or b 5 0) refl)

  list-blind : Blind (list_of b)
  unfolding list_of
  list-blind = either (list_ok b) (Says address_list 5) Malformed refl refl

  description-blind : Blind (description_of b)
  unfolding description_of
  description-blind = either (both (leb (length b) 255) (text_ok b)) (Says port_description 0) Malformed refl refl

  management-blind : Blind (management_of b)
  unfolding management_of
  management-blind = either (management_ok (length b)) (Says management 0) Skipped refl refl

  -- By the type

  pub other-type : (kind : ℕ) → kind ≢ 127 → false ≡ sees_in kind b a
  unfolding field_of
  other-type kind u =
      sym
      (rw (ne_eqb kind 127 u)
      (either (eqb kind 4) (description_of b) _ description-blind
      (either (eqb kind 5) (Says system_name 0) _ refl
      (either (eqb kind 6) (Says system_description 0) _ refl
      (either (eqb kind 7) (Says capabilities 0) _ refl
      (either (eqb kind 8) (management_of b) Skipped management-blind refl))))))

  -- By the subtype

  pub other-subtype : get_or b 3 0 ≢ 2 → get_or b 3 0 ≢ 4 → false ≡ sees_in 127 b a
  unfolding field_of ttc_of
  other-subtype u v = sym (either (is_ttc b) (ttc_of b) Skipped ttc-blind refl)
    where
      ttc-blind : Blind (ttc_of b)
      ttc-blind =
          rw (ne_eqb (get_or b 3 0) 2 u, ne_eqb (get_or b 3 0) 4 v)
          (either (eqb (get_or b 3 0) 1) (device_of b) _ device-blind (either (eqb (get_or b 3 0) 3) (list_of b) Skipped list-blind refl))

  -- By the organization

  pub other-organization : is_ttc b ≡ false → false ≡ sees_in 127 b a
  unfolding field_of
  other-organization e = sym (rw e)

  module _ (e : is_ttc b ≡ true) where
    is-link : get_or b 3 0 ≡ 2 → field_of 127 b ≡ link_of b
    unfolding field_of ttc_of
    is-link n = rw (e, n)

    is-extension : get_or b 3 0 ≡ 4 → field_of 127 b ≡ extension_of b
    unfolding field_of ttc_of
    is-extension n = rw (e, n)

    pub link-sees : get_or b 3 0 ≡ 2 → link_ok b ≡ true → names_of b a ≡ sees_in 127 b a
    unfolding link_of
    link-sees n f = sym (rw (is-link n, f))

    pub link-malformed : get_or b 3 0 ≡ 2 → link_ok b ≡ false → false ≡ sees_in 127 b a
    unfolding link_of
    link-malformed n f = sym (rw (is-link n, f))

    pub extension-sees : get_or b 3 0 ≡ 4 → extension_ok (drop 4 b) ≡ true → extension_names (drop 4 b) a ≡ sees_in 127 b a
    unfolding extension_of
    extension-sees n f = sym (rw (is-extension n, f))

    pub extension-malformed : get_or b 3 0 ≡ 4 → extension_ok (drop 4 b) ≡ false → false ≡ sees_in 127 b a
    unfolding extension_of
    extension-malformed n f = sym (rw (is-extension n, f))
