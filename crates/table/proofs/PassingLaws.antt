-- Seconds pass, a link is lost: a place that is fit by itself stays so, and what becomes of it is the model's (N8, N9).
-- Both are shown of each thing that can come of a place.
use Prim.Native.Nat.{ℕ, ◌-◌, ◌<◌}
use mathlib.Core.Path.{◌≡◌, refl, sym, ap, ◌∙◌}
use mathlib.Core.Logic.{◌≢◌}
use mathlib.Core.Bool.{true}
use native.Mathlib.Omega.{arith}
use borrow.Author.Tests.{eq-eqb, ne_eqb, le-leb, lt-leb}
use lib.ListN.{take}
use Rattle.tally.proofs.TestsLaws.{held}
use Rattle.rules.specs.Model as model
use Rattle.rules.specs.Model.{tick, unplug}
use Rattle.place.specs.State.{Place, free}
use Rattle.marks.specs.PlaceFit.{used_tests, ok_used, ok_place}
use Rattle.fitness.specs.View.{place_of}
use Rattle.fitness.proofs.ViewLaws.{place-free, place-used}
use Rattle.fitness.proofs.KeepLaws.{whole_parts, parts_whole, free-ok}
use Rattle.freeing.specs.Changes.{aged, lost}
use Rattle.freeing.proofs.ChangeLaws.{less, aged-by, lost-by}

-- fewer seconds, but at least one
less-ok : (n : ℕ) (x : Place) → ok_place x ≡ true → x.len ≢ 0 → n < x.seconds → ok_place (less n x) ≡ true
unfolding ok_place ok_used
less-ok n x e u h =
    let l = take x.len x.body in
    let f = held (used_tests x) (rw (ne_eqb x.len 0 u) at e) in
    let w = whole_parts l x.seconds f.1.1.1.0 in
    let v = parts_whole l (x.seconds - n) (record { extent = w.extent; least = omega arith; most = omega (arith, w.most) }) in
    rw (ne_eqb x.len 0 u, f.0, f.1.0, f.1.1.0, v, f.1.1.1.1.0)

pub aged-ok : (n : ℕ) (x : Place) → ok_place x ≡ true → ok_place (aged n x) ≡ true
aged-ok n x e = aged-by (λ y. ok_place y ≡ true) x (λ z. e) n (λ u h. free-ok) (less-ok n x e)

pub lost-ok : (p : ℕ) (x : Place) → ok_place x ≡ true → ok_place (lost p x) ≡ true
lost-ok p x e = lost-by (λ y. ok_place y ≡ true) x (λ z. e) p (λ u h. free-ok) (λ u h. e)

-- As the model sees it

pub aged-place : (n : ℕ) (x : Place) → place_of (aged n x) ≡ model.on_record (tick n) (place_of x)
unfolding tick
aged-place n x =
    aged-by (λ y. place_of y ≡ model.on_record (tick n) (place_of x)) x
    (λ z. place-free x z ∙ sym (ap (model.on_record (tick n)) (place-free x z)))
    n
    (λ u h. place-free free refl ∙ sym (ap (model.on_record (tick n)) (place-used x u) ∙ rw (le-leb x.seconds n h)))
    (λ u h. place-used (less n x) u ∙ sym (ap (model.on_record (tick n)) (place-used x u) ∙ rw (lt-leb x.seconds n h)))

pub lost-place : (p : ℕ) (x : Place) → place_of (lost p x) ≡ model.on_record (unplug p) (place_of x)
unfolding unplug
lost-place p x =
    lost-by (λ y. place_of y ≡ model.on_record (unplug p) (place_of x)) x
    (λ z. place-free x z ∙ sym (ap (model.on_record (unplug p)) (place-free x z)))
    p
    (λ u h. place-free free refl ∙ sym (ap (model.on_record (unplug p)) (place-used x u) ∙ rw (eq-eqb x.port p h)))
    (λ u h. place-used x u ∙ sym (ap (model.on_record (unplug p)) (place-used x u) ∙ rw (ne_eqb x.port p h)))
