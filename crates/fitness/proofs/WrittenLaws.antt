-- Changes of the table as the model sees them: every place by itself, or one place written.
-- What is fit place by place stays so.
use Prim.Native.Nat.{ℕ, ◌≤◌, ◌<◌}
use mathlib.Core.Path.{◌≡◌, refl, ap, ◌∙◌}
use mathlib.Core.Logic.{◌≢◌}
use mathlib.Core.Bool.{Bool, true, false}
use mathlib.Core.List.{List}
use mathlib.Core.Option.{Option, some}
use native.Mathlib.Omega.{arith}
use borrow.Author.Tests.{eqb-true, eqb-false}
use lib.Dec.{eqb}
use lib.ListN.{length, set}
use Rattle.tally.specs.Tab.{tab}
use Rattle.octets.specs.Address.{is_group}
use Rattle.lldpdu.specs.Extent.{extent_of}
use Rattle.lldpdu.specs.Outline.{outline_of, seconds_told}
use Rattle.std.specs.Prelude.{Ok}
use Rattle.rules.specs.Events.{Announcement, whose}
use Rattle.rules.specs.Model as model
use Rattle.rules.specs.Model.{Rec, recorded}
use Rattle.rules.proofs.TabLaws.{tab-set, tab-each}
use Rattle.numbers.specs.Sizes.{ports, places}
use Rattle.place.specs.State.{Place, State, Sized, size, at, put, each, keep, whose_in, said}
use Rattle.marks.specs.PlaceFit.{ok_place}
use Rattle.fitness.specs.View.{place_of, view}
use Rattle.place.proofs.PutLaws.{KeepsLong, Changed, at-put-same, at-put-other, each-law}
use Rattle.fitness.proofs.ViewLaws.{place-used, placed}
use Rattle.fitness.proofs.KeepLaws.{keep-lldpdu, keep-ok, whole-some}

-- every place is fit by itself
abbrev pub Good : State → Type 0
Good s = (k : ℕ) → k < places → ok_place (at s k) ≡ true

-- What is kept of an announcement

-- a says what its own octets say, these are a whole LLDPDU that a place has room for, and no group address sent them
pub record Spoken (a : Announcement) : Type 0 where
  pub says : said a.sender a.octets ≡ a
  pub station : is_group a.sender ≡ false
  pub long : length a.octets ≤ size
  pub extent : extent_of a.octets ≡ Ok (length a.octets)

module _ (p : ℕ) (a : Announcement) (c : Spoken a) where
  pub keep-place : place_of (keep p a.seconds a.sender a.octets) ≡ some (recorded p a)
  unfolding keep
  keep-place =
      place-used (keep p a.seconds a.sender a.octets) (λ e. omega (arith, whole-some a.octets c.extent))
      ∙ ap (λ (l : List ℕ). some (record { who = whose_in p l; left = a.seconds; octets = l; sender = a.sender })) (keep-lldpdu p a.seconds a.sender a.octets c.long)
      ∙ ap (λ (b : Announcement). some (record { who = whose p b; left = a.seconds; octets = a.octets; sender = a.sender })) c.says

  pub keep-good : p < ports → a.seconds ≢ 0 → ok_place (keep p a.seconds a.sender a.octets) ≡ true
  keep-good l z =
      let e : seconds_told (outline_of a.octets) ≡ a.seconds = ap (λ (b : Announcement). b.seconds) c.says in
      keep-ok p a.seconds a.sender a.octets l c.station c.long (record { extent = c.extent; least = omega arith; most = omega arith })

-- Every place by itself

module _ (s : State) (z : Sized places s) (g : Place → Place) (long : KeepsLong g) where
  law : Changed places g places s (each g places s)
  law = each-law places s z g long places (omega arith)

  pub each-sized : Sized places (each g places s)
  each-sized = law.sized

  pub each-good : ((x : Place) → ok_place x ≡ true → ok_place (g x) ≡ true) → Good s → Good (each g places s)
  each-good ok h k l = ap ok_place (law.below k l) ∙ ok (at s k) (h k l)

  pub each-view : (F : Rec → Option Rec) → ((x : Place) → place_of (g x) ≡ model.on_record F (place_of x)) → view (each g places s) ≡ model.each_record F (view s)
  unfolding view
  each-view F see = tab-each F places (placed s) (placed (each g places s)) (λ k l. ap place_of (law.below k l) ∙ see (at s k))

-- One place written

module _ (s : State) (z : Sized places s) (k : ℕ) (l : k < places) (x : Place) (long : length x.body ≡ size) where
  pub put_view : view (put s k x) ≡ set (view s) k (place_of x)
  unfolding view
  put_view =
      tab-set places (placed s) (placed (put s k x)) k l (λ j m d. ap place_of (at-put-other places s z k l x long j d))
      ∙ ap (λ (y : Place). set (tab places (placed s)) k (place_of y)) (at-put-same places s z k l x long)

  pub put-good : ok_place x ≡ true → Good s → Good (put s k x)
  put-good o g j m = go (eqb j k) refl
    where
      go : (b : Bool) → eqb j k ≡ b → ok_place (at (put s k x) j) ≡ true
      go true e = ap (λ (i : ℕ). ok_place (at (put s k x) i)) (eqb-true j k e) ∙ ap ok_place (at-put-same places s z k l x long) ∙ o
      go false e = ap ok_place (at-put-other places s z k l x long j (eqb-false j k e)) ∙ g j m
