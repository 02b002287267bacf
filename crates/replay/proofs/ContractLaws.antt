-- Laws of a place and of the contracts, line by line as the code goes.
-- Every law is over what the code has in hand, with an equation that says what it is.
use Prim.Native.Nat.{ℕ}
use mathlib.Core.Path.{◌≡◌, refl, sym, ap, ◌∙◌}
use mathlib.Core.List.{List}
use mathlib.Core.Bool.{true, false}
use borrow.Author.Tests.{eq-eqb, ne_eqb}
use lib.ListN.{length}
use Rattle.records.specs.Place.{refused_with}
use Rattle.records.specs.declared.Stage.{Stage}
use Rattle.records.specs.declared.Replay.{Replay}
use Rattle.replay.specs.Place.{room_octets}
use Rattle.replay.specs.Sound.{sound_at, sound}
use Rattle.replay.specs.Feeding.{Moment, moment, fed}
use Rattle.replay.specs.Promises.{feeding}

pub sound-at : (r : Replay) (g : Stage) → r.stage ≡ g → sound_at g r ≡ sound r
unfolding sound
sound-at r g e = ap (λ (q : Stage). sound_at q r) (sym e)

-- What the contracts make of a place that is not sound

module _ (m : Moment) (piece : List ℕ) {q : Replay} (e : q ≡ refused_with 1) where
  pub feeds-short : (length m.room ≡ room_octets → ⊥) → moment q m.room m.state ≡ feeding m piece
  unfolding feeding
  feeds-short h = ap (λ (r : Replay). moment r m.room m.state) e ∙ sym (rw (ne_eqb (length m.room) room_octets h) refl)

  pub feeds-unsound : length m.room ≡ room_octets → sound m.replay ≡ false → moment q m.room m.state ≡ feeding m piece
  unfolding feeding
  feeds-unsound h f = ap (λ (r : Replay). moment r m.room m.state) e ∙ sym (rw (eq-eqb (length m.room) room_octets h, f) refl)

pub feeds-sound : (m : Moment) (piece : List ℕ) → length m.room ≡ room_octets → sound m.replay ≡ true → fed m piece ≡ feeding m piece
unfolding feeding
feeds-sound m piece h f = sym (rw (eq-eqb (length m.room) room_octets h, f) refl)
