-- Laws of a place and where it goes: the seconds between two stamps, the next place, and a record that is all there.
-- Every law is over what the code has in hand, with an equation that says what it is.
use Prim.Native.Nat.{ℕ, ◌-◌}
use mathlib.Core.Path.{◌≡◌, refl, sym, ap, ◌∙◌}
use mathlib.Core.List.{List}
use mathlib.Core.Bool.{Bool, true, false}
use native.Mathlib.Omega.{arith}
use lib.Dec.{ltb}
use borrow.Author.Tests.{eq-eqb, ne_eqb, ltb-true, ltb-false}
use Rattle.std.specs.Prelude.{Option, Ok, Err, min}
use Rattle.tally.specs.Tests.{pick}
use Rattle.place.specs.State.{State, state}
use Rattle.refusal.specs.Refusal.{number_of}
use Rattle.refusal.specs.declared.Refusal.{Refusal}
use Rattle.freeing.specs.Calls.{Answer, After, after, state_after, passed}
use Rattle.freeing.specs.declared.Outcome.{Outcome}
use Rattle.capture.specs.Layout.{record_header, stamp}
use Rattle.records.specs.Place.{most_seconds, between, gap, place_at, refused_with, next}
use Rattle.records.specs.Turns.{Turn, turn, met, on_answer, closed}
use Rattle.records.specs.declared.Fate.{Fate}
use Rattle.records.specs.declared.Stage.TheVariants.{Heading, Stopped}
use Rattle.records.specs.declared.Replay.{Replay}

-- Stamps, and the next place

-- none where the stamp goes back, and never more than one call can pass
pub between_min : (last stamp : ℕ) → min (stamp - last) most_seconds ≡ between last stamp
unfolding between
between_min last stamp = go (ltb stamp last) refl (ltb most_seconds (stamp - last)) refl
  where
    go : (a : Bool) → ltb stamp last ≡ a → (b : Bool) → ltb most_seconds (stamp - last) ≡ b
        → min (stamp - last) most_seconds ≡ pick a 0 (pick b most_seconds (stamp - last))
    go true e b f = omega (arith, ltb-true stamp last e)
    go false e true f = omega (arith, ltb-true most_seconds (stamp - last) f)
    go false e false f = omega (arith, ltb-false most_seconds (stamp - last) f)

module _ (low : Bool) (before : Option ℕ) (limit left port : ℕ) where
  pub next-stops : left ≡ 0 → place_at Stopped low before 0 0 limit left port ≡ next low before limit left port
  unfolding next
  next-stops e = rw (eq-eqb left 0 e)

  pub next-goes : (left ≡ 0 → ⊥) → place_at Heading low before 0 record_header limit left port ≡ next low before limit left port
  unfolding next
  next-goes e = rw (ne_eqb left 0 e)

-- A record that is all there

module _ (f : Fate) (t : ℕ) (r : Replay) (room : List ℕ) (s : State) where
  -- the table was told n seconds, and answered with o and these octets b
  module _ {n : ℕ} {o : Outcome} {b : List ℕ} (en : n ≡ gap r.before t) (e : after o b ≡ passed n s) where
    answered-is : {x : Turn} → x ≡ on_answer o.answer f t r room (state o.table b) → x ≡ closed f t r room s
    unfolding closed
    answered-is ex = ex ∙ ap (λ (y : After). on_answer y.outcome.answer f t r room (state_after y)) (e ∙ ap (λ (k : ℕ). passed k s) en)

    pub closed-done : {u : Unit {0}} → o.answer ≡ Ok u → {x : Turn} → x ≡ met f t r room (state o.table b) → x ≡ closed f t r room s
    closed-done d ex = answered-is (ex ∙ sym (ap (λ (a : Answer). on_answer a f t r room (state o.table b)) d))

    pub closed-refused : {k : Refusal} → o.answer ≡ Err k → {q : Replay} → q ≡ refused_with (number_of k) → turn q (state o.table b) ≡ closed f t r room s
    closed-refused d eq = answered-is (ap (λ (q : Replay). turn q (state o.table b)) eq ∙ sym (ap (λ (a : Answer). on_answer a f t r room (state o.table b)) d))
