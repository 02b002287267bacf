-- A header or a record that is fed from its first octet on: all of it, or a part behind which the file ends.
-- `inside` is a replay at a place; what it has held before does not matter.
use Prim.Native.Nat.{ℕ, ◌+◌, ◌-◌, ◌<◌, ◌≤◌}
use mathlib.Core.Path.{◌≡◌, refl, sym, ap, ◌∙◌}
use mathlib.Core.List.{List, [], ◌++◌, append-nil}
use mathlib.Core.Bool.{Bool, true, false}
use native.Mathlib.Omega.{arith}
use lib.ListN.{length, take, drop, length-append, length-drop}
use lib.Seq.{take_at}
use Rattle.std.specs.Prelude.{Option}
use Rattle.output.specs.Output.{output_at, puts}
use Rattle.output.proofs.OutputLaws.{puts-fits}
use Rattle.place.specs.State.{State}
use Rattle.records.specs.Place.{place_at}
use Rattle.records.specs.Turns.{Turn, turned, settled}
use Rattle.replay.specs.Place.{keeps}
use Rattle.replay.specs.Feeding.{Moment, moment, took, settled_in, fed}
use Rattle.records.specs.declared.Stage.{Stage}
use Rattle.replay.proofs.FeedingLaws.{took-kept, took-passed, live, fed-part}

-- c at the front of the record buffer
abbrev pub fronted : List ℕ → List ℕ → List ℕ
fronted c room = c ++ drop (length c) room

pub fronted-long : (c room : List ℕ) → length c ≤ length room → length (fronted c room) ≡ length room
fronted-long c room h = omega (arith, length-append c (drop (length c) room), length-drop (length c) room)

pub fronted-take : (c room : List ℕ) {n : ℕ} → length c ≡ n → take n (fronted c room) ≡ c
fronted-take c room e = take_at c (drop (length c) room) _ e

puts-front : (c room : List ℕ) → length c ≤ length room → output_at (fronted c room) (length c) ≡ puts c (output_at room 0)
puts-front c room h =
    let z : 0 + length c ≡ length c = omega arith in
    sym (puts-fits c room 0 (omega arith) ∙ ap (λ (j : ℕ). output_at (take 0 room ++ (c ++ drop j room)) j) z)

-- where nothing more is due at the stage g
unfoldable pub turned_in : Stage → Moment → Moment
turned_in g m = let x : Turn = turned g m.replay m.room m.state in moment x.replay m.room x.state

module _ (low : Bool) (before : Option ℕ) (limit left port : ℕ) (s : State) (g : Stage) where
  unfoldable pub inside : ℕ → ℕ → List ℕ → Moment
  inside held want b = moment (place_at g low before held want limit left port) b s

  settled-turned : (held : ℕ) (b : List ℕ) → settled_in (inside held 0 b) ≡ turned_in g (inside held 0 b)
  unfolding inside settled_in settled turned_in
  settled-turned held b = refl

  inside-want : (held w : ℕ) (b : List ℕ) → (inside held w b).replay.want ≡ w
  unfolding inside
  inside-want held w b = refl

  module _ (room c : List ℕ) where
    kept-is : (w : ℕ) → keeps g ≡ true → length c ≤ length room → took (inside 0 w room) c ≡ inside (length c) (w - length c) (fronted c room)
    unfolding inside
    kept-is w k h = sym (took-kept (place_at g low before 0 w limit left port) room s c k (puts-front c room h))

    passed_is : (w : ℕ) → keeps g ≡ false → took (inside 0 w room) c ≡ inside 0 (w - length c) room
    unfolding inside
    passed_is w k = sym (took-passed (place_at g low before 0 w limit left port) room s c k)

    module _ (w : ℕ) (l : List ℕ) where
      -- all that is due, and l behind it
      all-due : (held : ℕ) (b : List ℕ) → 0 < w → length c ≡ w → took (inside 0 w room) c ≡ inside held (w - length c) b
          → fed (inside 0 w room) (c ++ l) ≡ fed (turned_in g (inside held 0 b)) l
      all-due held b h e q =
          let z : w - length c ≡ 0 = omega arith in
          fed-part (inside 0 w room) c l (omega (arith, inside-want 0 w room)) (omega (arith, inside-want 0 w room))
          ∙ ap (λ (m : Moment). fed (settled_in m) l) (q ∙ ap (λ (j : ℕ). inside held j b) z)
          ∙ ap (λ (m : Moment). fed m l) (settled-turned held b)

      pub fill-kept : keeps g ≡ true → 0 < w → length c ≡ w → w ≤ length room → fed (inside 0 w room) (c ++ l) ≡ fed (turned_in g (inside (length c) 0 (fronted c room))) l
      fill-kept k h e i = all-due (length c) (fronted c room) h e (kept-is w k (omega arith))

      pub fill-passed : keeps g ≡ false → 0 < w → length c ≡ w → fed (inside 0 w room) (c ++ l) ≡ fed (turned_in g (inside 0 0 room)) l
      fill-passed k h e = all-due 0 room h e (passed_is w k)

    -- not all that is due
    module _ (w : ℕ) (h : length c < w) where
      part-due : (held : ℕ) (b : List ℕ) → took (inside 0 w room) c ≡ inside held (w - length c) b → fed (inside 0 w room) c ≡ inside held (w - length c) b
      unfolding fed
      part-due held b q =
          ap (fed (inside 0 w room)) (sym (append-nil c))
          ∙ fed-part (inside 0 w room) c [] (omega (arith, inside-want 0 w room)) (omega (arith, inside-want 0 w room))
          ∙ ap settled_in q
          ∙ live (inside held (w - length c) b) (omega (arith, inside-want held (w - length c) b))

      pub part-kept : keeps g ≡ true → length c ≤ length room → fed (inside 0 w room) c ≡ inside (length c) (w - length c) (fronted c room)
      part-kept k i = part-due (length c) (fronted c room) (kept-is w k i)

      pub part-passed : keeps g ≡ false → fed (inside 0 w room) c ≡ inside 0 (w - length c) room
      part-passed k = part-due 0 room (passed_is w k)
