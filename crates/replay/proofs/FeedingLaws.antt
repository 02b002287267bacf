-- Laws of octets that are fed: one string behind another, what is not looked at, and a part that is no longer than what is due.
-- The loop of the code goes by parts; these lead from a part to its octets.
use Prim.Native.Nat.{ℕ, zero, suc, ◌+◌, ◌-◌, ◌<◌, ◌≤◌}
use mathlib.Core.Path.{◌≡◌, refl, sym, ap, ap₂, ◌∙◌}
use mathlib.Core.List.{List, [], ◌∷◌, ◌++◌}
use mathlib.Core.Bool.{Bool, true, false}
use native.Mathlib.Omega.{arith}
use borrow.Author.Tests.{eq-eqb, ne_eqb}
use lib.ListN.{length, take, drop, length-append, drop_of_length-le, take-append-drop, length-drop}
use lib.Seq.{drop-drop, length-take-le}
use Rattle.tally.specs.Tests.{pick}
use Rattle.output.specs.Output.{Output, output_at, puts}
use Rattle.output.proofs.OutputLaws.{puts-append}
use Rattle.place.specs.State.{State}
use Rattle.replay.specs.Place.{keeps}
use Rattle.records.specs.Turns.{Turn, settled}
use Rattle.replay.specs.Feeding.{Moment, moment, held_to, took, settled_in, step, fed}
use Rattle.records.specs.declared.Replay.{Replay}

pub fed-append : (m : Moment) (a b : List ℕ) → fed m (a ++ b) ≡ fed (fed m a) b
unfolding fed
fed-append m [] b = refl
fed-append m (x ∷ a) b = fed-append (step m x) a b

-- nothing is looked at where nothing is due
pub fed-still : (m : Moment) (l : List ℕ) → m.replay.want ≡ 0 → fed m l ≡ m
unfolding fed step
fed-still m [] e = refl
fed-still m (x ∷ l) e = rw (eq-eqb m.replay.want 0 e) (fed-still m l e)

-- What is taken in

module _ (r : Replay) (room : List ℕ) (s : State) (c : List ℕ) where
  pub took-kept : keeps r.stage ≡ true → {end : ℕ} {octets : List ℕ} → output_at octets end ≡ puts c (output_at room r.held)
      → moment (held_to r end (r.want - length c)) octets s ≡ took (moment r room s) c
  unfolding took
  took-kept k e = sym (rw k (ap (λ (o : Output). moment (held_to r o.end (r.want - length c)) o.octets s) (sym e)))

  pub took-passed : keeps r.stage ≡ false → moment (held_to r r.held (r.want - length c)) room s ≡ took (moment r room s) c
  unfolding took
  took-passed k = sym (rw k refl)

took-nil : (m : Moment) → took m [] ≡ m
unfolding took puts
took-nil m = let w : m.replay.want - 0 ≡ m.replay.want = omega arith in go (keeps m.replay.stage) w
  where
    go : (b : Bool) {w : ℕ} → w ≡ m.replay.want
        → (let o : Output = pick b (output_at m.room m.replay.held) (output_at m.room m.replay.held) in moment (held_to m.replay o.end w) o.octets m.state) ≡ m
    go true e = ap (λ (k : ℕ). moment (held_to m.replay m.replay.held k) m.room m.state) e
    go false e = ap (λ (k : ℕ). moment (held_to m.replay m.replay.held k) m.room m.state) e

took-took : (m : Moment) (c d : List ℕ) → took (took m c) d ≡ took m (c ++ d)
unfolding took
took-took m c d = let w : m.replay.want - length c - length d ≡ m.replay.want - length (c ++ d) = omega (arith, length-append c d) in go (keeps m.replay.stage) w
  where
    front : Output
    front = output_at m.room m.replay.held

    -- both sides, with the stage's answer for b
    left : Bool → ℕ → Moment
    left b w =
        let o : Output = pick b (puts c front) front in
        let q : Output = pick b (puts d (output_at o.octets o.end)) (output_at o.octets o.end) in
        moment (held_to m.replay q.end w) q.octets m.state

    right : Bool → ℕ → Moment
    right b w = let o : Output = pick b (puts (c ++ d) front) front in moment (held_to m.replay o.end w) o.octets m.state

    go : (b : Bool) {w v : ℕ} → w ≡ v → left b w ≡ right b v
    go true e = ap₂ (λ (o : Output) (k : ℕ). moment (held_to m.replay o.end k) o.octets m.state) (sym (puts-append c d front)) e
    go false e = ap (λ (k : ℕ). moment (held_to m.replay m.replay.held k) m.room m.state) e

-- Where something is due

pub live : (m : Moment) → 0 < m.replay.want → settled_in m ≡ m
unfolding settled_in settled
live m h = rw (ne_eqb m.replay.want 0 (λ e. omega arith))

step-live : (m : Moment) (x : ℕ) → 0 < m.replay.want → step m x ≡ settled_in (took m (x ∷ []))
unfolding step
step-live m x h = rw (ne_eqb m.replay.want 0 (λ e. omega arith))

took-want : (m : Moment) (c : List ℕ) → (took m c).replay.want ≡ m.replay.want - length c
unfolding took
took-want m c = refl

-- a part of no more octets than are due
pub fed-part : (m : Moment) (c r : List ℕ) → 0 < m.replay.want → length c ≤ m.replay.want → fed m (c ++ r) ≡ fed (settled_in (took m c)) r
unfolding fed
fed-part m [] r h i = ap (λ (z : Moment). fed z r) (sym (ap settled_in (took-nil m) ∙ live m h))
fed-part m (x ∷ []) r h i = ap (λ (z : Moment). fed z r) (step-live m x h)
fed-part m (x ∷ y ∷ c) r h i =
    let e : (took m (x ∷ [])).replay.want ≡ m.replay.want - 1 = took-want m (x ∷ []) in
    let w : 0 < (took m (x ∷ [])).replay.want = omega arith in
    ap (λ (z : Moment). fed z (y ∷ c ++ r)) (step-live m x h ∙ live (took m (x ∷ [])) w)
    ∙ fed-part (took m (x ∷ [])) (y ∷ c) r w (omega arith)
    ∙ ap (λ (z : Moment). fed (settled_in z) r) (took-took m (x ∷ []) (y ∷ c))

-- The loop: what is left of the piece, fed to where the replay stands, leads where the whole piece leads

module _ (piece : List ℕ) (whole : Moment) where
  pub turn_more : (at end : ℕ) (m : Moment) {a b : Moment} → 0 < m.replay.want → at ≤ end → end ≤ length piece → end - at ≤ m.replay.want
      → a ≡ took m (take (end - at) (drop at piece)) → b ≡ settled_in a → fed m (drop at piece) ≡ whole → fed b (drop end piece) ≡ whole
  turn_more at end m {a} {b} h i j k ea eb inv =
      let part : List ℕ = take (end - at) (drop at piece) in
      let n : length part ≡ end - at = length-take-le (end - at) (drop at piece) (omega (arith, length-drop at piece)) in
      let d : at + (end - at) ≡ end = omega arith in
      ap₂ fed (eb ∙ ap settled_in ea) (sym (drop-drop (end - at) at piece ∙ ap (λ (j : ℕ). drop j piece) d))
      ∙ sym (fed-part m part (drop (end - at) (drop at piece)) h (omega (arith, n)))
      ∙ ap (fed m) (take-append-drop (end - at) (drop at piece))
      ∙ inv

  pub turn-still : (at : ℕ) (m : Moment) → m.replay.want ≡ 0 → fed m (drop at piece) ≡ whole → m ≡ whole
  turn-still at m e inv = sym (fed-still m (drop at piece) e) ∙ inv

  pub turn_end : (at : ℕ) (m : Moment) → length piece ≤ at → fed m (drop at piece) ≡ whole → m ≡ whole
  unfolding fed
  turn_end at m h inv = ap (fed m) (sym (drop_of_length-le piece h)) ∙ inv

pub settled-in : (r : Replay) (room : List ℕ) (s : State) {x : Turn} → x ≡ settled r room s → moment x.replay room x.state ≡ settled_in (moment r room s)
unfolding settled_in
settled-in r room s e = ap (λ (x : Turn). moment x.replay room x.state) e

pub positive : (n : ℕ) → (n ≡ 0 → ⊥) → 0 < n
positive zero e = absurd (e refl)
positive (suc n) e = omega arith
