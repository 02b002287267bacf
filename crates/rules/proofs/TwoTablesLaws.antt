-- Two fit tables with the same records (E5): they answer alike, and every event leaves them with the same records, whatever places these stand in.
-- What is found is the same for every identity, and so what is counted is the same for every test.
use Prim.Native.Nat.{ℕ}
use mathlib.Core.Path.{◌≡◌, refl, sym, ap, ap₂, ◌∙◌, fun_ext}
use mathlib.Core.Bool.{Bool, true, false}
use mathlib.Core.List.{[], ◌∷◌}
use mathlib.Core.Option.{Option, none, some, none-ne-some}
use native.Mathlib.Omega.{arith}
use lib.Dec.{ltb, eqb}
use Rattle.std.specs.Prelude.{Err}
use Rattle.tally.specs.Tests.{pick}
use Rattle.refusal.specs.declared.Refusal.TheVariants.{NoPort}
use Rattle.rules.specs.Identity.{Ident, same}
use Rattle.rules.specs.Events.{Heard, unread, says, Event, frame, passed, lost, whose}
use Rattle.rules.specs.Shares.{room}
use Rattle.rules.specs.Answers.{Answered, answer_to}
use Rattle.rules.specs.declared.Room.{Room}
use Rattle.rules.specs.Model.{Rec, Places, is_some, lookup, tally, on_record, each_record, tick, unplug, swap, recorded, reply, step}
use Rattle.rules.specs.Fit.{Once, FitPlaces}
use Rattle.rules.specs.Records.{records_in, SameRecords}
use Rattle.rules.proofs.IdentityLaws.{same_true, same_self}
use Rattle.rules.proofs.EachLaws.{absent-lookup, once-each, lookup-each}
use Rattle.rules.proofs.FrameLaws.{tick-keeps, unplug-keeps, swap-keeps, lookup-swap, tally-swap, after, frame-lookup, unread-frame, step-fit}
use Rattle.rules.proofs.RecordsLaws.{records-lookup, lookup-records}

-- What is counted

-- where nobody is found, nothing is
tally-nobody : (g : Ident → Bool) (t : Places) → ((w : Ident) → lookup w t ≡ none) → tally g t ≡ 0
tally-nobody g [] e = refl
tally-nobody g (none ∷ t) e = omega (arith, tally-nobody g t e)
tally-nobody g (some r ∷ t) e = absurd (none-ne-some r (sym (rw (same_self r.who) at (e r.who))))

same-tally : (g : Ident → Bool) (t u : Places) → Once t → Once u → ((w : Ident) → lookup w t ≡ lookup w u) → tally g t ≡ tally g u
same-tally g [] u o o' e = sym (tally-nobody g u (λ w. sym (e w)))
same-tally g (none ∷ t) u o o' e = omega (arith, same-tally g t u o.1 o' e)
same-tally g (some r ∷ t) u o o' e =
    let rest : tally g t ≡ tally g (each_record (swap v none) u) = same-tally g t (each_record (swap v none) u) o.1 (once-each (swap v none) (swap-keeps v none tt) u o') finds in
    let all = tally-swap g v none u o' known in
    omega (arith, rest, rw here at all)
  where
    v : Ident
    v = r.who

    here : lookup v u ≡ some r
    here = sym (e v) ∙ rw (same_self v) refl

    known : is_some (lookup v u) ≡ true
    known = ap is_some here

    -- without r, both find the same
    finds : (w : Ident) → lookup w t ≡ lookup w (each_record (swap v none) u)
    finds w = go (same w v) refl (e w) ∙ sym (lookup-swap v none tt u o' known w)
      where
        go : (b : Bool) → same w v ≡ b → pick b (some r) (lookup w t) ≡ lookup w u → lookup w t ≡ pick b none (lookup w u)
        go true d z = absent-lookup w t (rw (same_true w v d) o.0)
        go false d z = z

-- Answers, and what an event leaves

module _ (n : ℕ) (t u : Places) (f : FitPlaces n t) (g : FitPlaces n u) (s : SameRecords (records_in t) (records_in u)) where
  pub same-finds : (w : Ident) → lookup w t ≡ lookup w u
  same-finds = records-lookup t u f.once g.once s

  pub same_count : (h : Ident → Bool) → tally h t ≡ tally h u
  same_count h = same-tally h t u f.once g.once same-finds

  pub same-reply : (p : ℕ) (x : Heard) → reply n p x t ≡ reply n p x u
  unfolding reply
  same-reply p (unread k) = refl
  same-reply p (says a) =
      ap₂ (λ (b : Bool) (rm : Room). pick (ltb p n) (answer_to (eqb a.seconds 0) b rm) (Err NoPort))
      (ap is_some (same-finds (whose p a)))
      (ap (λ (h : (Ident → Bool) → ℕ). room n h (whose p a)) (fun_ext same_count))

  found-behind : (e : Event) (w : Ident) → lookup w (step n e t) ≡ lookup w (step n e u)
  found-behind (frame p (unread k)) w = rw (unread-frame n t p k, unread-frame n u p k) (same-finds w)
  found-behind (frame p (says a)) w =
      frame-lookup n t f p a w
      ∙ ap₂ (λ (x y : Option Rec). pick (same w (whose p a)) x y)
      (ap₂ (λ (x : Answered) (y : Option Rec). after x (recorded p a) y) (same-reply p (says a)) (same-finds (whose p a)))
      (same-finds w)
      ∙ sym (frame-lookup n u g p a w)
  found-behind (passed m) w =
      lookup-each (tick m) (tick-keeps m) w t f.once ∙ ap (on_record (tick m)) (same-finds w) ∙ sym (lookup-each (tick m) (tick-keeps m) w u g.once)
  found-behind (lost p) w =
      lookup-each (unplug p) (unplug-keeps p) w t f.once ∙ ap (on_record (unplug p)) (same-finds w) ∙ sym (lookup-each (unplug p) (unplug-keeps p) w u g.once)

  pub same_step : (e : Event) → SameRecords (records_in (step n e t)) (records_in (step n e u))
  same_step e = lookup-records (step n e t) (step n e u) (step-fit n t f e).once (step-fit n u g e).once (found-behind e)
