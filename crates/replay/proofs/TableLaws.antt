-- What a replay relies on of the table: a fit one stays fit, seconds are done, and a record that is too long changes nothing.
-- From the laws of the table's calls alone.
use Prim.Native.Nat.{ℕ, ◌<◌}
use mathlib.Core.Path.{◌≡◌, refl, sym, ap, ◌∙◌}
use mathlib.Core.Bool.{Bool, true, false}
use mathlib.Core.List.{List}
use native.Mathlib.Omega.{arith}
use lib.ListN.{length}
use Rattle.std.specs.Prelude.{Ok, Err}
use Rattle.refusal.specs.declared.Refusal.TheVariants.{NoFrame}
use Rattle.lldpdu.specs.Outline.{outline_of}
use Rattle.reader.specs.Frame.{frame_ok}
use Rattle.reader.proofs.FrameLaws.{frame-size, on-bad}
use Rattle.numbers.specs.Sizes.{ports, places}
use Rattle.place.specs.State.{State, Sized}
use Rattle.fitness.specs.Fit.{fit}
use Rattle.fitness.proofs.FitLaws.{fit_parts}
use Rattle.freeing.specs.Calls.{After, state_after, passed}
use Rattle.hearing.specs.Frame.{state_told, heard}
use Rattle.hearing.proofs.ReplyLaws.{unread-tells, heard-by}
use Rattle.table.proofs.StepLaws.{Kept, kept-fit, passed_is, passed-step, frame_step}
use Rattle.replay.specs.Place.{room_octets}
use Rattle.replay.specs.Promises.{Listed}

pub kept_of : (s : State) → Listed s → fit s ≡ true → Kept s
kept_of s z e =
    let f = fit_parts s e in
    record {
      sized = record { ports_long = z.ports_long; seconds_long = z.seconds_long; lengths_long = z.lengths_long; senders_long = z.senders_long; buf_long = f.long };
      fit = f;
    }

pub sized-listed : (s : State) → Sized places s → Listed s
sized-listed s z = record { ports_long = z.ports_long; seconds_long = z.seconds_long; lengths_long = z.lengths_long; senders_long = z.senders_long }

too_long : (f : List ℕ) → room_octets < length f → frame_ok f ≡ false
too_long f h = go (frame_ok f) refl
  where
    go : (b : Bool) → frame_ok f ≡ b → b ≡ false
    go true e = absurd (omega (arith, (frame-size f e).1, h))
    go false e = refl

module _ (s : State) (k : Kept s) where
  pub passed-done : (n : ℕ) → (passed n s).outcome.answer ≡ Ok tt
  passed-done n = ap (λ (a : After). a.outcome.answer) (passed_is s k n)

  pub passed-kept : (n : ℕ) → Kept (state_after (passed n s))
  passed-kept n = (passed-step s k n).kept

  pub heard-kept : (p : ℕ) (f : List ℕ) → Kept (state_told (heard p f s))
  heard-kept p f = (frame_step s k p f).kept

  -- so its octets need not be kept (C5)
  pub long-unheard : (p : ℕ) (f : List ℕ) → p < ports → room_octets < length f → state_told (heard p f s) ≡ s
  long-unheard p f l h =
      ap state_told (sym (unread-tells f (sym (on-bad (Err NoFrame) outline_of f (too_long f h))) p s refl ∙ heard-by p f s (kept-fit s k) l))
