-- Laws of what is said of an identity: one event more, and that nothing is said on a port that there is not.
-- They are cited where a history is put in words, counted and compared with a table.
use Prim.Native.Nat.{ℕ, ◌≤◌, ◌<◌}
use mathlib.Core.Path.{◌≡◌, refl, ap, ◌∙◌}
use mathlib.Core.Bool.{Bool, true, false}
use mathlib.Core.List.{[], ◌∷◌}
use mathlib.Core.Option.{Option, none, some}
use native.Mathlib.Omega.{arith}
use borrow.Author.Tests.{ltb-true, ltb-false, le-ltb}
use lib.Dec.{ltb, eqb}
use Rattle.tally.specs.Tests.{pick}
use Rattle.rules.specs.Identity.{Ident, same}
use Rattle.rules.specs.Events.{Announcement, unread, says, frame, passed, lost, History, whose}
use Rattle.rules.proofs.IdentityLaws.{same_true, same_self}
use Rattle.history.specs.Past.{Latest, older, on_answer, named, answer_by, hearing, losing, latest, answer}

pub older-zero : (o : Option Latest) → older 0 o ≡ o
older-zero none = refl
older-zero (some e) = ap (λ (k : ℕ). some (record { said = e.said; since = k })) (omega arith)

pub losing-none : (p : ℕ) (w : Ident) → losing p w none ≡ none
losing-none p w = go (eqb w.port p)
  where
    go : (b : Bool) → pick {A = Option Latest} b none none ≡ none
    go true = refl
    go false = refl

module _ (n : ℕ) where
  -- a frame changes what was said of its own identity, by its answer
  pub frame-own : (p : ℕ) (a : Announcement) (h : History) → latest n (frame p (says a) ∷ h) (whose p a) ≡ on_answer (answer n h p (says a)) a (latest n h (whose p a))
  unfolding latest hearing answer
  frame-own p a h = rw (same_self (whose p a))

  -- a port that there is not has no neighbour
  pub no-port : (h : History) (w : Ident) → n ≤ w.port → latest n h w ≡ none
  unfolding latest hearing answer_by
  no-port [] w l = refl
  no-port (frame p (unread k) ∷ h) w l = no-port h w l
  no-port (frame p (says a) ∷ h) w l = go (same w (whose p a)) refl (no-port h w l)
    where
      go : (b : Bool) → same w (whose p a) ≡ b → latest n h w ≡ none
          → pick b (on_answer (answer_by n (latest n h) (named h) p (says a)) a (latest n h w)) (latest n h w) ≡ none
      go false d ih = ih
      go true d ih =
          let v : w.port ≡ p = ap (λ (y : Ident). y.port) (same_true w (whose p a) d) in
          rw (le-ltb p n (omega arith)) ih
  no-port (passed s ∷ h) w l = ap (older s) (no-port h w l)
  no-port (lost q ∷ h) w l = ap (losing q w) (no-port h w l) ∙ losing-none q w

  -- what is said of an identity was said on a port that there is
  pub on-port : (h : History) (w : Ident) (e : Latest) → latest n h w ≡ some e → w.port < n
  on-port h w e z = go (ltb w.port n) refl
    where
      go : (b : Bool) → ltb w.port n ≡ b → w.port < n
      go true d = ltb-true w.port n d
      go false d = let y = no-port h w (ltb-false w.port n d) in absurd (let q : ◌≡◌ {A = ℕ} 0 1 = cc in omega arith)
