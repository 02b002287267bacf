-- Whatever frames come from one chassis on a port: three places of that port are all it takes (`broken-agent`), and nobody else is touched.
-- Each frame changes what its own identity has and the counts that this one passes, and a fit table has no chassis above three on a port.
use Prim.Native.Nat.{ℕ, ◌+◌, ◌≤◌}
use mathlib.Core.Path.{◌≡◌, refl, sym, ap, ◌∙◌}
use mathlib.Core.Bool.{Bool, true, false, not}
use mathlib.Core.List.{[], ◌∷◌, ◌++◌}
use native.Mathlib.Omega.{arith}
use borrow.Author.Tests.{ne_eqb}
use Rattle.tally.specs.Tests.{both}
use Rattle.ids.specs.Id.{Id, same_id}
use Rattle.rules.specs.Identity.{Ident, same}
use Rattle.rules.specs.Events.{unread, says, frame, passed, lost, History, whose}
use Rattle.rules.specs.Shares.{per_chassis, port_is, chassis_is}
use Rattle.rules.specs.Model.{Places, lookup, tally, run}
use Rattle.rules.proofs.IdentityLaws.{clash, same_true}
use Rattle.rules.proofs.SharesLaws.{chassis-true, chassis-is, other_on, port-parts}
use Rattle.rules.proofs.FrameLaws.{unread-frame, frame-lookup, frame-tally}
use Rattle.history.specs.Past.{held, held_of}
use Rattle.history.specs.Broken.{AllOfChassis, AtMost}
use Rattle.history.proofs.AgreeLaws.{holds-held, holds-of, sound}

module _ (p : ℕ) (c : Id) where
  other-false : (w : Ident) → chassis_is p c w ≡ true → other_on p c w ≡ false
  other-false w e = go (port_is p w) (same_id w.chassis c) e
    where
      go : (a b : Bool) → both a b ≡ true → both a (not b) ≡ false
      go true true e = refl
      go true false e = absurd (clash false e refl)
      go false b e = refl

  module _ (n : ℕ) (h : History) where
    abbrev before : Places
    before = run n h

    abbrev after : History → Places
    after later = run n (later ++ h)

    -- a test that its frames fail counts as before
    tally-later : (g : Ident → Bool) → ((w : Ident) → chassis_is p c w ≡ true → g w ≡ false) → (later : History) → AllOfChassis p c later → tally g (after later) ≡ tally g before
    tally-later g f [] a = refl
    tally-later g f (frame q (unread k) ∷ later) a = ap (tally g) (unread-frame n (after later) q k) ∙ tally-later g f later a.1
    tally-later g f (frame q (says x) ∷ later) a =
        frame-tally n (after later) (sound n (later ++ h)).fit q x g (f (whose q x) (chassis-is p c (whose q x) a.0.0 a.0.1)) ∙ tally-later g f later a.1
    tally-later g f (passed s ∷ later) a = absurd a.0
    tally-later g f (lost q ∷ later) a = absurd a.0

    -- and who is not of the chassis has what it had
    lookup-later : (w : Ident) → chassis_is p c w ≡ false → (later : History) → AllOfChassis p c later → lookup w (after later) ≡ lookup w before
    lookup-later w f [] a = refl
    lookup-later w f (frame q (unread k) ∷ later) a = ap (lookup w) (unread-frame n (after later) q k) ∙ lookup-later w f later a.1
    lookup-later w f (frame q (says x) ∷ later) a =
        frame-lookup n (after later) (sound n (later ++ h)).fit q x w ∙ rw (differs (same w (whose q x)) refl) (lookup-later w f later a.1)
      where
        differs : (b : Bool) → same w (whose q x) ≡ b → same w (whose q x) ≡ false
        differs true d = absurd (clash (chassis_is p c w) (rw (same_true w (whose q x) d) (chassis-is p c (whose q x) a.0.0 a.0.1)) f)
        differs false d = d
    lookup-later w f (passed s ∷ later) a = absurd a.0
    lookup-later w f (lost q ∷ later) a = absurd a.0

    pub at_most : (later : History) → AllOfChassis p c later → AtMost before (after later) p c
    at_most later a =
        record {
          three = (sound n (later ++ h)).fit.three p c;
          grown = omega (arith, port-parts (after later) p c, port-parts before p c, tally-later (other_on p c) other-false later a);
          elsewhere = λ q d. tally-later (port_is q) (λ w e. ne_eqb w.port q (λ z. d (sym z ∙ (chassis-true p c w e).0))) later a;
          others = λ w f. lookup-later w f later a;
        }

    -- "three places of that port are all it takes", by the history
    pub broken-agent : (later : History) → AllOfChassis p c later → held_of n h p c ≡ 0 → held n (later ++ h) p ≤ held n h p + per_chassis
    broken-agent later a z =
        let m = at_most later a in
        let own = holds-of n h before (sound n h) p c in
        let was = holds-held n h before (sound n h) p in
        omega (arith, m.three, m.grown, z, own, was, holds-held n (later ++ h) (after later) (sound n (later ++ h)) p)
