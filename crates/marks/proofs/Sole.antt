-- Two answers that the contract of `marks_of` allows are one.
-- The contract is the toolchain's own reading of the source (`Post` of its `Reads`).
use Prim.Native.Nat.{ℕ}
use mathlib.Core.Path.{◌≡◌, refl, sym, ap, ◌∙◌}
use mathlib.Core.Bool.{true≢false}
use mathlib.Core.List.{List}
use native.Mathlib.Omega.{arith}
use lib.Seq.{ext_get_or}
use Rattle.std.specs.Prelude.{Option, Some, None}
use Rattle.tally.proofs.Sole.{Sole}
use Rattle.place.specs.State.{State}
use Rattle.marks.specs.Marks.{Marked, Checks}
use Rattle.marks.proofs.marks_of.Kinds as marks-kinds
use Rattle.marks.proofs.marks_of.Reads as marks

same-marked : (s : State) {l m : List ℕ} → Marked s l → Marked s m → l ≡ m
same-marked s {l} {m} a b = ext_get_or 0 l m (a.long ∙ sym b.long) (λ k h. a.right k (omega (arith, a.long)) ∙ sym (b.right k (omega (arith, a.long))))

pub marks-of-sole : Sole 1 marks-kinds.ps marks-kinds.r marks.Post
marks-of-sole κs a r q x y e f = go _ r q e f
  where
    go : (s : State) (r q : Option (List ℕ)) → Checks s r → Checks s q → r ≡ q
    go s (Some l) (Some m) e f = ap Some (same-marked s e.1 f.1)
    go s (Some l) None e f = absurd (true≢false (sym e.0 ∙ f))
    go s None (Some m) e f = absurd (true≢false (sym f.0 ∙ e))
    go s None None e f = refl
