-- `naming::naming_from` meets its contract: the first hit from here is the first hit of the whole walk.
-- The laws are naming-hit and naming-miss of NamingLaws.
use Prim.Native.Nat.{ℕ, ◌+◌, ◌-◌, ◌≤◌, ◌<◌}
use mathlib.Core.Path.{◌≡◌, sym, ap, ◌∙◌}
use mathlib.Core.List.{List}
use native.Mathlib.Omega.{arith}
use lib.ListN.{length, drop}
use Rattle.std.specs.Prelude.{Result, Ok, Some}
use Rattle.octets.proofs.PartLaws.{part-is}
use Rattle.refusal.specs.declared.Refusal.{Refusal}
use Rattle.walk.specs.Walk.{head_of, step_of}
use Rattle.walk.specs.declared.Step.{Step}
use Rattle.walk.specs.declared.Step.TheVariants.{Next}
use Rattle.walk.proofs.WalkLaws.{next_fits, next-on}
use Rattle.naming.proofs.NamingLaws.{sees-numbered, naming-hit, naming-miss}
use Rattle.naming.proofs.naming_from.Goals as goal

-- a TLV that the walk passes: where it lies
module _ (s : List ℕ) (at : ℕ) {r : Result Step Refusal} {x : Step} {kind start len : ℕ} (h : r ≡ step_of (head_of (drop at s)) at) (w : r ≡ Ok x) (n : x ≡ Next kind start len) where
  passes : step_of (head_of (drop at s)) at ≡ Ok (Next kind start len)
  passes = sym h ∙ w ∙ ap Ok n

  lies : start + len ≤ length s
  lies = next_fits s at passes

  less : length s - (start + len) < length s - at
  less = omega (arith, lies, next-on s at passes)

pub overflow_add-at : goal.overflow_add-at
overflow_add-at c = omega (arith, lies c.args.s.now c.loop-kind.at c.step_at.ensures c.in-Ok-Next.is c.in-Ok-Next.field-0-is)

pub slice_bounds-part-end : goal.slice_bounds-part-end
slice_bounds-part-end c = lies c.args.s.now c.loop-kind.at c.step_at.ensures c.in-Ok-Next.is c.in-Ok-Next.field-0-is

pub numbers_of-requires : goal.numbers_of-requires
numbers_of-requires c = sees-numbered c.in-Ok-Next.kind _ c.args.address (sym c.sees.ensures ∙ c.if-sees.true)

pub returns-then-sees : goal.returns-then-sees
returns-then-sees c =
    let s = c.args.s.now in
    let e = passes s c.loop-kind.at c.step_at.ensures c.in-Ok-Next.is c.in-Ok-Next.field-0-is in
    let p = part-is s c.in-Ok-Next.start c.in-Ok-Next.len in
    ap Some c.numbers_of.ensures
    ∙ sym (sym c.loop-kind.invariant ∙ naming-hit s c.loop-kind.at c.args.address e p (sym c.sees.ensures ∙ c.if-sees.true))

pub loop-kind-smaller : goal.loop-kind-smaller
loop-kind-smaller c = less c.args.s.now c.loop-kind.at c.step_at.ensures c.in-Ok-Next.is c.in-Ok-Next.field-0-is

pub loop-kind-preserved : goal.loop-kind-preserved
loop-kind-preserved c =
    let s = c.args.s.now in
    let e = passes s c.loop-kind.at c.step_at.ensures c.in-Ok-Next.is c.in-Ok-Next.field-0-is in
    let p = part-is s c.in-Ok-Next.start c.in-Ok-Next.len in
    sym (naming-miss s c.loop-kind.at c.args.address e p (sym c.sees.ensures ∙ c.if-sees.false)) ∙ c.loop-kind.invariant
