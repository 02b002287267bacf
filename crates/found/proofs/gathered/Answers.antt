-- `found::gathered` meets its contract: what is found so far, with the TLVs to come, is what the whole walk finds; and so is where it ends.
-- The laws are those of FoundLaws: what one TLV adds, by what it says, and one step of the walk.
use Prim.Native.Nat.{ℕ, ◌+◌, ◌-◌, ◌<◌, ◌≤◌}
use mathlib.Core.Path.{◌≡◌, refl, sym, ap, ◌∙◌}
use mathlib.Core.List.{List}
use native.Mathlib.Omega.{arith}
use lib.ListN.{length, take, drop}
use Rattle.std.specs.Prelude.{Result, Ok}
use Rattle.octets.proofs.PartLaws.{part-is}
use Rattle.refusal.specs.declared.Refusal.{Refusal}
use Rattle.fields.specs.Field.{field_of}
use Rattle.fields.specs.declared.Field.{Field}
use Rattle.fields.specs.declared.Field.TheVariants.{Says}
use Rattle.found.specs.Found.{noted, survey_by}
use Rattle.found.specs.declared.Found.{Found}
use Rattle.found.specs.declared.Survey.{Survey}
use Rattle.walk.specs.Walk.{head_of, step_of, walk}
use Rattle.walk.specs.declared.Step.{Step}
use Rattle.walk.specs.declared.Step.TheVariants.{Next}
use Rattle.walk.proofs.WalkLaws.{next_fits, next-on}
use Rattle.found.proofs.FoundLaws.{Within, noted-skipped, noted-malformed, noted-address, noted-mark, survey-refused, survey-end, survey-next, next-within}
use Rattle.found.proofs.gathered.Goals as goal

-- a TLV that the walk passes: where it lies
module _ (s : List ℕ) (at : ℕ) {r : Result Step Refusal} {x : Step} {kind start len : ℕ} (h : r ≡ step_of (head_of (drop at s)) at) (w : r ≡ Ok x) (n : x ≡ Next kind start len) where
  passes : step_of (head_of (drop at s)) at ≡ Ok (Next kind start len)
  passes = sym h ∙ w ∙ ap Ok n

  lies : start + len ≤ length s
  lies = next_fits s at passes

  less : length s - (start + len) < length s - at
  less = omega (arith, lies, next-on s at passes)

  -- what it says, f, and that the loop goes on behind it with what it adds
  module _ (found : Found) {f : Field} (q : f ≡ field_of kind (take (start + len - start) (drop start s))) where
    says : f ≡ field_of kind (take len (drop start s))
    says = q ∙ ap (field_of kind) (part-is s start len)

    again : {z : Survey} → survey_by found (walk (drop at s) 0 at) ≡ z → (g : Found) → g ≡ noted found f start len
        → survey_by g (walk (drop (start + len) s) 0 (start + len)) ≡ z
    again i g n =
        ap (λ (y : Found). survey_by y (walk (drop (start + len) s) 0 (start + len))) (n ∙ ap (λ (y : Field). noted found y start len) says)
        ∙ sym (survey-next s at found passes)
        ∙ i

    -- the topic and the octets before its content
    within : {topic skip : ℕ} → f ≡ Says topic skip → Within (Says topic skip) len
    within e = rw (sym says ∙ e) at (next-within s at found passes)

pub loop-r-init : goal.loop-r-init
loop-r-init c = rw c.nothing_found-found.ensures refl

pub returns-in-Err : goal.returns-in-Err
returns-in-Err c =
    sym (sym c.loop-r.invariant ∙ survey-refused c.args.s.now c.loop-r.at c.loop-r.found (sym c.step_at.ensures ∙ c.in-Err.is))

pub returns-in-Ok-End : goal.returns-in-Ok-End
returns-in-Ok-End c =
    sym (sym c.loop-r.invariant ∙ survey-end c.args.s.now c.loop-r.at c.loop-r.found (sym c.step_at.ensures ∙ c.in-Ok-End.is ∙ ap Ok c.in-Ok-End.field-0-is))

pub overflow_add-at : goal.overflow_add-at
overflow_add-at c = omega (arith, lies c.args.s.now c.loop-r.at c.step_at.ensures c.in-Ok-Next.is c.in-Ok-Next.field-0-is)

pub slice_bounds-said-end : goal.slice_bounds-said-end
slice_bounds-said-end c = lies c.args.s.now c.loop-r.at c.step_at.ensures c.in-Ok-Next.is c.in-Ok-Next.field-0-is

pub loop-r-smaller-in-Skipped : goal.loop-r-smaller-in-Skipped
loop-r-smaller-in-Skipped c = less c.args.s.now c.loop-r.at c.step_at.ensures c.in-Ok-Next.is c.in-Ok-Next.field-0-is

pub loop-r-preserved-in-Skipped : goal.loop-r-preserved-in-Skipped
loop-r-preserved-in-Skipped c =
    let l = c.loop-r in
    again c.args.s.now l.at c.step_at.ensures c.in-Ok-Next.is c.in-Ok-Next.field-0-is l.found c.said.ensures l.invariant _ (noted-skipped _ _ _ c.in-Skipped.is)

pub loop-r-smaller-in-Malformed : goal.loop-r-smaller-in-Malformed
loop-r-smaller-in-Malformed c = less c.args.s.now c.loop-r.at c.step_at.ensures c.in-Ok-Next.is c.in-Ok-Next.field-0-is

pub loop-r-preserved-in-Malformed : goal.loop-r-preserved-in-Malformed
loop-r-preserved-in-Malformed c =
    let l = c.loop-r in
    again c.args.s.now l.at c.step_at.ensures c.in-Ok-Next.is c.in-Ok-Next.field-0-is l.found c.said.ensures l.invariant _ (noted-malformed _ _ _ c.in-Malformed.is)

pub overflow_add-part : goal.overflow_add-part
overflow_add-part c =
    let l = c.loop-r in
    let w = within c.args.s.now l.at c.step_at.ensures c.in-Ok-Next.is c.in-Ok-Next.field-0-is l.found c.said.ensures c.in-Says.is in
    omega (arith, w.1, lies c.args.s.now l.at c.step_at.ensures c.in-Ok-Next.is c.in-Ok-Next.field-0-is)

pub overflow_sub-part : goal.overflow_sub-part
overflow_sub-part c =
    let l = c.loop-r in
    (within c.args.s.now l.at c.step_at.ensures c.in-Ok-Next.is c.in-Ok-Next.field-0-is l.found c.said.ensures c.in-Says.is).1

pub loop-r-smaller-then-topic-eq-MANAGEMENT : goal.loop-r-smaller-then-topic-eq-MANAGEMENT
loop-r-smaller-then-topic-eq-MANAGEMENT c = less c.args.s.now c.loop-r.at c.step_at.ensures c.in-Ok-Next.is c.in-Ok-Next.field-0-is

pub loop-r-preserved-then-topic-eq-MANAGEMENT : goal.loop-r-preserved-then-topic-eq-MANAGEMENT
loop-r-preserved-then-topic-eq-MANAGEMENT c =
    let l = c.loop-r in
    again c.args.s.now l.at c.step_at.ensures c.in-Ok-Next.is c.in-Ok-Next.field-0-is l.found c.said.ensures l.invariant _ (noted-address _ _ _ c.in-Says.is c.if-topic-eq-MANAGEMENT.true c.with_part-found.ensures)

-- each topic but management has a mark
pub offset_bounds-found-topic : goal.offset_bounds-found-topic
offset_bounds-found-topic c =
    let l = c.loop-r in
    let w = within c.args.s.now l.at c.step_at.ensures c.in-Ok-Next.is c.in-Ok-Next.field-0-is l.found c.said.ensures c.in-Says.is in
    omega (arith, w.0)

pub bounds-found-topic : goal.bounds-found-topic
bounds-found-topic c =
    let l = c.loop-r in
    let w = within c.args.s.now l.at c.step_at.ensures c.in-Ok-Next.is c.in-Ok-Next.field-0-is l.found c.said.ensures c.in-Says.is in
    omega (arith, w.0, c.if-topic-eq-MANAGEMENT.false)

pub offset_bounds-found-topic-else-topic-eq-MANAGEMENT : goal.offset_bounds-found-topic-else-topic-eq-MANAGEMENT
offset_bounds-found-topic-else-topic-eq-MANAGEMENT c =
    let l = c.loop-r in
    let w = within c.args.s.now l.at c.step_at.ensures c.in-Ok-Next.is c.in-Ok-Next.field-0-is l.found c.said.ensures c.in-Says.is in
    omega (arith, w.0)

pub bounds-found-topic-else-topic-eq-MANAGEMENT : goal.bounds-found-topic-else-topic-eq-MANAGEMENT
bounds-found-topic-else-topic-eq-MANAGEMENT c =
    let l = c.loop-r in
    let w = within c.args.s.now l.at c.step_at.ensures c.in-Ok-Next.is c.in-Ok-Next.field-0-is l.found c.said.ensures c.in-Says.is in
    omega (arith, w.0, c.if-topic-eq-MANAGEMENT.false)

pub loop-r-smaller : goal.loop-r-smaller
loop-r-smaller c = less c.args.s.now c.loop-r.at c.step_at.ensures c.in-Ok-Next.is c.in-Ok-Next.field-0-is

pub loop-r-preserved : goal.loop-r-preserved
loop-r-preserved c =
    let l = c.loop-r in
    again c.args.s.now l.at c.step_at.ensures c.in-Ok-Next.is c.in-Ok-Next.field-0-is l.found c.said.ensures l.invariant _ (noted-mark _ _ _ c.in-Says.is c.if-topic-eq-MANAGEMENT.false c.marked.ensures)
