-- For each public function of this crate: what it returns and what the slices then hold, that its contract allows, is one.
-- The contracts are the toolchain's own reading of the source (`Post` of each function's `Reads`).
use Prim.Native.Nat.{ℕ}
use mathlib.Core.Path.{◌≡◌, sym, ◌∙◌}
use mathlib.Core.List.{List, [], ◌∷◌}
use borrow.Fn.Kinds.{ParamKind, ResultKind, Out, Dens, res_t, ended_of}
use contract.Lifetimes.{Lfts}
use denote.Triple.Clauses.{AtExit}
use Rattle.std.specs.Prelude.{Result, ⊤}
use Rattle.octet_answers.specs.Answers.{number_in, Back, back}
use Rattle.octet_answers.proofs.readings.answer_judged.Kinds as judged-kinds
use Rattle.octet_answers.proofs.readings.answer_judged.Reads as judged
use Rattle.octet_answers.proofs.readings.answer_reading.Kinds as reading-kinds
use Rattle.octet_answers.proofs.readings.answer_reading.Reads as reading
use Rattle.octet_answers.proofs.readings.answer_written.Kinds as written-kinds
use Rattle.octet_answers.proofs.readings.answer_written.Reads as written
use Rattle.octet_answers.proofs.replies.answer_reply.Kinds as reply-kinds
use Rattle.octet_answers.proofs.replies.answer_reply.Reads as reply
use Rattle.octet_answers.proofs.replies.answer_count.Kinds as count-kinds
use Rattle.octet_answers.proofs.replies.answer_count.Reads as count
use Rattle.octet_answers.proofs.replies.answer_sight.Kinds as sight-kinds
use Rattle.octet_answers.proofs.replies.answer_sight.Reads as sight
use Rattle.octet_answers.proofs.replies.answer_compared.Kinds as compared-kinds
use Rattle.octet_answers.proofs.replies.answer_compared.Reads as compared

-- of a function with a contract P; f gives what it returns, as a number, and the slices that it may write
abbrev pub SoleBack : (n : ℕ) (ps : List (ParamKind n)) (k : ResultKind n) → Out n ps k → ((κs : Lfts n) → (res_t k κs).Denot → AtExit (ended_of n ps k) κs → Back) → Type 0
SoleBack n ps k P f =
    (κs : Lfts n) (a : Dens κs ps) (r q : (res_t k κs).Denot) (x y : AtExit (ended_of n ps k) κs) → P κs a r x → P κs a q y → (r ≡ q) × (f κs r x ≡ f κs q y)

alone : {x y d : Result ⊤ ℕ} {s t : List (List ℕ)} {b : Back} → (back (number_in x) s ≡ b) × (x ≡ d) → (back (number_in y) t ≡ b) × (y ≡ d) → (x ≡ y) × (back (number_in x) s ≡ back (number_in y) t)
alone e f = (e.1 ∙ sym f.1, e.0 ∙ sym f.0)

pub answer-judged-sole : SoleBack 1 judged-kinds.ps judged-kinds.r judged.Post (λ κs r x. back (number_in r) (x.0.now ∷ []))
answer-judged-sole κs a r q x y e f = alone e f

pub answer-reading-sole : SoleBack 2 reading-kinds.ps reading-kinds.r reading.Post (λ κs r x. back (number_in r) (x.0.now ∷ x.1.0.now ∷ []))
answer-reading-sole κs a r q x y e f = alone e f

pub answer-written-sole : SoleBack 1 written-kinds.ps written-kinds.r written.Post (λ κs r x. back (number_in r) (x.0.now ∷ []))
answer-written-sole κs a r q x y e f = alone e f

pub answer-reply-sole : SoleBack 1 reply-kinds.ps reply-kinds.r reply.Post (λ κs r x. back (number_in r) (x.0.now ∷ []))
answer-reply-sole κs a r q x y e f = alone e f

pub answer-count-sole : SoleBack 1 count-kinds.ps count-kinds.r count.Post (λ κs r x. back (number_in r) (x.0.now ∷ []))
answer-count-sole κs a r q x y e f = alone e f

pub answer-sight-sole : SoleBack 1 sight-kinds.ps sight-kinds.r sight.Post (λ κs r x. back (number_in r) (x.0.now ∷ []))
answer-sight-sole κs a r q x y e f = alone e f

pub answer-compared-sole : SoleBack 1 compared-kinds.ps compared-kinds.r compared.Post (λ κs r x. back (number_in r) (x.0.now ∷ []))
answer-compared-sole κs a r q x y e f = alone e f
