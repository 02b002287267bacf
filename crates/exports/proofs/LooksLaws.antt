-- Laws of what the comparison of two tables gives: a list and an answer (X4).
-- They are said over what the code has in hand when it returns, and end in the contract.
use Prim.Native.Nat.{ℕ}
use mathlib.Core.Path.{◌≡◌, refl, sym, ap, ap₂, ◌∙◌}
use mathlib.Core.Logic.{◌≢◌}
use mathlib.Core.Bool.{Bool, true, false}
use mathlib.Core.List.{List, [], ◌∷◌, ◌++◌}
use borrow.Author.Tests.{eq-eqb}
use lib.Dec.{leb}
use lib.ListN.{length, drop}
use Rattle.tally.specs.Tests.{pick, both}
use Rattle.numbers.specs.declared.Table.{Table}
use Rattle.place.specs.State.{State, state}
use Rattle.fitness.specs.Fit.{fit}
use Rattle.changes.specs.Entries.{octets_of}
use Rattle.std.specs.Prelude.{Result, Ok, Err}
use Rattle.refusal.specs.Refusal.{refusal_of}
use Rattle.refusal.specs.declared.Refusal.{Refusal}
use Rattle.refusal.specs.declared.Refusal.TheVariants.{Unfit, TooShort}
use Rattle.compare.specs.Compare.{refusal_on_comparing, entries_between, octets_due, Looked, looked, compared}
use Rattle.compare.specs.Compare as compare
use Rattle.octet_table.specs.Lent.{Lent, lengths_ok, table_in}
use Rattle.octet_answers.specs.Answers as answers
use Rattle.octet_answers.specs.Answers.{in_numbers, number_in, Back, back, compared_long, compared_octets}
use Rattle.octet_answers.proofs.AnswersLaws.{compared-numbers}
use Rattle.exports.specs.Calls.{Gives, due_if_right, state_in, compare_right, on_looked, comparing}
use Rattle.exports.proofs.GivesLaws.{gives, right-gives}

-- a refusal writes nothing
refused-list : (s t : State) (l : List ℕ) → refusal_of (compared s t l).answer ≢ 0 → (compared s t l).list ≡ l
unfolding compared
refused-list s t l = go (looked (Ok (length (entries_between s t))) (octets_of (entries_between s t) ++ drop (octets_due s t) l)) (both (fit s) (fit t)) (leb (octets_due s t) (length l)) refl
  where
    go : (w : Looked) (f g : Bool) → refusal_of w.answer ≡ 0
        → refusal_of (pick f (pick g w (looked (Err TooShort) l)) (looked (Err Unfit) l)).answer ≢ 0
        → (pick f (pick g w (looked (Err TooShort) l)) (looked (Err Unfit) l)).list ≡ l
    go w true true e h = absurd (h e)
    go w true false e h = refl
    go w false g e h = refl

refused-octets : (c : Result ℕ Refusal) (a : List ℕ) → refusal_of c ≢ 0 → compared_octets c a ≡ a
refused-octets (Ok n) a h = absurd (h refl)
refused-octets (Err n) a h = refl

-- the slices x and y mean the tables t and u, with the buffers b and d; the list l then holds m, and the answer a holds v
module _ (x y : Lent) (b d l a : List ℕ) (first : lengths_ok x ≡ true) (second : lengths_ok y ≡ true) (long : length a ≡ compared_long) where
  pub compare-gives : {t u : Table} {c : Result ℕ Refusal} {p : Result ℕ ℕ} {m v : List ℕ} {n : ℕ} → t ≡ table_in x → u ≡ table_in y → compare.Compares (state t b) (state u d) l c m
      → p ≡ in_numbers c → back n (v ∷ []) ≡ answers.compared_answer p a
      → Gives (l ∷ a ∷ []) (comparing x b y d l a) (due_if_right (compare_right x y a) (refusal_on_comparing (state_in x b) (state_in y d) (length l))) (back n (m ∷ v ∷ []))
  unfolding comparing answers.compared_answer
  compare-gives {t} {u} {c} {p} {m} {v} {n} e f g i k =
      let h : compare.Compares (state_in x b) (state_in y d) l c m = rw (e, f) at g in
      let w = compared (state_in x b) (state_in y d) l in
      let given : back n (v ∷ []) ≡ back (number_in p) (compared_octets p a ∷ []) = rw (eq-eqb (length a) compared_long long) at k in
      let told = given ∙ ap (λ (z : Result ℕ ℕ). back (number_in z) (compared_octets z a ∷ [])) i ∙ compared-numbers c a in
      let right : compare_right x y a ≡ true = rw (first, second, eq-eqb (length a) compared_long long) in
      right-gives right
      (gives
      (ap (λ (z : Back). back z.returned (m ∷ z.slices)) told ∙ ap (λ (z : Looked). on_looked z a) h.exact)
      (ap (λ (z : Looked). refusal_of z.answer) (sym h.exact) ∙ h.refusal)
      (λ z. ap₂ (λ (p q : List ℕ). p ∷ q ∷ []) (refused-list (state_in x b) (state_in y d) l z) (refused-octets w.answer a z)))
