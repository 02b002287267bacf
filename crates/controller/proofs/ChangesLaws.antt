-- What changed between two looks, for a caller in C: the octets in the list account for the second table (D5).
-- The number of entries is read off the answer, and each entry off the list.
use Prim.Native.Nat.{ℕ}
use borrow.Fn.Kinds.{Dens, res_t, ended_of}
use contract.Lifetimes.{Lfts}
use denote.Triple.Clauses.{AtExit}
use mathlib.Core.Path.{◌≡◌, refl, sym, ap, ◌∙◌}
use mathlib.Core.Bool.{Bool, true, false}
use mathlib.Core.List.{List, [], ◌∷◌, ◌++◌}
use native.Mathlib.Omega.{arith}
use lib.ListN.{length, get_or, drop}
use Rattle.std.specs.Prelude.{Ok}
use Rattle.octets.specs.Numbers.{pair_of, two_octets}
use Rattle.place.specs.State.{State}
use Rattle.fitness.specs.View.{view}
use Rattle.changes.specs.Entries.{octets_of}
use Rattle.changes.specs.Account.{Accounted}
use Rattle.changes.proofs.OrderLaws.{octets-long}
use Rattle.compare.specs.Compare.{entries_between, octets_due, refusal_on_comparing, looked}
use Rattle.compare.proofs.CompareLaws.{due-few}
use Rattle.compare.proofs.LookLaws.{unrefused, listed-accounts}
use Rattle.octet_table.specs.Lent.{Lent, lent}
use Rattle.octet_answers.specs.Answers.{Back}
use Rattle.exports.specs.Calls.{due_if_right, state_in, compare_right, comparing, Compares}
use Rattle.exports.proofs.tambolune_compare.Kinds as compare-kinds
use Rattle.exports.proofs.tambolune_compare.Reads as compare-call

-- the number of entries that an answer has
abbrev pub count_in : List ℕ → ℕ
count_in a = pair_of (get_or a 0 0) (get_or a 1 0)

-- the list and the answer, as they come back
abbrev list_of : List (List ℕ) → List ℕ
list_of [] = []
list_of (l ∷ ss) = l

abbrev answer-of : List (List ℕ) → List ℕ
answer-of [] = []
answer-of (l ∷ []) = []
answer-of (l ∷ a ∷ ss) = a

-- the slices x and y mean the tables s and t, with the buffers b and d; the list l then holds m, and the answer a holds v
module _ (x y : Lent) (b d l a : List ℕ) {m v : List ℕ} (h : Compares x b y d l a m v 0) where
  abbrev s : State
  s = state_in x b

  abbrev t : State
  t = state_in y d

  -- a slice of a wrong length would have given 1
  right : (compare_right x y a ≡ true) × (refusal_on_comparing s t (length l) ≡ 0)
  right = go (compare_right x y a) refl (sym h.refusal)
    where
      go : (f : Bool) → compare_right x y a ≡ f → due_if_right f (refusal_on_comparing s t (length l)) ≡ 0 → (compare_right x y a ≡ true) × (refusal_on_comparing s t (length l) ≡ 0)
      go true e z = (e, z)
      go false e z = absurd (let q : ◌≡◌ {A = ℕ} 1 0 = z in omega arith)

  came-back : (m ≡ octets_of (entries_between s t) ++ drop (octets_due s t) l) × (v ≡ two_octets (length (entries_between s t)))
  unfolding comparing
  came-back =
      let e = rw (right.0, unrefused s t l m right.1) at h.exact in
      (ap (λ (z : Back). list_of z.slices) e, ap (λ (z : Back). answer-of z.slices) e)

  counted : count_in v ≡ length (entries_between s t)
  counted = ap count_in came-back.1 ∙ omega (arith, due-few s t, octets-long (entries_between s t))

  accounted : Accounted (view s) (view t) (count_in v) m
  accounted =
      rw counted
      (listed-accounts s t l m (length (entries_between s t))
      (record { exact = ap (looked (Ok (length (entries_between s t)))) came-back.0 ∙ sym (unrefused s t l m right.1); refusal = sym right.1 }))

-- of every outcome that the contract of the export allows, over the contract as the toolchain reads it from the source: whatever was lent, if 0 came back
pub c-accounts : (κs : Lfts 12) (a : Dens κs compare-kinds.ps) (r : (res_t compare-kinds.r κs).Denot) (x : AtExit (ended_of 12 compare-kinds.ps compare-kinds.r) κs)
    → compare-call.Post κs a r x → r ≡ 0
    → Accounted
    (view (state_in (lent a.0.now a.1.0.now a.1.1.0.now a.1.1.1.0.now) a.1.1.1.1.0.now))
    (view
    (state_in (lent a.1.1.1.1.1.0.now a.1.1.1.1.1.1.0.now a.1.1.1.1.1.1.1.0.now a.1.1.1.1.1.1.1.1.0.now)
    a.1.1.1.1.1.1.1.1.1.0.now))
    (count_in x.1.1.1.1.1.1.1.1.1.1.1.0.now) x.1.1.1.1.1.1.1.1.1.1.0.now
c-accounts κs a r x post e =
    accounted _ _ a.1.1.1.1.0.now a.1.1.1.1.1.1.1.1.1.0.now a.1.1.1.1.1.1.1.1.1.1.0.now a.1.1.1.1.1.1.1.1.1.1.1.0.now
    (rw e at post)
