-- What a list accounts for that compare has written, for any two tables and any list: said of the octets that stand in it behind the call (D1 to D5).
-- `code-accounts` is the theorem, over the contract as the toolchain reads it from the source; `looks-in-a-row` is the one for three tables.
use Prim.Native.Nat.{ℕ, ◌+◌, ◌≤◌}
use borrow.Fn.Kinds.{Dens, res_t, ended_of}
use contract.Lifetimes.{Lfts}
use denote.Triple.Clauses.{AtExit}
use mathlib.Core.Path.{◌≡◌, refl, sym, ap, ◌∙◌}
use mathlib.Core.Bool.{Bool, true, false, not}
use mathlib.Core.List.{List, [], ◌∷◌, ◌++◌}
use native.Mathlib.Omega.{arith}
use borrow.Author.Tests.{ltb-false, le-leb, le-ltb}
use lib.Dec.{ltb}
use lib.ListN.{length, drop}
use Rattle.std.specs.Prelude.{Ok, Err}
use Rattle.refusal.specs.Refusal.{refusal_of}
use Rattle.tally.specs.Tests.{pick, both}
use Rattle.tally.proofs.TestsLaws.{both_true}
use Rattle.rules.specs.Fit.{Once}
use Rattle.rules.specs.Records.{records_in, SameRecords}
use Rattle.place.specs.State.{State, state}
use Rattle.fitness.specs.Fit.{fit}
use Rattle.fitness.specs.View.{view}
use Rattle.fitness.proofs.ViewLaws.{view-fits}
use Rattle.fitness.proofs.FitLaws.{fit_parts}
use Rattle.changes.specs.Entries.{Entry, octets_of, entries_in}
use Rattle.changes.specs.Changes.{resolved, applied}
use Rattle.changes.specs.Account.{Accounted}
use Rattle.changes.proofs.OrderLaws.{octets-long}
use Rattle.changes.proofs.AccountLaws.{entries-few, accounts, one-after-another}
use Rattle.compare.specs.Compare.{Compared, entries_between, octets_due, refusal_on_comparing, Looked, looked, compared, Compares}
use Rattle.compare.proofs.compare.Kinds as compare-kinds
use Rattle.compare.proofs.compare.Reads as compare

-- the entries can be read off their octets, whatever stands behind them
entries-back : (e : List Entry) (rest : List ℕ) → entries_in (length e) (octets_of e ++ rest) ≡ e
entries-back [] rest = refl
entries-back (x ∷ e) rest = ap (λ (y : List Entry). x ∷ y) (entries-back e rest)

-- a fit table has no identity twice
view-once : (s : State) → fit s ≡ true → Once (view s)
view-once s f = (view-fits s (fit_parts s f)).once

-- What an answer with a number of entries tells

pub record Tells (a b : State) (l l' : List ℕ) (n : ℕ) : Type 0 where
  pub first-fit : fit a ≡ true
  pub second-fit : fit b ≡ true
  pub number : n ≡ length (entries_between a b)
  -- "the list's rest stays"
  pub whole : l' ≡ octets_of (entries_between a b) ++ drop (octets_due a b) l

module _ (a b : State) (l l' : List ℕ) where
  no-refusal : refusal_on_comparing a b (length l) ≡ 0 → (both (fit a) (fit b) ≡ true) × (octets_due a b ≤ length l)
  unfolding refusal_on_comparing
  no-refusal e = go (both (fit a) (fit b)) (ltb (length l) (octets_due a b)) refl refl e
    where
      go : (f g : Bool) → both (fit a) (fit b) ≡ f → ltb (length l) (octets_due a b) ≡ g → ◌≡◌ {A = ℕ} (pick (not f) 1 (pick g 14 0)) 0
          → (both (fit a) (fit b) ≡ true) × (octets_due a b ≤ length l)
      go false g p q z = absurd (omega (arith, z))
      go true true p q z = absurd (omega (arith, z))
      go true false p q z = (p, ltb-false (length l) (octets_due a b) q)

  -- where no refusal is due, all entries are written
  pub unrefused : refusal_on_comparing a b (length l) ≡ 0 → compared a b l ≡ looked (Ok (length (entries_between a b))) (octets_of (entries_between a b) ++ drop (octets_due a b) l)
  unfolding compared
  unrefused e =
      let h = no-refusal e in
      let f = both_true (fit a) (fit b) h.0 in
      rw (f.0, f.1, le-leb (octets_due a b) (length l) h.1)

  pub tells : (n : ℕ) → Compares a b l (Ok n) l' → Tells a b l l' n
  tells n c =
      let h = no-refusal (sym c.refusal) in
      let f = both_true (fit a) (fit b) h.0 in
      let e = c.exact ∙ unrefused (sym c.refusal) in
      record {
        first-fit = f.0;
        second-fit = f.1;
        number = ap (λ (x : Looked). counted x.answer) e;
        whole = ap (λ (x : Looked). x.list) e;
      }
    where
      counted : Compared → ℕ
      counted (Ok m) = m
      counted (Err r) = 0

  -- the entries that stand in the list are those that the two tables give
  pub listed-entries : (n : ℕ) → Compares a b l (Ok n) l' → entries_in n l' ≡ entries_between a b
  listed-entries n c =
      let t = tells n c in
      rw (t.number, t.whole) (entries-back (entries_between a b) (drop (octets_due a b) l))

  pub listed-accounts : (n : ℕ) → Compares a b l (Ok n) l' → Accounted (view a) (view b) n l'
  listed-accounts n c =
      let t = tells n c in
      let e = listed-entries n c in
      let h = accounts (view a) (view b) (view-once a t.first-fit) (view-once b t.second-fit) in
      record {
        account = rw e h;
        number = ap length e ∙ sym t.number;
        none_if_same = (λ z. h.empty_if_same.0 (none (entries_between a b) (sym t.number ∙ z)), λ z. t.number ∙ ap length (h.empty_if_same.1 z));
      }
    where
      none : (e : List Entry) → length e ≡ 0 → e ≡ []
      none [] z = refl
      none (x ∷ e) z = absurd (omega (arith, z))

  -- Which lists are long enough

  -- with room for as many entries as both tables have records, two fit tables are never refused
  pub never-short : (r : Compared) → fit a ≡ true → fit b ≡ true
      → (length (records_in (view a)) + length (records_in (view b))) + (length (records_in (view a)) + length (records_in (view b))) ≤ length l
      → Compares a b l r l' → refusal_of r ≡ 0
  unfolding refusal_on_comparing
  never-short r f g h c =
      c.refusal
      ∙ rw (f, g, le-ltb (length l) (octets_due a b) (omega (arith, h, octets-long (entries_between a b), entries-few (view a) (view b))))

-- of every outcome that the contract allows
pub code-accounts : (κs : Lfts 3) (a : Dens κs compare-kinds.ps) (r : (res_t compare-kinds.r κs).Denot) (x : AtExit (ended_of 3 compare-kinds.ps compare-kinds.r) κs)
    → compare.Post κs a r x → (n : ℕ) → r ≡ Ok n
    → Accounted (view (state a.0 a.1.0.now)) (view (state a.1.1.0 a.1.1.1.0.now)) n x.1.1.1.1.0.now
code-accounts κs a r x post n e =
    listed-accounts (state a.0 a.1.0.now) (state a.1.1.0 a.1.1.1.0.now) a.1.1.1.1.0.now x.1.1.1.1.0.now n (rw e at post)

-- the changes of a first look and a second, and then those of the second and a third, give the third
pub looks-in-a-row : (a b c : State) (k l k' l' : List ℕ) (m n : ℕ) → Compares a b k (Ok m) k' → Compares b c l (Ok n) l'
    → SameRecords
    (applied (applied (records_in (view a)) (resolved (view a) (view b) (entries_in m k'))) (resolved (view b) (view c) (entries_in n l')))
    (records_in (view c))
looks-in-a-row a b c k l k' l' m n p q =
    let s = tells a b k k' m p in
    let t = tells b c l l' n q in
    rw (listed-entries a b k k' m p, listed-entries b c l l' n q)
    (one-after-another (view a) (view b) (view c) (view-once a s.first-fit) (view-once b s.second-fit) (view-once c t.second-fit))
