-- `octet_table::put_senders` meets its contract: after i turns six octets of each of i senders are put; they mean the same senders.
-- One turn is filled_more of tally, six times.
use Prim.Native.Nat.{ℕ, ◌<◌, ◌+◌, ◌*◌}
use mathlib.Core.Path.{◌≡◌, refl, sym, ap, ◌∙◌}
use mathlib.Core.List.{List}
use native.Mathlib.Omega.{arith}
use borrow.Author.Rules.{rules}
use lib.ListN.{length, get_or, length-set}
use Rattle.tally.proofs.TabLaws.{filled_none, filled_more, filled-all}
use Rattle.numbers.specs.Sizes.{places}
use Rattle.place.specs.State.{no_sender}
use Rattle.octet_table.specs.Lent.{senders_len, sender_octet, senders_in}
use native.Mathlib.Decide.{dec_lt}
use Rattle.octet_table.proofs.LentLaws.{sender-octet, senders-back}
use Rattle.octet_table.proofs.put_senders.Goals as goal

pub loop-i-init : goal.loop-i-init
loop-i-init c = (search rules, refl, filled_none _ _, λ k l. absurd (omega arith))

pub bounds-out-i-in-loop-i : goal.bounds-out-i-in-loop-i
bounds-out-i-in-loop-i c =
    let b : 6 * c.loop-i.i + 1 < length c.loop-i.out = omega arith in
    simp length-set b

pub bounds-out-i-in-loop-i-2 : goal.bounds-out-i-in-loop-i-2
bounds-out-i-in-loop-i-2 c =
    let b : 6 * c.loop-i.i + 2 < length c.loop-i.out = omega arith in
    simp length-set b

pub bounds-out-i-in-loop-i-3 : goal.bounds-out-i-in-loop-i-3
bounds-out-i-in-loop-i-3 c =
    let b : 6 * c.loop-i.i + 3 < length c.loop-i.out = omega arith in
    simp length-set b

pub bounds-out-i-in-loop-i-4 : goal.bounds-out-i-in-loop-i-4
bounds-out-i-in-loop-i-4 c =
    let b : 6 * c.loop-i.i + 4 < length c.loop-i.out = omega arith in
    simp length-set b

pub bounds-out-i-in-loop-i-5 : goal.bounds-out-i-in-loop-i-5
bounds-out-i-in-loop-i-5 c =
    let b : 6 * c.loop-i.i + 5 < length c.loop-i.out = omega arith in
    simp length-set b

pub loop-i-preserved : goal.loop-i-preserved
loop-i-preserved c =
    let s = c.args.senders in
    let o = c.args.out.now in
    let i = c.loop-i.i in
    let at : (j k : ℕ) → j < 6 → 6 * i + j ≡ k → get_or c.octets_of-o.result j 0 ≡ sender_octet s k =
    λ j k b q. ap (λ (x : List ℕ). get_or x j 0) c.octets_of-o.ensures.0 ∙ sym (sender-octet s i j b q) in
    let one = filled_more (sender_octet s) (6 * i) o (omega arith) c.loop-i.invariant.2 (at 0 (6 * i) (omega arith) (omega arith)) refl in
    let two = filled_more (sender_octet s) (6 * i + 1) o {m = 6 * i + 2} (omega arith) one (at 1 (6 * i + 1) (omega arith) refl) (omega arith) in
    let three = filled_more (sender_octet s) (6 * i + 2) o {m = 6 * i + 3} (omega arith) two (at 2 (6 * i + 2) (omega arith) refl) (omega arith) in
    let four = filled_more (sender_octet s) (6 * i + 3) o {m = 6 * i + 4} (omega arith) three (at 3 (6 * i + 3) (omega arith) refl) (omega arith) in
    let five = filled_more (sender_octet s) (6 * i + 4) o {m = 6 * i + 5} (omega arith) four (at 4 (6 * i + 4) (omega arith) refl) (omega arith) in
    let six : length (get_or s i no_sender).octets ≡ 6 = c.octets_of-o.ensures.1 in (
      search rules,
      simp length-set (search rules),
      filled_more (sender_octet s) (6 * i + 5) o (omega arith) five (at 5 (6 * i + 5) (omega arith) refl) (omega arith),
      λ k h. elim (dec_lt k i) [
        | yes b ↦ c.loop-i.invariant.3 k b
        | no f ↦ let e : k ≡ i = omega arith in ap (λ (j : ℕ). length (get_or s j no_sender).octets) e ∙ six
      ],
    )

pub returns : goal.returns
returns c =
    let a = c.args in
    let e : c.loop-i.i ≡ places = omega arith in
    let w = filled-all (sender_octet a.senders) senders_len a.out.now (search rules) (rw e at c.loop-i.invariant.2) in
    (w, ap senders_in w ∙ senders-back a.senders (search rules) (rw e at c.loop-i.invariant.3))
