-- `octet_table::senders_in` meets its contract: after i turns i senders are what their octets mean.
-- One turn is filled_more of tally.
use Prim.Native.Nat.{ℕ}
use mathlib.Core.Path.{◌≡◌, refl, ap}
use mathlib.Core.List.{List}
use native.Mathlib.Omega.{arith}
use borrow.Author.Rules.{rules}
use lib.ListN.{replicate}
use Rattle.tally.proofs.TabLaws.{filled_none, filled_more, filled-all}
use Rattle.numbers.specs.Sizes.{places}
use Rattle.place.specs.State.{six_zeros}
use Rattle.octet_table.proofs.senders_in.Goals as goal

pub loop-i-init : goal.loop-i-init
loop-i-init c = (search rules, search rules, search rules, filled_none _ _)

pub loop-i-preserved : goal.loop-i-preserved
loop-i-preserved c = (
  search rules,
  search rules,
  search rules,
  filled_more _ c.loop-i.i _ (omega arith) c.loop-i.invariant.3 (ap (λ (x : List ℕ). record { octets = x }) c.six.ensures) refl,
)

pub returns : goal.returns
returns c =
    let e : c.loop-i.i ≡ places = omega arith in
    filled-all _ places (replicate places six_zeros) c.loop-i.invariant.1 (rw e at c.loop-i.invariant.3)
