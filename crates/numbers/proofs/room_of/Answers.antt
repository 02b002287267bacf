-- `numbers::room_of` meets its contract: each return is one line of the room (share-loud to share-left of `rules`).
-- The counts are those of held and beyond_sure.
use mathlib.Core.Path.{sym, ◌∙◌}
use native.Mathlib.Omega.{arith}
use Rattle.rules.proofs.SharesLaws.{share-loud, share-sure, share-full, share-taken, share-left}
use Rattle.numbers.specs.Sizes.{ports}
use Rattle.numbers.specs.Numbers.{holds}
use Rattle.numbers.proofs.room_of.Goals as goal

pub returns-then-own-eq-PER_CHASSIS : goal.returns-then-own-eq-PER_CHASSIS
returns-then-own-eq-PER_CHASSIS c =
    let a = c.args in
    sym (share-loud ports (holds a.t) a.own a.p c.if-own-eq-PER_CHASSIS.true)

pub returns-then-n-lt-SURE : goal.returns-then-n-lt-SURE
returns-then-n-lt-SURE c =
    let a = c.args in
    let n = c.held-n.ensures in
    sym (share-sure ports (holds a.t) a.own a.p c.if-own-eq-PER_CHASSIS.false (omega (arith, n, c.if-n-lt-SURE.true)))

pub returns-then-n-eq-MOST : goal.returns-then-n-eq-MOST
returns-then-n-eq-MOST c =
    let a = c.args in
    sym (share-full ports (holds a.t) a.own a.p c.if-own-eq-PER_CHASSIS.false (sym c.held-n.ensures ∙ c.if-n-eq-MOST.true))

pub returns-then-beyond_sure-eq-COMMON : goal.returns-then-beyond_sure-eq-COMMON
returns-then-beyond_sure-eq-COMMON c =
    let a = c.args in
    let n = c.held-n.ensures in
    sym (share-taken ports (holds a.t) a.own a.p c.if-own-eq-PER_CHASSIS.false (omega (arith, n, c.if-n-lt-SURE.false)) (λ z. c.if-n-eq-MOST.false (n ∙ z))
    (sym c.beyond_sure.ensures ∙ c.if-beyond_sure-eq-COMMON.true))

pub returns : goal.returns
returns c =
    let a = c.args in
    let n = c.held-n.ensures in
    sym (share-left ports (holds a.t) a.own a.p c.if-own-eq-PER_CHASSIS.false (omega (arith, n, c.if-n-lt-SURE.false)) (λ z. c.if-n-eq-MOST.false (n ∙ z))
    (λ z. c.if-beyond_sure-eq-COMMON.false (c.beyond_sure.ensures ∙ z)))
