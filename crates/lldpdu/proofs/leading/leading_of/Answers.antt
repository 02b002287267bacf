-- `lldpdu::leading::leading_of` meets its contract: TLV 1, then TLV 2 behind it, then TLV 3.
-- What is known behind each, and what each decides, is said by the laws of LeadingLaws.
use Prim.Native.Nat.{ℕ, ◌+◌, ◌≤◌, ◌<◌}
use mathlib.Core.Path.{◌≡◌, sym, ap₂, ◌∙◌}
use mathlib.Core.List.{List}
use mathlib.Core.Bool.{Bool, true}
use native.Mathlib.Omega.{arith}
use lib.ListN.{drop}
use Rattle.std.specs.Prelude.{Some, Ok}
use Rattle.std.proofs.lemmas.Result.{err_from_is_err_and}
use Rattle.walk.specs.Walk.{head_of}
use Rattle.walk.specs.declared.Head.{Head}
use Rattle.walk.proofs.WalkLaws.{head-some, head-none}
use Rattle.lldpdu.specs.Extent.{length_at, port_place, is_chassis, is_port}
use Rattle.lldpdu.specs.Leading.{leading, leading_behind_chassis, leading_behind_port, leading_of}
use Rattle.lldpdu.proofs.ExtentLaws.{there}
use Rattle.lldpdu.proofs.LeadingLaws.{Behind, behind-first, behind-second, first-short, second-short, third-short, first-judged, second-judged, third-judged}
use Rattle.lldpdu.proofs.leading.leading_of.Goals as goal

-- TLV 1 as it should be: where TLV 2 begins, and what then decides
module _ (s : List ℕ) {h : Head} {t : Bool} (e : head_of (drop 0 s) ≡ Some h) (q : t ≡ is_chassis s h.kind) (w : t ≡ true) where
  first : (2 + h.len ≡ port_place s) × ((1 ≤ length_at s 0) × (2 + h.len < 1000))
  first = behind-first s e (sym q ∙ w)

  then-second : leading_of s ≡ leading_behind_chassis s
  then-second = first-judged s e q w

  -- TLV 2 as it should be
  module _ {i : Head} {u : Bool} (f : head_of (drop (2 + h.len) s) ≡ Some i) (r : u ≡ is_port s i.kind) (v : u ≡ true) where
    second : Behind s (2 + h.len) (2 + h.len + 2 + i.len)
    second = behind-second s first.0 first.1.0 first.1.1 f (sym r ∙ v)

    then-third : leading_of s ≡ leading_behind_port s
    then-third = then-second ∙ second-judged s first.0 f r v

pub is_chassis-requires : goal.is_chassis-requires
is_chassis-requires c = there c.args.s.now 0 (head-some c.head_at.ensures c.ok_or.ensures.value c.in_ok-chassis_head.was)

pub returns-in_err-chassis_head : goal.returns-in_err-chassis_head
returns-in_err-chassis_head c =
    let p = err_from_is_err_and c.from_residual.result c.from_residual.ensures.1 in
    let none = head-none c.head_at.ensures c.ok_or.ensures.value c.in_err-chassis_head.was in
    rw (p.1, p.2, none.1, first-short c.args.s.now none.0)

pub returns-then-not-is_chassis : goal.returns-then-not-is_chassis
returns-then-not-is_chassis c =
    let e = head-some c.head_at.ensures c.ok_or.ensures.value c.in_ok-chassis_head.was in
    sym (first-judged c.args.s.now e c.is_chassis.ensures c.if-not-is_chassis.true)

pub overflow_add-port : goal.overflow_add-port
overflow_add-port c =
    let e = head-some c.head_at.ensures c.ok_or.ensures.value c.in_ok-chassis_head.was in
    omega (arith, first c.args.s.now e c.is_chassis.ensures c.if-not-is_chassis.false)

pub returns-in_err-port_head : goal.returns-in_err-port_head
returns-in_err-port_head c =
    let s = c.args.s.now in
    let e = head-some c.head_at.ensures c.ok_or.ensures.value c.in_ok-chassis_head.was in
    let p = err_from_is_err_and c.from_residual-in_err-port_head.result c.from_residual-in_err-port_head.ensures.1 in
    let none = head-none c.head_at-2.ensures c.ok_or-2.ensures.value c.in_err-port_head.was in
    let a = first s e c.is_chassis.ensures c.if-not-is_chassis.false in
    rw (p.1, p.2, none.1, then-second s e c.is_chassis.ensures c.if-not-is_chassis.false, second-short s a.0 none.0)

pub is_port-requires : goal.is_port-requires
is_port-requires c =
    let s = c.args.s.now in
    let e = head-some c.head_at.ensures c.ok_or.ensures.value c.in_ok-chassis_head.was in
    let a = first s e c.is_chassis.ensures c.if-not-is_chassis.false in
    (a.0, there s _ (head-some c.head_at-2.ensures c.ok_or-2.ensures.value c.in_ok-port_head.was))

pub returns-then-not-is_port : goal.returns-then-not-is_port
returns-then-not-is_port c =
    let s = c.args.s.now in
    let e = head-some c.head_at.ensures c.ok_or.ensures.value c.in_ok-chassis_head.was in
    let f = head-some c.head_at-2.ensures c.ok_or-2.ensures.value c.in_ok-port_head.was in
    let a = first s e c.is_chassis.ensures c.if-not-is_chassis.false in
    sym (then-second s e c.is_chassis.ensures c.if-not-is_chassis.false ∙ second-judged s a.0 f c.is_port.ensures c.if-not-is_port.true)

pub overflow_add-seconds : goal.overflow_add-seconds
overflow_add-seconds c =
    let e = head-some c.head_at.ensures c.ok_or.ensures.value c.in_ok-chassis_head.was in
    omega (arith, first c.args.s.now e c.is_chassis.ensures c.if-not-is_chassis.false)

pub overflow_add-seconds-2 : goal.overflow_add-seconds-2
overflow_add-seconds-2 c =
    let e = head-some c.head_at.ensures c.ok_or.ensures.value c.in_ok-chassis_head.was in
    let f = head-some c.head_at-2.ensures c.ok_or-2.ensures.value c.in_ok-port_head.was in
    let b = second c.args.s.now e c.is_chassis.ensures c.if-not-is_chassis.false f c.is_port.ensures c.if-not-is_port.false in
    omega (arith, b.near)

pub returns-in_err-seconds_head : goal.returns-in_err-seconds_head
returns-in_err-seconds_head c =
    let s = c.args.s.now in
    let e = head-some c.head_at.ensures c.ok_or.ensures.value c.in_ok-chassis_head.was in
    let f = head-some c.head_at-2.ensures c.ok_or-2.ensures.value c.in_ok-port_head.was in
    let p = err_from_is_err_and c.from_residual-in_err-seconds_head.result c.from_residual-in_err-seconds_head.ensures.1 in
    let none = head-none c.head_at-3.ensures c.ok_or-3.ensures.value c.in_err-seconds_head.was in
    let b = second s e c.is_chassis.ensures c.if-not-is_chassis.false f c.is_port.ensures c.if-not-is_port.false in
    let on = then-third s e c.is_chassis.ensures c.if-not-is_chassis.false f c.is_port.ensures c.if-not-is_port.false in
    rw (p.1, p.2, none.1, on, third-short s b.third none.0)

pub returns-then-not-seconds_fit : goal.returns-then-not-seconds_fit
returns-then-not-seconds_fit c =
    let s = c.args.s.now in
    let e = head-some c.head_at.ensures c.ok_or.ensures.value c.in_ok-chassis_head.was in
    let f = head-some c.head_at-2.ensures c.ok_or-2.ensures.value c.in_ok-port_head.was in
    let g = head-some c.head_at-3.ensures c.ok_or-3.ensures.value c.in_ok-seconds_head.was in
    let b = second s e c.is_chassis.ensures c.if-not-is_chassis.false f c.is_port.ensures c.if-not-is_port.false in
    let on = then-third s e c.is_chassis.ensures c.if-not-is_chassis.false f c.is_port.ensures c.if-not-is_port.false in
    sym (on ∙ third-judged s b.third g c.seconds_fit.ensures c.if-not-seconds_fit.true)

pub returns : goal.returns
returns c =
    let s = c.args.s.now in
    let e = head-some c.head_at.ensures c.ok_or.ensures.value c.in_ok-chassis_head.was in
    let f = head-some c.head_at-2.ensures c.ok_or-2.ensures.value c.in_ok-port_head.was in
    let g = head-some c.head_at-3.ensures c.ok_or-3.ensures.value c.in_ok-seconds_head.was in
    let b = second s e c.is_chassis.ensures c.if-not-is_chassis.false f c.is_port.ensures c.if-not-is_port.false in
    let on = then-third s e c.is_chassis.ensures c.if-not-is_chassis.false f c.is_port.ensures c.if-not-is_port.false in
    ap₂ (λ (p n : ℕ). Ok (leading p n)) b.second b.third ∙ sym (on ∙ third-judged s b.third g c.seconds_fit.ensures c.if-not-seconds_fit.false)
