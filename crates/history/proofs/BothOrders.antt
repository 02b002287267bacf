-- Four calls that take two frames on different ports in both orders, and when what they answer and leave is alike (E1, E2).
-- They are what EitherOrder.antt proves of the code; the calls are any that the contract of `frame_on_port` allows.
use mathlib.Core.Path.{◌≡◌}
use mathlib.Core.Logic.{◌≢◌}
use Rattle.rules.specs.Records.{records_in, SameRecords}
use Rattle.rules.specs.EitherOrder.{OrderMatters}
use Rattle.numbers.specs.Sizes.{ports}
use Rattle.fitness.specs.View.{view}
use Rattle.hearing.specs.Frame.{heard_of}
use Rattle.history.proofs.TwoTables.{FrameCall, before, behind, port_of, octets_of, answer_of}

pub record BothOrders (x y y' x' : FrameCall) : Type 0 where
  pub next : before y ≡ behind x
  pub next-too : before x' ≡ behind y'
  pub same-port-x : port_of x' ≡ port_of x
  pub same-frame-x : octets_of x' ≡ octets_of x
  pub same-port-y : port_of y' ≡ port_of y
  pub same-frame-y : octets_of y' ≡ octets_of y
  pub apart : port_of x ≢ port_of y

-- E1
pub record CodeAlike (x y y' x' : FrameCall) : Type 0 where
  pub answer_x : answer_of x ≡ answer_of x'
  pub answer_y : answer_of y ≡ answer_of y'
  pub records : SameRecords (records_in (view (behind y))) (records_in (view (behind x')))

-- E2, of the table before the one order
abbrev pub CodeMatters : FrameCall → FrameCall → Type 0
CodeMatters x y = OrderMatters ports (view (before x)) (port_of x) (heard_of (octets_of x)) (port_of y) (heard_of (octets_of y))
