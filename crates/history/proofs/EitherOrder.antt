-- Two frames on different ports in either order (E1 to E5), for the code: of any four calls of `frame_on_port` with outcomes that its contract allows.
-- One table takes x and then y, the other one y' and then x', which are the same frames on the same ports; nobody writes to a table in between.
use Prim.Native.Nat.{ℕ, ◌≤◌}
use mathlib.Core.Path.{◌≡◌, refl, sym, ap, ap₂, ◌∙◌}
use mathlib.Core.Logic.{◌≢◌, inl, ◌↔◌}
use mathlib.Core.Bool.{false}
use mathlib.Core.List.{List}
use Rattle.std.specs.Prelude.{Ok, Err}
use Rattle.refusal.specs.declared.Refusal.{Refusal}
use Rattle.refusal.specs.declared.Refusal.TheVariants.{Unfit, NoPort, CommonTaken}
use Rattle.rules.specs.Identity.{Ident}
use Rattle.rules.specs.Events.{Heard, History}
use Rattle.rules.specs.Model.{Places, lookup, holds_in, reply, after_frame}
use Rattle.rules.specs.EitherOrder.{Alike, LastPlace, FreedPlace, OrderMatters, Other, OneAtMost, OtherOrder}
use Rattle.rules.specs.Answers.{Answered}
use Rattle.rules.specs.declared.Reply.TheVariants.{Recorded, Gone}
use Rattle.rules.proofs.EitherOrderLaws as model
use Rattle.rules.proofs.RecordsLaws.{same-itself}
use Rattle.numbers.specs.Sizes.{ports}
use Rattle.place.specs.State.{State}
use Rattle.fitness.specs.Fit.{fit}
use Rattle.fitness.specs.View.{view}
use Rattle.hearing.specs.Frame.{heard_of, Told, telling, state_told, heard}
use Rattle.hearing.proofs.ReplyLaws.{heard-unfit, heard-port}
use Rattle.table.proofs.StepLaws.{Kept, kept-fit, view-fit}
use Rattle.history.proofs.CallsLaws.{reached, other-order-table}
use Rattle.history.proofs.Runs.{Ran, ran-called}
use Rattle.history.proofs.BothOrders.{BothOrders, CodeAlike, CodeMatters}
use Rattle.history.proofs.TwoTables.{FrameCall, before, behind, port_of, octets_of, answer_of, told_by, is-step, SameTables}

-- Two calls that follow one another

is-second : (c d : FrameCall) → Kept (before c) → before d ≡ behind c → (p q : ℕ) (f g : List ℕ) → port_of c ≡ p → octets_of c ≡ f → port_of d ≡ q → octets_of d ≡ g
    → (answer_of c ≡ reply ports p (heard_of f) (view (before c)))
    × ((answer_of d ≡ reply ports q (heard_of g) (after_frame ports p (heard_of f) (view (before c))))
    × (view (behind d) ≡ after_frame ports q (heard_of g) (after_frame ports p (heard_of f) (view (before c)))))
is-second c d k e p q f g i j l m =
    let s = is-step c k in
    let u = is-step d (rw e s.step.kept) in
    let v : view (before d) ≡ after_frame ports (port_of c) (heard_of (octets_of c)) (view (before c)) = ap view e ∙ s.step.seen in
    rw (← i, ← j, ← l, ← m) (s.answer, (u.answer ∙ ap (reply ports (port_of d) (heard_of (octets_of d))) v, u.step.seen ∙ ap (after_frame ports (port_of d) (heard_of (octets_of d))) v))

-- Fit tables with the same records, whose arrays have their length (as every array has)

module _ (x y y' x' : FrameCall) (o : BothOrders x y y' x') (t : SameTables (before x) (before y')) where
  abbrev p : ℕ
  p = port_of x

  abbrev q : ℕ
  q = port_of y

  abbrev ModelAlike : Type 0
  ModelAlike = Alike ports (view (before x)) (view (before y')) (port_of x) (heard_of (octets_of x)) (port_of y) (heard_of (octets_of y))

  by-model : CodeAlike x y y' x' ↔ ModelAlike
  by-model =
      let a = is-second x y t.kept o.next (port_of x) (port_of y) (octets_of x) (octets_of y) refl refl refl refl in
      let b = is-second y' x' t.kept-too o.next-too (port_of y) (port_of x) (octets_of y) (octets_of x) o.same-port-y o.same-frame-y o.same-port-x o.same-frame-x in (
        λ c. record { answer_x = sym a.0 ∙ c.answer_x ∙ b.1.0; answer_y = sym a.1.0 ∙ c.answer_y ∙ b.0; records = rw (← a.1.1, ← b.1.1) c.records },
        λ m. record { answer_x = a.0 ∙ m.answer_x ∙ sym b.1.0; answer_y = a.1.0 ∙ m.answer_y ∙ sym b.0; records = rw (a.1.1, b.1.1) m.records },
      )

  -- what E2 says of the one table it says of the other
  pub code-same-matters : CodeMatters x y → OrderMatters ports (view (before y')) p (heard_of (octets_of x)) q (heard_of (octets_of y))
  code-same-matters = model.same-matters ports (view (before x)) (view (before y')) (view-fit (before x) t.kept) (view-fit (before y') t.kept-too) t.records p (heard_of (octets_of x)) q (heard_of (octets_of y)) o.apart

  -- nobody else has another record in the one order than in the other
  pub code-nobody-else : (w : Ident) → Other w p (heard_of (octets_of x)) → Other w q (heard_of (octets_of y)) → lookup w (view (behind y)) ≡ lookup w (view (behind x'))
  code-nobody-else w i j =
      let a = is-second x y t.kept o.next p q (octets_of x) (octets_of y) refl refl refl refl in
      let b = is-second y' x' t.kept-too o.next-too q p (octets_of y) (octets_of x) o.same-port-y o.same-frame-y o.same-port-x o.same-frame-x in
      ap (lookup w) a.1.1
      ∙ model.nobody-else ports (view (before x)) (view (before y')) (view-fit (before x) t.kept) (view-fit (before y') t.kept-too) t.records p (heard_of (octets_of x)) q (heard_of (octets_of y)) o.apart w i j
      ∙ sym (ap (lookup w) b.1.1)

  -- E2, both ways
  pub code-exactly : (¬ CodeAlike x y y' x') ↔ CodeMatters x y
  code-exactly =
      let e = model.exactly ports (view (before x)) (view (before y')) (view-fit (before x) t.kept) (view-fit (before y') t.kept-too) t.records p (heard_of (octets_of x)) q (heard_of (octets_of y)) o.apart in
      (λ h. e.0 (λ m. h (by-model.1 m)), λ m c. e.1 m (by-model.0 c))

  pub code-exactly-alike : CodeAlike x y y' x' ↔ (¬ CodeMatters x y)
  code-exactly-alike =
      let e = model.exactly-alike ports (view (before x)) (view (before y')) (view-fit (before x) t.kept) (view-fit (before y') t.kept-too) t.records p (heard_of (octets_of x)) q (heard_of (octets_of y)) o.apart in
      (λ c. e.0 (by-model.0 c), λ h. by-model.1 (e.1 h))

  -- E3
  pub code-one-at-most : OneAtMost (view (before x)) p q → CodeAlike x y y' x'
  code-one-at-most h =
      by-model.1
      (model.one_at_most ports (view (before x)) (view (before y')) (view-fit (before x) t.kept) (view-fit (before y') t.kept-too) t.records p (heard_of (octets_of x)) q (heard_of (octets_of y)) o.apart h)

  -- as it was asked for: "if each of the two ports holds at most one record before"
  pub code-each-at-most-one : holds_in (view (before x)) p ≤ 1 → holds_in (view (before x)) q ≤ 1 → CodeAlike x y y' x'
  code-each-at-most-one h h' = code-one-at-most (inl h)

-- What one order answers where it matters

module _ (c d : FrameCall) (e : before d ≡ behind c) (k : Kept (before c)) (a : port_of c ≢ port_of d) where
  abbrev t : Places
  t = view (before c)

  abbrev c-says : Heard
  c-says = heard_of (octets_of c)

  abbrev d-says : Heard
  d-says = heard_of (octets_of d)

  answers : (r r' : Answered) → reply ports (port_of c) c-says t ≡ r → reply ports (port_of d) d-says (after_frame ports (port_of c) c-says t) ≡ r'
      → (answer_of c ≡ r) × (answer_of d ≡ r')
  answers r r' i j = let b = is-second c d k e (port_of c) (port_of d) (octets_of c) (octets_of d) refl refl refl refl in (b.0 ∙ i, b.1.0 ∙ j)

  -- (a): the first is recorded, and the second gets 8
  pub code-first-recorded : LastPlace ports t (port_of c) c-says (port_of d) d-says → (answer_of c ≡ Ok Recorded) × (answer_of d ≡ Err CommonTaken)
  code-first-recorded h =
      let m = model.first-recorded ports t (view-fit (before c) k) (port_of c) c-says (port_of d) d-says a h in
      answers (Ok Recorded) (Err CommonTaken) m.first m.second

  -- (b): behind the goodbye the other frame is recorded, and before it it gets 8
  pub code-recorded-behind : FreedPlace ports t (port_of c) c-says (port_of d) d-says → (answer_of c ≡ Ok Gone) × (answer_of d ≡ Ok Recorded)
  code-recorded-behind h =
      let m = model.recorded-behind ports t (view-fit (before c) k) (port_of c) c-says (port_of d) d-says a h in
      answers (Ok Gone) (Ok Recorded) m.gone m.behind

  pub code-refused-before : FreedPlace ports t (port_of d) d-says (port_of c) c-says → (answer_of c ≡ Err CommonTaken) × (answer_of d ≡ Ok Gone)
  code-refused-before h =
      let m = model.recorded-behind ports t (view-fit (before c) k) (port_of d) d-says (port_of c) c-says (λ z. a (sym z)) h in
      answers (Err CommonTaken) (Ok Gone) m.before m.gone_too

-- Which tables these are

-- one table
pub same-table : (s : State) → Kept s → SameTables s s
same-table s k = record { kept = k; kept-too = k; records = same-itself (view s) (view-fit s k).once }

pub run-kept : {s : State} {h : History} → Ran s h → Kept s
run-kept c = (reached (ran-called c)).kept

-- two computers after runs of which the one becomes the other where such pairs change places, or after the same run (`same-order`)
pub code-other-order : {s s' : State} {h h' : History} → Ran s h → Ran s' h' → OtherOrder ports h h' → SameTables s s'
code-other-order c c' o = record { kept = run-kept c; kept-too = run-kept c'; records = other-order-table (ran-called c) (ran-called c') o }

-- Tables that are not fit, and ports that there are not (E4)

-- both frames get the refusal k in both orders, and nothing changes
pub record BothRefused (k : Refusal) (x y y' x' : FrameCall) : Type 0 where
  pub answer_x : answer_of x ≡ Err k
  pub answer_y : answer_of y ≡ Err k
  pub left : behind y ≡ before x
  pub answer-y-too : answer_of y' ≡ Err k
  pub answer_x_too : answer_of x' ≡ Err k
  pub left_too : behind x' ≡ before y'

pub code-unfit : (x y y' x' : FrameCall) → BothOrders x y y' x' → fit (before x) ≡ false → fit (before y') ≡ false → BothRefused Unfit x y y' x'
code-unfit x y y' x' o u u' =
    let a = twice x y o.next u in
    let b = twice y' x' o.next-too u' in
    record { answer_x = a.0; answer_y = a.1.0; left = a.1.1; answer-y-too = b.0; answer_x_too = b.1.0; left_too = b.1.1 }
  where
    once : (c : FrameCall) → fit (before c) ≡ false → told_by c ≡ telling (Err Unfit) (before c)
    once c f = c.post.exact ∙ sym (heard-unfit (port_of c) (octets_of c) (before c) f)

    twice : (c d : FrameCall) → before d ≡ behind c → fit (before c) ≡ false → (answer_of c ≡ Err Unfit) × ((answer_of d ≡ Err Unfit) × (behind d ≡ before c))
    twice c d e f =
        let h = once c f in
        let g : before d ≡ before c = e ∙ ap state_told h in
        let k = once d (ap fit g ∙ f) in
        (ap (λ (t : Told). t.outcome.reply) h, (ap (λ (t : Told). t.outcome.reply) k, ap state_told k ∙ g))

-- x gets 2 in both orders and changes nothing, and y is answered and leaves the table as if it came alone: as y', which nothing came before
pub record CodeAlone (x y y' x' : FrameCall) : Type 0 where
  pub answer_x : answer_of x ≡ Err NoPort
  pub unchanged : behind x ≡ before x
  pub answer_x_too : answer_of x' ≡ Err NoPort
  pub answer_y : answer_of y ≡ answer_of y'
  pub left : behind y ≡ behind y'
  pub left_too : behind x' ≡ behind y'

pub code-no-port : (x y y' x' : FrameCall) → BothOrders x y y' x' → before y' ≡ before x → Kept (before x) → ports ≤ port_of x → CodeAlone x y y' x'
code-no-port x y y' x' o e k l =
    record {
      answer_x = ap (λ (t : Told). t.outcome.reply) first;
      unchanged = ap state_told first;
      answer_x_too = ap (λ (t : Told). t.outcome.reply) last;
      answer_y = ap (λ (t : Told). t.outcome.reply) both;
      left = ap state_told both;
      left_too = ap state_told last ∙ o.next-too;
    }
  where
    first : told_by x ≡ telling (Err NoPort) (before x)
    first = x.post.exact ∙ sym (heard-port (port_of x) (octets_of x) (before x) (kept-fit (before x) k) l)

    both : told_by y ≡ told_by y'
    both =
        y.post.exact
        ∙ ap (heard (port_of y) (octets_of y)) (o.next ∙ ap state_told first ∙ sym e)
        ∙ ap₂ (λ (q : ℕ) (g : List ℕ). heard q g (before y')) (sym o.same-port-y) (sym o.same-frame-y)
        ∙ sym y'.post.exact

    kept' : Kept (before x')
    kept' = rw o.next-too (is-step y' (rw e k)).step.kept

    last : told_by x' ≡ telling (Err NoPort) (before x')
    last = x'.post.exact ∙ sym (heard-port (port_of x') (octets_of x') (before x') (kept-fit (before x') kept') (rw o.same-port-x l))

pub code-no-ports : (x y y' x' : FrameCall) → BothOrders x y y' x' → before y' ≡ before x → Kept (before x) → ports ≤ port_of x → ports ≤ port_of y → BothRefused NoPort x y y' x'
code-no-ports x y y' x' o e k l m =
    let a = code-no-port x y y' x' o e k l in
    let b = code-no-port y' x' x y turned (sym e) (rw e k) (rw o.same-port-y m) in
    record {
      answer_x = a.answer_x;
      answer_y = b.answer_x_too;
      left = a.left ∙ b.unchanged ∙ e;
      answer-y-too = b.answer_x;
      answer_x_too = a.answer_x_too;
      left_too = a.left_too ∙ b.unchanged;
    }
  where
    turned : BothOrders y' x' x y
    turned =
        record {
          next = o.next-too;
          next-too = o.next;
          same-port-x = sym o.same-port-y;
          same-frame-x = sym o.same-frame-y;
          same-port-y = sym o.same-port-x;
          same-frame-y = sym o.same-frame-x;
          apart = λ z. o.apart (sym o.same-port-x ∙ sym z ∙ o.same-port-y);
        }
