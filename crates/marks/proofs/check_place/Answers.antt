-- `marks::check_place` meets its contract: the numbers decide whether a free or a used place is looked at.
-- The octets of the place are handed on in two parts, however many there are (rest-whole).
use Prim.Native.Nat.{ℕ}
use mathlib.Core.Path.{◌≡◌, sym, ap, ap₂, ◌∙◌}
use mathlib.Core.List.{List}
use native.Mathlib.Omega.{arith}
use lib.ListN.{length, take, drop}
use Rattle.place.specs.State.{Place}
use Rattle.marks.specs.Marks.{check_used}
use Rattle.marks.proofs.CheckLaws.{rest-whole, place-free, place-used}
use Rattle.marks.proofs.check_place.Goals as goal

-- the place that is asked about
abbrev place : ℕ → ℕ → ℕ → List ℕ → List ℕ → Place
place p left n sender b = record { port = p; seconds = left; len = n; sender = sender; body = b }

pub returns-then-length-eq0 : goal.returns-then-length-eq0
returns-then-length-eq0 c =
    c.check_free.ensures ∙ place-free (place c.args.p c.args.left c.args.length c.args.sender c.args.b.now) (omega arith)

pub returns : goal.returns
returns c =
    let x = place c.args.p c.args.left c.args.length c.args.sender c.args.b.now in
    let front : c.text_of-l.result.now ≡ take x.len x.body = c.text_of-l.ensures ∙ ap (λ (n : ℕ). take n x.body) c.from-n.ensures in
    let behind : c.text_of-rest.result.now ≡ take (length x.body) (drop x.len x.body) =
    c.text_of-rest.ensures ∙ ap (λ (n : ℕ). take (length x.body) (drop n x.body)) c.from-n.ensures in
    c.check_used.ensures
    ∙ ap₂ (check_used x.port x.seconds) front (behind ∙ rest-whole x.len x.body)
    ∙ place-used x (λ e. omega arith) (omega arith) (sym c.is_group.ensures ∙ c.if-is_group.false) (omega arith)
