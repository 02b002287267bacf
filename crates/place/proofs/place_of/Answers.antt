-- `place::place_of` meets its contract: the first place whose record has the identity (found).
-- What the code asks of a place is what the state says of it (there-of).
use Prim.Native.Nat.{ℕ}
use mathlib.Core.Path.{◌≡◌}
use mathlib.Core.Bool.{Bool, true, false}
use native.Mathlib.Omega.{arith}
use borrow.Author.Tests.{tests}
use borrow.Author.Rules.{rules}
use Rattle.std.proofs.lemmas.Iterator.{first_from_Range}
use Rattle.ids.specs.Id.{id_meant}
use Rattle.place.specs.State.{state, at, ident, lldpdu_in, record_is, is_of, find, place_found}
use Rattle.place.proofs.FoundLaws.{found}
use Rattle.place.proofs.ThereLaws.{there-of}
use Rattle.place.proofs.WhoseLaws.{of_by}
use Rattle.place.proofs.place_of.Goals as goal

pub returns : goal.returns
unfolding find at
returns c =
    let a = c.args in
    let s = state a.t a.buffer.now in
    let w = ident a.p (id_meant a.text.now a.chassis) (id_meant a.text.now a.port) in
    let asked : ℕ → Bool = λ k. record_is (at s k).len (at s k).port (lldpdu_in s.buf k (at s k).len) w in
    let first : c.find.result ≡ place_found (find s w) =
    found (is_of s w) asked (λ k l. there-of s k l w) c.find.result
    (first_from_Range _ _ _ c.find.result (λ k. asked k ≡ true) (λ k. asked k ≡ false) c.find.ensures.ran (λ x q k. search (rules, tests)) (λ x q k. search (rules, tests, of_by))) in
    grind (arith, first)
