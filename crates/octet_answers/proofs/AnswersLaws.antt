-- Laws of answers as octets: a refusal, an answer that fills its slice, and that an answer's octets tell which one it was.
-- Each is said over what the code has in hand when it returns.
use Prim.Native.Nat.{ℕ, ◌+◌, ◌*◌, ◌/◌, ◌%◌, ◌<◌}
use mathlib.Core.Path.{◌≡◌, refl, sym, ap, ap₂, ◌∙◌}
use mathlib.Core.List.{List, [], ◌∷◌, ◌++◌, append-nil}
use mathlib.Core.Option.{Option, none, some}
use native.Mathlib.Omega.{arith}
use lib.Dec.{eqb}
use lib.ListN.{length, get_or, set, take, drop, drop_of_length-le}
use Rattle.tally.specs.Tests.{pick}
use Rattle.octets.specs.Numbers.{pair_of, value_from, value_of, four_octets}
use Rattle.naming.specs.declared.Number.{Number}
use Rattle.rules.specs.declared.Reply.{Reply}
use Rattle.rules.specs.declared.Reply.TheVariants.{Recorded, Refreshed, Gone, UnknownGoodbye}
use Rattle.output.specs.declared.Output.{Output as Lent}
use Rattle.output.specs.Output.{Put, seen, Output, output_at, puts}
use Rattle.output.proofs.OutputLaws.{puts-fits}
use Rattle.std.specs.Prelude.{Result, Ok, Err, ⊤}
use Rattle.refusal.specs.Refusal.{refusal_of, numbered}
use Rattle.refusal.specs.declared.Refusal.{Refusal}
use Rattle.refusal.specs.declared.NoRefusal.{NoRefusal}
use Rattle.refusal.specs.declared.Refusal.TheVariants.{Unfit, NoPort, NoFrame, NotAsDue, RunsPast, OutOfPlace, PortFull, CommonTaken, BreaksARule, NoRoom, NoCapture, Torn, ChassisLoud, TooShort}
use Rattle.octet_answers.specs.Answers.{in_numbers, number_in, back, written_octets, place_octets, reply_octets, compared_octets}

-- octets that are put into a slice of their length are what it then holds
pub put_whole : (x l : List ℕ) {y : List ℕ} {at : ℕ} → length l ≡ length x → output_at y at ≡ puts x (output_at l 0) → y ≡ x
put_whole x l h e =
    ap (λ (o : Output). o.octets) (e ∙ puts-fits x l 0 (omega (arith, h)))
    ∙ ap (λ (k : List ℕ). x ++ k) (drop_of_length-le l {i = 0 + length x} (omega (arith, h)))
    ∙ append-nil x

-- the same of what the code put into an output of a slice l; y is what the slice then holds
pub filled : (x l : List ℕ) {y : List ℕ} {o p : Lent} → length l ≡ length x → seen o ≡ output_at l 0 → Put x o p → y ≡ p.octets.now → y ≡ x
filled x l {y} {o} {p} h e d f = f ∙ put_whole x l h (d.put ∙ ap (puts x) e)

-- one octet stored in a slice of one
pub set-one : (l : List ℕ) (b : ℕ) → length l ≡ 1 → set l 0 b ≡ b ∷ []
set-one [] b e = absurd (omega (arith, e))
set-one (x ∷ []) b e = refl
set-one (x ∷ y ∷ l) b e = absurd (omega (arith, e))

pub one-slice : {x y : List ℕ} → x ≡ y → ◌≡◌ {A = List (List ℕ)} (x ∷ []) (y ∷ [])
one-slice e = ap (λ (l : List ℕ). l ∷ []) e

pub two-slices : {x y u v : List ℕ} → x ≡ y → u ≡ v → ◌≡◌ {A = List (List ℕ)} (x ∷ u ∷ []) (y ∷ v ∷ [])
two-slices e f = ap₂ (λ (l m : List ℕ). l ∷ m ∷ []) e f

-- What is handed over in numbers gives the number and the octets that it gives by its refusals

pub written-numbers : (x : Result ℕ Refusal) (a : List ℕ) → back (number_in (in_numbers x)) (written_octets (in_numbers x) a ∷ []) ≡ back (refusal_of x) (written_octets x a ∷ [])
written-numbers (Ok n) a = refl
written-numbers (Err r) a = refl

pub reply-numbers : (x : Result Reply Refusal) (a : List ℕ) → back (number_in (in_numbers x)) (reply_octets (in_numbers x) a ∷ []) ≡ back (refusal_of x) (reply_octets x a ∷ [])
reply-numbers (Ok r) a = refl
reply-numbers (Err r) a = refl

pub compared-numbers : (x : Result ℕ Refusal) (a : List ℕ) → back (number_in (in_numbers x)) (compared_octets (in_numbers x) a ∷ []) ≡ back (refusal_of x) (compared_octets x a ∷ [])
compared-numbers (Ok n) a = refl
compared-numbers (Err r) a = refl

-- An answer's octets tell which one it was

-- the answer to a frame that has a code
abbrev pub reply_in : ℕ → Option Reply
reply_in n =
    pick (eqb n 1) (some Recorded)
    (pick (eqb n 2) (some Refreshed) (pick (eqb n 3) (some Gone) (pick (eqb n 4) (some UnknownGoodbye) none)))

pub reply-back : (r : Reply) (a : List ℕ) → reply_in (get_or (reply_octets {E = Refusal} (Ok r) a) 0 0) ≡ some r
reply-back Recorded a = refl
reply-back Refreshed a = refl
reply-back Gone a = refl
reply-back UnknownGoodbye a = refl

-- and what is returned tells which refusal it was, or that it was none
unrefused : Result Refusal NoRefusal → Result ⊤ Refusal
unrefused (Ok r) = Err r
unrefused (Err n) = Ok _

returned-back : (x : Result ⊤ Refusal) → unrefused (numbered (refusal_of x)) ≡ x
unfolding unrefused
returned-back (Ok u) = refl
returned-back (Err Unfit) = refl
returned-back (Err NoPort) = refl
returned-back (Err NoFrame) = refl
returned-back (Err NotAsDue) = refl
returned-back (Err RunsPast) = refl
returned-back (Err OutOfPlace) = refl
returned-back (Err PortFull) = refl
returned-back (Err CommonTaken) = refl
returned-back (Err BreaksARule) = refl
returned-back (Err NoRoom) = refl
returned-back (Err NoCapture) = refl
returned-back (Err Torn) = refl
returned-back (Err ChassisLoud) = refl
returned-back (Err TooShort) = refl

pub returned-apart : (x y : Result ⊤ Refusal) → refusal_of x ≡ refusal_of y → x ≡ y
returned-apart x y e = sym (returned-back x) ∙ ap (λ (n : ℕ). unrefused (numbered n)) e ∙ returned-back y

-- a number of up to four octets, at a place of an answer
pub record NumberAt (o : List ℕ) (at : ℕ) (n : Number) : Type 0 where
  pub count : get_or o at 0 ≡ n.octets
  pub value : value_of (take 4 (drop (at + 1) o)) ≡ n.value

-- somebody, the place and both numbers
pub record PlaceAt (o : List ℕ) (k : ℕ) (interface port : Number) : Type 0 where
  pub seen : get_or o 0 0 ≡ 1
  pub place : pair_of (get_or o 1 0) (get_or o 2 0) ≡ k
  pub interface-type : NumberAt o 3 interface
  pub port-number : NumberAt o 8 port

-- the lowest octet behind the others
behind : (n : ℕ) → n / 256 * 256 + n % 256 ≡ n
behind n = omega arith

four-back : (n : ℕ) → n < 4294967296 → value_of (four_octets n) ≡ n
unfolding value_from
four-back n h =
    let b : n / 65536 ≡ n / 256 / 256 = omega arith in
    let c : n / 16777216 ≡ n / 256 / 256 / 256 = omega arith in
    let top : 0 * 256 + n / 256 / 256 / 256 % 256 ≡ n / 256 / 256 / 256 = omega (arith, c, h) in
    rw (b, c)
    (ap (λ (y : ℕ). ((y * 256 + n / 256 / 256 % 256) * 256 + n / 256 % 256) * 256 + n % 256) top
    ∙ ap (λ (y : ℕ). (y * 256 + n / 256 % 256) * 256 + n % 256) (behind (n / 256 / 256))
    ∙ ap (λ (y : ℕ). y * 256 + n % 256) (behind (n / 256))
    ∙ behind n)

abbrev Short : Number → Type 0
Short n = (n.octets < 256) × (n.value < 4294967296)

pub place-back : (k : ℕ) (i p : Number) → k < 65536 → Short i → Short p → PlaceAt (place_octets k i p) k i p
place-back k i p h u v =
    record {
      seen = refl;
      place = omega arith;
      interface-type = record { count = omega (arith, u.0); value = four-back i.value u.1 };
      port-number = record { count = omega (arith, v.0); value = four-back p.value v.1 };
    }
