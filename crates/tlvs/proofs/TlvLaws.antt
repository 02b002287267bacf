-- Laws of one TLV: its octets as the code puts them.
-- The code has the counts in hand; the definitions count the octets of an information string.
use Prim.Native.Nat.{ℕ, ◌+◌, ◌/◌, ◌<◌, ◌≤◌}
use mathlib.Core.Path.{◌≡◌, refl, sym, ap, ◌∙◌}
use mathlib.Core.List.{List, [], ◌∷◌, ◌++◌, append-nil, append_assoc}
use mathlib.Core.Option.{none, some}
use mathlib.Core.Bool.{Bool, true, false}
use native.Mathlib.Omega.{arith}
use borrow.Author.Tests.{le-leb, lt-leb}
use lib.ListN.{length, get_or, length-append}
use Rattle.tally.specs.Tests.{pick}
use Rattle.tally.proofs.TestsLaws.{all-fails}
use Rattle.octets.specs.Header.{high, low}
use Rattle.walk.specs.Walk.{Tlv}
use Rattle.found.specs.Contents.{LinkInfo}
use Rattle.tlvs.specs.Tlvs.{written, octets_of, device_tlv, link_content, link_tlv, list_tlv, unless_empty, if_linked, if_listed, countable, link_counts, countable_link, countable_list}

-- One TLV, and none

pub one-octets : (t : Tlv) → octets_of (t ∷ []) ≡ written t
unfolding octets_of
one-octets t = append-nil (written t)

none-at : (f : List ℕ → Tlv) (x : List ℕ) → length x ≡ 0 → [] ≡ octets_of (unless_empty f x)
unfolding octets_of
none-at f [] e = refl
none-at f (y ∷ l) e = absurd (omega arith)

some_at : (f : List ℕ → Tlv) (x : List ℕ) → (length x ≡ 0 → ⊥) → written (f x) ≡ octets_of (unless_empty f x)
some_at f [] h = absurd (h refl)
some_at f (y ∷ l) h = sym (one-octets (f (y ∷ l)))

-- of a string x that the code has in hand for y
module _ (f : List ℕ → Tlv) {x y : List ℕ} (q : x ≡ y) where
  pub none-octets : length x ≡ 0 → [] ≡ octets_of (unless_empty f y)
  none-octets e = none-at f x e ∙ ap (λ (l : List ℕ). octets_of (unless_empty f l)) q

  pub some-octets : (length x ≡ 0 → ⊥) → written (f x) ≡ octets_of (unless_empty f y)
  some-octets h = some_at f x h ∙ ap (λ (l : List ℕ). octets_of (unless_empty f l)) q

pub octets-append : (a b : List Tlv) → octets_of (a ++ b) ≡ octets_of a ++ octets_of b
unfolding octets_of
octets-append [] b = refl
octets-append (t ∷ a) b = ap (λ l. written t ++ l) (octets-append a b) ∙ sym (append_assoc (written t) (octets_of a) (octets_of b))

-- The fields

abbrev pub ttc_head : ℕ → ℕ → List ℕ
ttc_head subtype len = high 127 len ∷ low len ∷ 0xE0 ∷ 0x27 ∷ 0x1A ∷ subtype ∷ []

pub device-written : (id : ℕ) (x : List ℕ) → ttc_head 1 (6 + length x) ++ ((id ∷ []) ++ (length x ∷ x)) ≡ written (device_tlv id x)
device-written id x =
    let m : 6 + length x ≡ length (device_tlv id x).body = omega arith in
    ap (λ (k : ℕ). high 127 k ∷ low k ∷ 0xE0 ∷ 0x27 ∷ 0x1A ∷ 1 ∷ id ∷ length x ∷ x) m

pub list_written : (a : List ℕ) → ttc_head 3 (5 + length a) ++ (length a / 6 ∷ a) ≡ octets_of (if_listed (some a))
list_written a =
    let m : 5 + length a ≡ length (list_tlv a).body = omega arith in
    ap (λ (k : ℕ). high 127 k ∷ low k ∷ 0xE0 ∷ 0x27 ∷ 0x1A ∷ 3 ∷ length a / 6 ∷ a) m ∙ sym (one-octets (list_tlv a))

module _ (l : LinkInfo) where
  abbrev n : ℕ
  n = length l.interface

  abbrev m : ℕ
  m = length l.port

  abbrev k : ℕ
  k = length l.addresses

  pub link-length : length (link_content l) ≡ 3 + n + m + k
  link-length = omega (arith, length-append l.interface (m ∷ (l.port ++ (k / 6 ∷ l.addresses))), length-append l.port (k / 6 ∷ l.addresses))

  pub link-written : ttc_head 2 (7 + n + m + k) ++ ((n ∷ l.interface) ++ ((m ∷ l.port) ++ (k / 6 ∷ l.addresses))) ≡ octets_of (if_linked (some l))
  link-written =
      let e : 7 + n + m + k ≡ length (link_tlv l).body = omega (arith, link-length) in
      ap (λ (z : ℕ). high 127 z ∷ low z ∷ 0xE0 ∷ 0x27 ∷ 0x1A ∷ 2 ∷ link_content l) e ∙ sym (one-octets (link_tlv l))

-- What an octet can count, of a string x that the code has in hand for y

pub countable-is : {x y : List ℕ} → x ≡ y → length x ≤ 255 → x ≡ countable y
countable-is {x} q h = sym (rw (le-leb (length x) 255 h)) ∙ ap countable q

pub countable-none : {x y : List ℕ} → x ≡ y → 255 < length x → [] ≡ countable y
countable-none {x} q h = sym (rw (lt-leb (length x) 255 h)) ∙ ap countable q

module _ (l : LinkInfo) where
  pub link-left-out : (k : ℕ) → get_or (link_counts l) k true ≡ false → [] ≡ octets_of (if_linked (countable_link (some l)))
  unfolding octets_of
  link-left-out k e = sym (ap (λ (b : Bool). octets_of (if_linked (pick b (some l) none))) (all-fails (link_counts l) k e))

  pub link-countable : length l.interface ≤ 255 → length l.port ≤ 255 → length l.addresses / 6 ≤ 255 → octets_of (if_linked (some l)) ≡ octets_of (if_linked (countable_link (some l)))
  link-countable i p a = sym (rw (le-leb (length l.interface) 255 i, le-leb (length l.port) 255 p, le-leb (length l.addresses / 6) 255 a))

pub list-left-out : (a : List ℕ) → 255 < length a / 6 → [] ≡ octets_of (if_listed (countable_list (some a)))
unfolding octets_of
list-left-out a h = sym (rw (lt-leb (length a / 6) 255 h))

pub list-countable : (a : List ℕ) → length a / 6 ≤ 255 → octets_of (if_listed (some a)) ≡ octets_of (if_listed (countable_list (some a)))
list-countable a h = sym (rw (le-leb (length a / 6) 255 h))
