-- The table's numbers and senders as octets (X3): four slices that are lent beside the buffer, the table that they mean, and the octets of a table.
-- Place i has octet i of the ports, octets 2i and 2i + 1 of the seconds and of the lengths, and octets 6i to 6i + 5 of the senders.
use Rattle.std.specs.Prelude.{ℕ, ◌+◌, ◌*◌, ◌/◌, ◌%◌, ◌≡◌, Bool, true, List, [], ◌∷◌, length, get_or, eqb}
use Rattle.tally.specs.Tests.{pick, all}
use Rattle.tally.specs.Tab.{tab}
use Rattle.octets.specs.Numbers.{pair_of, two_octets}
use Rattle.octets.specs.Address.{six_at}
use Rattle.numbers.specs.Sizes.{places}
use Rattle.numbers.specs.declared.Sender.{Sender}
use Rattle.numbers.specs.declared.Table.{Table}
use Rattle.place.specs.State.{no_sender}

pub record Lent : Type 0 where
  pub ports : List ℕ
  pub seconds : List ℕ
  pub lengths : List ℕ
  pub senders : List ℕ

abbrev pub lent : List ℕ → List ℕ → List ℕ → List ℕ → Lent
lent p s l n = record { ports = p; seconds = s; lengths = l; senders = n }

-- Each slice has its length (X2)

abbrev pub numbers_long : ℕ
numbers_long = 2 * places

abbrev pub senders_len : ℕ
senders_len = 6 * places

unfoldable pub lengths_right : ℕ → ℕ → ℕ → ℕ → Bool
lengths_right p s l n = all (eqb p places ∷ eqb s numbers_long ∷ eqb l numbers_long ∷ eqb n senders_len ∷ [])

abbrev pub lengths_ok : Lent → Bool
lengths_ok x = lengths_right (length x.ports) (length x.seconds) (length x.lengths) (length x.senders)

-- a port is one octet, so both ways it is one number for each place
abbrev pub one_per_place : List ℕ → List ℕ
one_per_place o = tab places (λ i. get_or o i 0)

-- The table that octets mean

abbrev pub numbers_in : List ℕ → List ℕ
numbers_in o = tab places (λ i. pair_of (get_or o (2 * i) 0) (get_or o (2 * i + 1) 0))

abbrev pub senders_in : List ℕ → List Sender
senders_in o = tab places (λ i. record { octets = six_at o (6 * i) })

unfoldable pub table_in : Lent → Table
table_in x =
    record {
      port = one_per_place x.ports;
      seconds = numbers_in x.seconds;
      length = numbers_in x.lengths;
      sender = senders_in x.senders;
    }

-- The octets of a table: all of them, and octet k

abbrev pub number_octet : List ℕ → ℕ → ℕ
number_octet l k = get_or (two_octets (get_or l (k / 2) 0)) (k % 2) 0

abbrev pub number_octets : List ℕ → List ℕ
number_octets l = tab numbers_long (number_octet l)

abbrev pub sender_octet : List Sender → ℕ → ℕ
sender_octet l k = get_or (get_or l (k / 6) no_sender).octets (k % 6) 0

abbrev pub sender_octets : List Sender → List ℕ
sender_octets l = tab senders_len (sender_octet l)

unfoldable pub lent_of : Table → Lent
lent_of t = lent (one_per_place t.port) (number_octets t.seconds) (number_octets t.length) (sender_octets t.sender)

-- The contract of putting a table t into slices x, which then hold y: its octets, and these mean that table again; slices of other lengths stay
pub record Puts (t : Table) (x y : Lent) : Type 0 where
  pub exact : y ≡ pick (lengths_ok x) (lent_of t) x
  pub means : lengths_ok x ≡ true → table_in y ≡ t
