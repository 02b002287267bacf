-- The table's state: the struct of numbers and senders beside the octets of the buffer; seen place by place (N1).
-- Every call is said by what it puts where; what is not named stays as it was.
use Rattle.std.specs.Prelude.{ℕ, zero, suc, ◌+◌, ◌*◌, ◌≡◌, Bool, not, List, [], ◌∷◌, ◌++◌, length, get_or, set, take, drop, replicate, leb, ltb, eqb, Option, Some, None}
use Rattle.tally.specs.Tests.{pick, both, all}
use Rattle.tally.specs.Counts.{count, first_from}
use Rattle.whole.specs.Whole.{filled}
use Rattle.lldpdu.specs.Extent.{port_place, id_in}
use Rattle.lldpdu.specs.Outline.{outline_of, seconds_told}
use Rattle.ids.specs.Id.{Id}
use Rattle.rules.specs.Identity.{Ident, same}
use Rattle.rules.specs.Events.{Announcement}
use Rattle.numbers.specs.Sizes.{places}
use Rattle.numbers.specs.declared.Sender.{Sender}
use Rattle.numbers.specs.declared.Table.{Table}

abbrev pub size : ℕ
size = 1500

abbrev pub octets : ℕ
octets = places * size

pub record Place : Type 0 where
  pub port : ℕ
  pub seconds : ℕ
  pub len : ℕ
  pub sender : List ℕ
  pub body : List ℕ

pub record State : Type 0 where
  pub table : Table
  pub buf : List ℕ

abbrev pub state : Table → List ℕ → State
state t b = record { table = t; buf = b }

-- the sender that a free place has (N4)
abbrev pub six_zeros : Sender
six_zeros = record { octets = replicate 6 0 }

-- past the last place there is none
abbrev pub no_sender : Sender
no_sender = record { octets = [] }

-- what place k holds
unfoldable pub at : State → ℕ → Place
at s k =
    record {
      port = get_or s.table.port k 0;
      seconds = get_or s.table.seconds k 0;
      len = get_or s.table.length k 0;
      sender = (get_or s.table.sender k no_sender).octets;
      body = take size (drop (k * size) s.buf);
    }

-- place k holds p, all else as it was
unfoldable pub put : State → ℕ → Place → State
put s k p =
    record {
      table =
          record {
            port = set s.table.port k p.port;
            seconds = set s.table.seconds k p.seconds;
            length = set s.table.length k p.len;
            sender = set s.table.sender k (record { octets = p.sender });
          };
      buf = take (k * size) s.buf ++ (p.body ++ drop (k * size + size) s.buf);
    }

-- where there is such a place, the buffer has its length and the place has room; else all stays
unfoldable pub put_there : State → ℕ → Place → State
put_there s k p = pick (all (ltb k places ∷ eqb (length s.buf) octets ∷ leb p.len size ∷ [])) (put s k p) s

-- g at place k, and at each place below n
unfoldable pub change_at : (Place → Place) → ℕ → State → State
change_at g k s = put s k (g (at s k))

unfoldable pub each : (Place → Place) → ℕ → State → State
each g zero s = s
each g (suc k) s = change_at g k (each g k s)

-- A place

-- N4
abbrev pub used : Place → Bool
used x = not (eqb x.len 0)

abbrev pub free : Place
free = record { port = 0; seconds = 0; len = 0; sender = six_zeros.octets; body = replicate size 0 }

-- the LLDPDU that is kept (N3)
abbrev pub lldpdu_at : Place → List ℕ
lldpdu_at x = take x.len x.body

-- n octets of place k (N3); past the last place there are none
unfoldable pub lldpdu_in : List ℕ → ℕ → ℕ → List ℕ
lldpdu_in b k n = pick (ltb k places) (take n (take size (drop (k * size) b))) []

-- an LLDPDU l that was heard on port p is kept, with seconds left and its sender (N3)
unfoldable pub keep : ℕ → ℕ → List ℕ → List ℕ → Place
keep p left sender l = record { port = p; seconds = left; len = length l; sender = sender; body = filled l size }

-- Identity (N2), by the first two TLVs of an LLDPDU (L3, L4), as the reader says them of one that is valid

abbrev pub ident : ℕ → Id → Id → Ident
ident p c i = record { port = p; chassis = c; port_id = i }

unfoldable pub chassis_in : List ℕ → Id
chassis_in l = id_in l 0

unfoldable pub port_id_in : List ℕ → Id
port_id_in l = id_in l (port_place l)

-- of an LLDPDU l that was heard on port p, whoever sent it
abbrev pub whose_in : ℕ → List ℕ → Ident
whose_in p l = ident p (chassis_in l) (port_id_in l)

abbrev pub who_at : Place → Ident
who_at x = whose_in x.port (lldpdu_at x)

-- what an LLDPDU l says that came from a sender
abbrev pub said : List ℕ → List ℕ → Announcement
said sender l = record { chassis = chassis_in l; port_id = port_id_in l; seconds = seconds_told (outline_of l); octets = l; sender = sender }

-- an LLDPDU has this chassis and port ID, whatever the port
unfoldable pub is_from : List ℕ → Id → Id → Bool
is_from l c i = same (whose_in 0 l) (ident 0 c i)

-- a place with n for a length that was heard on port p and keeps l has a record whose identity passes g, or that of w
abbrev pub record_passes : ℕ → ℕ → List ℕ → (Ident → Bool) → Bool
record_passes n p l g = both (not (eqb n 0)) (g (whose_in p l))

abbrev pub record_is : ℕ → ℕ → List ℕ → Ident → Bool
record_is n p l w = record_passes n p l (λ v. same v w)

-- place k has a record of w
unfoldable pub is_of : State → Ident → ℕ → Bool
is_of s w k = record_is (at s k).len (at s k).port (lldpdu_at (at s k)) w

-- the place of w, or the number of places where it is new
unfoldable pub find : State → Ident → ℕ
find s w = first_from (is_of s w) 0 places

-- the place that was found, where there is one
abbrev pub place_found : ℕ → Option ℕ
place_found k = pick (ltb k places) (Some k) None

-- place k has a record whose identity passes g
abbrev pub passes : State → (Ident → Bool) → ℕ → Bool
passes s g k = record_passes (at s k).len (at s k).port (lldpdu_at (at s k)) g

-- how many of all places do
unfoldable pub count_records : State → (Ident → Bool) → ℕ
count_records s g = count (passes s g) places

-- all numbers, all senders and all octets 0 (N6)
abbrev pub empty : State
empty =
    record {
      table =
          record {
            port = replicate places 0;
            seconds = replicate places 0;
            length = replicate places 0;
            sender = replicate places six_zeros;
          };
      buf = replicate octets 0;
    }

-- n places, each list as long as that asks
pub record Sized (n : ℕ) (s : State) : Type 0 where
  pub ports_long : length s.table.port ≡ n
  pub seconds_long : length s.table.seconds ≡ n
  pub lengths_long : length s.table.length ≡ n
  pub senders_long : length s.table.sender ≡ n
  pub buf_long : length s.buf ≡ n * size
