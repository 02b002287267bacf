-- The records of a capture, front to back, as the octets behind its file header have them (C1).
-- The file is over behind a record, or it ends inside one and is torn (C7).
use Rattle.std.specs.Prelude.{ℕ, zero, suc, ◌+◌, List, [], ◌∷◌, Bool, length, take, drop, leb}
use Rattle.tally.specs.Tests.{pick}
use Rattle.capture.specs.Layout.{record_header, stamp, captured, original}

-- the octets are those that were captured, so that the captured length is their number
pub record Captured : Type 0 where
  pub stamp : ℕ
  pub original : ℕ
  pub octets : List ℕ

pub data Records : Type 0 where
  over : Records
  torn : Records
  first : Captured → Records → Records

-- the record at the front of l, which is all there
abbrev pub front_of : Bool → List ℕ → Captured
front_of low l = record { stamp = stamp low l; original = original low l; octets = take (captured low l) (drop record_header l) }

-- the records in l, behind k octets that belong to the record before. Where one begins, x is the first of its octets, and 15 of its header follow;
-- it is entered only where all of it is there, so that from k = 0 on the second line is not reached
unfoldable pub records_of : Bool → List ℕ → ℕ → Records
records_of low [] zero = over
records_of low [] (suc k) = torn
records_of low (x ∷ l) (suc k) = records_of low l k
records_of low (x ∷ l) zero =
    let more : Records = records_of low l (15 + captured low (x ∷ l)) in
    pick (leb (record_header + captured low (x ∷ l)) (length (x ∷ l))) (first (front_of low (x ∷ l)) more) torn
