-- What the writer answers and what it leaves in the output: 9 before 10 (R9, R10, Q1), and no octet changed by a refusal (Q2).
-- Behind what was written the output stays as it was (W4).
use Rattle.std.specs.Prelude.{ℕ, ◌≡◌, List, ◌++◌, Bool, length, take, drop, leb, Result, Ok, Err}
use Rattle.tally.specs.Tests.{pick, both}
use Rattle.reading.specs.Meaning.{said_by}
use Rattle.reading.specs.declared.Description.{Description}
use Rattle.announcement.specs.Encode.{encode}
use Rattle.parts.specs.Inside.{all_inside}
use Rattle.description.specs.Rules.{sound_of}
use Rattle.refusal.specs.declared.Refusal.{Refusal}
use Rattle.refusal.specs.declared.Refusal.TheVariants.{BreaksARule, NoRoom}

-- how many octets were written, or why none was
abbrev pub Written : Type 0
Written = Result ℕ Refusal

-- the number of octets written, 0 where it is refused
abbrev pub octets_written : Written → ℕ
octets_written (Ok n) = n
octets_written (Err r) = 0

-- every part of the description d lies inside the text s, and what it says keeps the rules
unfoldable pub keeps : List ℕ → Description → Bool
keeps s d = both (all_inside (length s) d) (sound_of (said_by s d))

-- of an LLDPDU of n octets, into an output of so many
abbrev pub answer_for : Bool → ℕ → ℕ → Written
answer_for kept n room = pick (both kept (leb n 1500)) (pick (leb n room) (Ok n) (Err NoRoom)) (Err BreaksARule)

unfoldable pub write_of : List ℕ → Description → ℕ → Written
write_of s d room = answer_for (keeps s d) (length (encode (said_by s d))) room

-- the first n octets of x, and behind them what was there
abbrev pub over : ℕ → List ℕ → List ℕ → List ℕ
over n x out = take n x ++ drop n out

-- The contract of the writer: the answer is this one and no other, and so is the output
pub record Writes (s : List ℕ) (d : Description) (out : List ℕ) (r : Written) (now : List ℕ) : Type 0 where
  pub exact : r ≡ write_of s d (length out)
  pub output : now ≡ over (octets_written r) (encode (said_by s d)) out
