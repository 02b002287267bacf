-- An output that is lent to put octets into: its octets, and the place behind what was put.
-- An octet that falls behind the end of the output is left out, and the place stays.
use Rattle.std.specs.Prelude.{ℕ, ◌+◌, ◌≡◌, List, [], ◌∷◌, length, set, ltb}
use Rattle.tally.specs.Tests.{pick}
use Rattle.output.specs.declared.Output.{Output as Lent}

pub record Output : Type 0 where
  pub octets : List ℕ
  pub end : ℕ

abbrev pub output_at : List ℕ → ℕ → Output
output_at l at = record { octets = l; end = at }

-- one octet more
unfoldable pub more : ℕ → Output → Output
more b o = output_at (set o.octets o.end b) (pick (ltb o.end (length o.octets)) (o.end + 1) o.end)

-- octets one behind the other
unfoldable pub puts : List ℕ → Output → Output
puts [] o = o
puts (b ∷ x) o = puts x (more b o)

-- what stands in an output of the code, and where it ends
abbrev pub seen : Lent → Output
seen o = output_at o.octets.now o.end

-- octets were put, and it is lent of the same octets as before
pub record Put (x : List ℕ) (o p : Lent) : Type 0 where
  pub lent : p.octets.ghost_name ≡ o.octets.ghost_name
  pub put : seen p ≡ puts x (seen o)
