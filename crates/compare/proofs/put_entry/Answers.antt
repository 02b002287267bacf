-- `compare::put_entry` meets its contract: its two octets, one behind the other.
-- Each call of `put_octet` puts one, and both together are the entry (put_then).
use Rattle.std.proofs.Common.{ℕ, ap, [], ◌∷◌}
use Rattle.output.proofs.OutputLaws.{put_then, put_same}
use Rattle.compare.proofs.put_entry.Goals as goal

pub returns : goal.returns
returns c =
    put_same (put_then (_ ∷ []) (c.args.place ∷ []) c.put_octet.ensures c.put_octet-2.ensures) (ap (λ (n : ℕ). n ∷ c.args.place ∷ []) c.from.ensures)
