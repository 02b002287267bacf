-- `octet_answers::replies::put_number` meets its contract: how many octets, then the four of the value, high octet first.
-- The value is put behind the count (put_then).
use Rattle.std.proofs.Common.{ℕ, ◌≡◌, ap, [], ◌∷◌}
use Rattle.octets.specs.Numbers.{four_octets}
use Rattle.output.proofs.OutputLaws.{put_then, put_same}
use Rattle.octet_answers.proofs.replies.put_number.Goals as goal

pub returns : goal.returns
returns c =
    let e : c.to_be_bytes.result ≡ four_octets c.args.n.value = c.to_be_bytes.ensures in
    put_then _ _ (put_same c.put_octet.ensures (ap (λ (n : ℕ). n ∷ []) c.low_of.ensures)) (put_same c.put_all.ensures e)
