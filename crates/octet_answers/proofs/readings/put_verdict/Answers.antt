-- `octet_answers::readings::put_verdict` meets its contract: two octets of length, then 1 or 0.
-- One octet is put behind two (put_then).
use mathlib.Core.Bool.{Bool, true, false}
use Rattle.std.proofs.Common.{ℕ, ap, [], ◌∷◌}
use mathlib.Core.Path.{◌≡◌, refl}
use mir.Val.{bool_byte}
use Rattle.tally.specs.Counts.{one}
use Rattle.output.proofs.OutputLaws.{put_then, put_same}
use Rattle.octet_answers.proofs.readings.put_verdict.Goals as goal

byte-is-one : (b : Bool) → bool_byte b ≡ one b
byte-is-one true = refl
byte-is-one false = refl

pub returns : goal.returns
returns c = put_then _ _ c.put_two.ensures (put_same c.put_octet.ensures (ap (λ (n : ℕ). n ∷ []) (byte-is-one c.args.r.htip)))
