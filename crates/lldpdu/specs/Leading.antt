-- The first three TLVs by themselves, as the code judges them: a refusal, or where TLVs 2 and 3 begin.
-- That the extent is theirs and then that of the walk is proved in proofs/LeadingLaws.antt.
use Rattle.std.specs.Prelude.{ℕ, List, drop, Result, Ok, Err}
use Rattle.refusal.specs.declared.Refusal.{Refusal}
use Rattle.walk.specs.Walk.{Extent, head_of}
use Rattle.lldpdu.specs.Extent.{port_place, seconds_place, rest_place, is_chassis, is_port, seconds_ok, need}
use Rattle.lldpdu.specs.declared.leading.Leading.{Leading}

-- where TLV 2 begins, and where TLV 3 does
abbrev pub leading : ℕ → ℕ → Leading
leading port at = record { port = port; seconds = at }

unfoldable pub leading_behind_port : List ℕ → Result Leading Refusal
leading_behind_port s = need (head_of (drop (seconds_place s) s)) seconds_ok (Ok (leading (port_place s) (seconds_place s)))

unfoldable pub leading_behind_chassis : List ℕ → Result Leading Refusal
leading_behind_chassis s = need (head_of (drop (port_place s) s)) (λ kind len. is_port s kind) (leading_behind_port s)

unfoldable pub leading_of : List ℕ → Result Leading Refusal
leading_of s = need (head_of (drop 0 s)) (λ kind len. is_chassis s kind) (leading_behind_chassis s)

-- the extent x behind them counts only where they are right
abbrev pub onward : Result Leading Refusal → Extent → Extent
onward (Ok l) x = x
onward (Err r) x = Err r

-- their own extent: a refusal, or the place behind them
unfoldable pub front_of : List ℕ → Extent
front_of s = onward (leading_of s) (Ok (rest_place s))
