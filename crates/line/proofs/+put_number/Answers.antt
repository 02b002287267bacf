-- `line::put_number` meets its contract: one digit, or those of the tenth part and then the last.
-- The laws are decimal-few and decimal-more of DecimalLaws.
use Rattle.std.proofs.Common.{◌/◌, [], ◌∷◌}
use Rattle.output.proofs.OutputLaws.{put_then, put_same}
use Rattle.line.specs.Decimal.{decimal}
use Rattle.line.proofs.DecimalLaws.{decimal-few, decimal-more}
use Rattle.line.proofs.+put_number.Goals as goal

pub returns-then-n-lt10 : goal.returns-then-n-lt10
returns-then-n-lt10 t c = put_same c.put_octet.ensures (decimal-few c.args.n c.if-n-lt10.true)

pub returns : goal.returns
returns t c =
    put_same (put_then (decimal (c.args.n / 10)) (_ ∷ []) c.put_number.ensures c.put_octet-2.ensures) (decimal-more c.args.n c.if-n-lt10.false)
