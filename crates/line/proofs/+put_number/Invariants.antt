-- The measure of `line::put_number`: it calls itself with the tenth part, so the number falls.
-- Nothing more is needed.
use Rattle.line.proofs.+put_number.Given as goal

abbrev pub decreases-put_number : goal.decreases-put_number
decreases-put_number l = l.n
