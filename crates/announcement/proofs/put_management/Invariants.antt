-- `announcement::put_management` meets its contract: as many addresses are put as the loop has met.
-- One more is management-more, all of them management-all of PutLaws.
use Rattle.output.specs.Output.{Put}
use Rattle.announcement.proofs.PutLaws.{put_up_to}
use Rattle.announcement.proofs.put_management.Given as goal

abbrev pub invariant-loop-p : goal.invariant-loop-p
invariant-loop-p l = Put (put_up_to l.text l.p-items l.p-index) l.initial.out l.out
