-- Two lines that the contract of `put_form` allows have the same octets and end at the same place.
-- The contract is the toolchain's own reading of the source (`Post` of its `Reads`).
use Rattle.output.proofs.Sole.{SolePut, same-put}
use Rattle.forms.proofs.put_form.Kinds as form-kinds
use Rattle.forms.proofs.put_form.Reads as form

pub put-form-sole : SolePut 5 form-kinds.ps form-kinds.r form.Post (λ κs x. x.0.now)
put-form-sole κs a r q x y = same-put
