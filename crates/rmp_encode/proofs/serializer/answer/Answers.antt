use Rattle.rmp_encode.proofs.Refusals.{of_wire}
use Rattle.rmp_encode.proofs.serializer.answer.Goals as goal

pub returns-in-Err-clause-error : goal.returns-in-Err-clause-error
returns-in-Err-clause-error c = rw c.from.ensures (of_wire _)
