use Rattle.rmp_wire.proofs.Writing.{puts_both, puts_then_stop}
use Rattle.rmp_wire.proofs.write.write_content.Goals as goal

pub returns-in-Ok-clause-writes : goal.returns-in-Ok-clause-writes
returns-in-Ok-clause-writes g c = λ head old some p. puts_both p c.in-Ok.ensures.writes

pub returns-in-Err-clause-writes : goal.returns-in-Err-clause-writes
returns-in-Err-clause-writes g c = λ head old some p. rw c.past_first.ensures (puts_then_stop some p c.in-Err.ensures.writes)
