use Rattle.rmp_serde.proofs.Same.{msg_eq_from}
use Rattle.rmp_serde.proofs.value.equal.ValuePartialEq.eq.Goals as goal

pub returns-clause-value : goal.returns-clause-value
returns-clause-value c = msg_eq_from _ _ _ c.same.ensures.same
