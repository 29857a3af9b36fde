use Rattle.rmp_serde.proofs.ValueFaults.{value_refused}
use Rattle.rmp_serde.proofs.value.read.ValueDeserialize.deserialize.Goals as goal

pub returns-clause-refused : goal.returns-clause-refused
returns-clause-refused g c = λ o. value_refused c.read.result _ _ _ _ o c.read.ensures.refusal c.read.ensures.fault
