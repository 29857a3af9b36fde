use Rattle.rmp_encode.proofs.Wrapped.{nothing_listed}
use Rattle.rmp_encode.proofs.serializer.Serializer.serialize_unit_struct.Goals as goal

pub returns-clause-writes : goal.returns-clause-writes
returns-clause-writes g c = nothing_listed g.W.Sink c.put_head.ensures.writes
