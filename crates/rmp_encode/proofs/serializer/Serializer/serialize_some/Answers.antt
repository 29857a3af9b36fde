use Rattle.rmp_encode.proofs.Wrapped.{wrapped_writes}
use Rattle.rmp_encode.proofs.serializer.Serializer.serialize_some.Goals as goal

pub returns-clause-writes : goal.returns-clause-writes
returns-clause-writes g c = wrapped_writes g.W.Sink _ _ c.serialize.ensures.writes
