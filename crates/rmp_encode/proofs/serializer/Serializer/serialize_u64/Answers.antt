use Rattle.std.proofs.Common.{arith}
use Rattle.rmp_wire.specs.Heads.{fits_head}
use Rattle.rmp_encode.proofs.Leaves.{wire_tree, wire_marker}
use Rattle.rmp_encode.proofs.serializer.Serializer.serialize_u64.Goals as goal

pub returns-clause-writes : goal.returns-clause-writes
unfolding fits_head
returns-clause-writes g c = wire_tree g.W.Sink _ c.write_uint.result c.answer.ensures.is (omega arith) c.write_uint.ensures.writes

pub returns-clause-marker : goal.returns-clause-marker
returns-clause-marker g c = wire_marker g.W.Sink _ c.write_uint.result c.answer.ensures.is c.write_uint.ensures.writes
