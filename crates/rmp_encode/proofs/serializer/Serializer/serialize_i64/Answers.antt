use Rattle.std.specs.Int.{w64}
use Rattle.std.proofs.lemmas.Int.{to_z-of_z}
use Rattle.rmp_encode.proofs.Leaves.{signed_tree, wire_marker}
use Rattle.rmp_encode.proofs.serializer.Serializer.serialize_i64.Goals as goal

pub returns-clause-writes : goal.returns-clause-writes
returns-clause-writes g c = signed_tree g.W.Sink _ c.args.n c.write_sint.result (to_z-of_z w64 c.args.n c.ranges.n) c.ranges.n c.answer.ensures.is
    c.write_sint.ensures.writes

pub returns-clause-marker : goal.returns-clause-marker
returns-clause-marker g c = wire_marker g.W.Sink _ c.write_sint.result c.answer.ensures.is c.write_sint.ensures.writes
