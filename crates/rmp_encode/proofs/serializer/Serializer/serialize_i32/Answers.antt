use Rattle.std.proofs.Common.{arith}
use Rattle.std.specs.Int.{w32}
use Rattle.rmp_encode.proofs.Leaves.{narrowed, number_as}
use Rattle.rmp_encode.proofs.serializer.Serializer.serialize_i32.Goals as goal

pub returns-clause-writes : goal.returns-clause-writes
returns-clause-writes g c = number_as g.W.Sink _ _ (narrowed w32 _ c.from.result c.ranges.n (record { sfits = omega arith }) c.from.ensures)
    c.serialize_i64.ensures.writes
