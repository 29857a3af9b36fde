-- What was passed are whole leaves.
use Rattle.std.proofs.Common.{◌≤◌, take, length}
use Rattle.rmp_decode.specs.LeafTable.{PassesLeaves}
use Rattle.rmp_decode.proofs.deserializer.skip.leaves.pass_leaves.Given as goal

abbrev pub invariant-leaves : goal.invariant-leaves
invariant-leaves l = record { within : l.at ≤ length l.bytes; fewer : l.wanted ≤ l.most; passes : PassesLeaves l.strict l.most l.wanted (take l.at l.bytes) }

abbrev pub decreases-leaves : goal.decreases-leaves
decreases-leaves l = l.wanted
