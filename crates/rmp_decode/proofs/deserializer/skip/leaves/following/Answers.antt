-- Each number of the table is what the marker says.
use Rattle.std.proofs.Common.{refl, arith}
use Rattle.rmp_wire.specs.Taking.{marker_of}
use Rattle.rmp_decode.specs.declared.deserializer.skip.leaves.TheConstants.{PAYLOADS}
use Rattle.rmp_decode.proofs.LeafTable.{tells_any, tells_strict}
use Rattle.rmp_decode.proofs.deserializer.skip.leaves.following.Goals as goal

pub returns-then-strict : goal.returns-then-strict
unfolding marker_of
returns-then-strict c = tells_strict PAYLOADS refl c.args.first c.args.strict c.if-strict.true (omega (arith, c.ranges.first))

pub returns-else-strict : goal.returns-else-strict
unfolding marker_of
returns-else-strict c = tells_any PAYLOADS refl c.args.first c.args.strict c.if-strict.false (omega (arith, c.ranges.first))
