-- Each row of the table is what the definition says of its byte.
use Rattle.std.proofs.Common.{refl, arith}
use Rattle.rmp_wire.specs.Taking.{marker_of}
use Rattle.rmp_scan.specs.declared.small.TheConstants.{SMALL}
use Rattle.rmp_scan.proofs.Table.{table_tells}
use Rattle.rmp_scan.proofs.small.small_of.Goals as goal

pub returns : goal.returns
unfolding marker_of
returns c = table_tells SMALL refl c.args.first (omega (arith, c.ranges.first))
