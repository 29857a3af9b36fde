-- Each row of the table is what the definition says of its byte.
use Rattle.std.proofs.Common.{refl, arith}
use Rattle.rmp_serde.specs.declared.check.short.TheConstants.{NODES}
use Rattle.rmp_serde.proofs.Short.{table_says}
use Rattle.rmp_serde.proofs.check.short.entry_of.Goals as goal

pub returns : goal.returns
returns c = table_says NODES refl c.args.first (omega (arith, c.ranges.first))
