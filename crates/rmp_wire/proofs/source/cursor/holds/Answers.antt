use Rattle.std.proofs.Common.{rules}
use Rattle.rmp_wire.proofs.Cursors.{skipped, still_past}
use Rattle.rmp_wire.proofs.source.cursor.holds.Goals as goal

pub returns-clause-skips : goal.returns-clause-skips
returns-clause-skips c e = skipped c.args.place c.args.len c.args.all.now (search rules)

pub returns-clause-past : goal.returns-clause-past
returns-clause-past c e = still_past c.args.place c.args.len c.args.all.now (search rules)
