use Rattle.std.proofs.Common.{rules}
use Rattle.rmp_wire.proofs.Cursors.{copied, still_past}
use Rattle.rmp_wire.proofs.source.cursor.copy_from.Goals as goal

pub returns-clause-bytes : goal.returns-clause-bytes
returns-clause-bytes c = copied c.args.place c.min-n.result c.copy_from_slice.new.self _ c.args.all.now (search rules) (search rules)

pub returns-clause-past : goal.returns-clause-past
returns-clause-past c = still_past c.args.place c.min-n.result c.args.all.now (search rules)
