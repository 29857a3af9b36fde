use Rattle.std.proofs.Common.{rules}
use Rattle.rmp_c.proofs.Puts.{two_pieces}
use Rattle.rmp_c.proofs.put.put.Goals as goal

pub returns-clause-written : goal.returns-clause-written
returns-clause-written c = λ z.
    two_pieces c.args.out.now c.args.head.now c.args.payload.now c.copy_from_slice.new.self c.copy_from_slice-2.new.self c.args.at.now
    c.saturating_add-middle.result c.saturating_add-end.result (search rules) (search rules) (search rules) (search rules) (search rules)
