use Rattle.std.proofs.Common.{rules}
use Rattle.rmp_decode.proofs.BufferedHeads.{map_held}
use Rattle.rmp_decode.proofs.deserializer.peek.MapHeadPeek.at.Goals as goal

pub returns-in-128-to-143-clause-starts : goal.returns-in-128-to-143-clause-starts
returns-in-128-to-143-clause-starts c = map_held c.args._strict c.args.front.now _ c.in-len1-up.len_at_least (search rules) (search rules) (search rules)
