use Rattle.std.proofs.Common.{rules}
use Rattle.rmp_decode.proofs.BufferedHeads.{list_held, map_held}
use Rattle.rmp_decode.proofs.deserializer.skip.ShortPartsPeek.at.Goals as goal

pub returns-in-128-to-143-clause-starts : goal.returns-in-128-to-143-clause-starts
returns-in-128-to-143-clause-starts c = map_held c.args._strict c.args.front.now _ c.in-len1-up.len_at_least (search rules) (search rules) (search rules)

pub returns-in-144-to-159-clause-starts : goal.returns-in-144-to-159-clause-starts
returns-in-144-to-159-clause-starts c = list_held c.args._strict c.args.front.now _ c.in-len1-up.len_at_least (search rules) (search rules) (search rules)
