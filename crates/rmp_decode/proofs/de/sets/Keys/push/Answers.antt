use Rattle.std.proofs.Common.{rules}
use Rattle.rmp_decode.proofs.Ascending.{keys_after}
use Rattle.rmp_decode.proofs.de.sets.Keys.push.Goals as goal

pub returns-then-comes_after-clause-keys : goal.returns-then-comes_after-clause-keys
returns-then-comes_after-clause-keys g c = keys_after g.met.T.Ord.total c.args.self.now.row.items c.args.self.now.keys.keys c.push.new.self.items c.args.key
    (c.requires.differ.in_row c.if-self.true) c.requires.ordered (search rules) c.in_ok-push.ensures.items
