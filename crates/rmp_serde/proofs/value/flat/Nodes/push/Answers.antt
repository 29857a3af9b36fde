use Rattle.rmp_serde.proofs.FlatMade.{one_within}
use Rattle.rmp_serde.proofs.value.flat.Nodes.push.Goals as goal

pub returns-clause-within : goal.returns-clause-within
returns-clause-within c = rw (c.push_reserved.ensures.items, c.make_room.ensures.nodes, c.make_room.ensures.bytes)
    (one_within c.args.self.now.nodes.items c.new.result _ c.requires.within (c.new.ensures.within _ c.requires.starts))
