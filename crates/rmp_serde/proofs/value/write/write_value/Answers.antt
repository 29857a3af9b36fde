use Rattle.rmp_serde.proofs.FlatWritten.{spells_all}
use Rattle.rmp_serde.proofs.TreeWriting.{takes_as}
use Rattle.rmp_serde.proofs.value.write.write_value.Goals as goal

pub returns-clause-writes : goal.returns-clause-writes
returns-clause-writes g c = takes_as (spells_all c.value.inside.root c.value.inside.parts c.args.value.now c.value.invariant c.value.view_is)
    c.write_nodes.ensures.writes
