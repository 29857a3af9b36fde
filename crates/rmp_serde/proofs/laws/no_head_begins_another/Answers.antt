use Rattle.rmp_wire.proofs.Heads.{heads_differ}
use Rattle.rmp_serde.proofs.laws.no_head_begins_another.Goals as goal

pub returns : goal.returns
returns c = heads_differ
