use Rattle.rmp_wire.proofs.Canonical.{canonical_head_iff}
use Rattle.rmp_serde.proofs.laws.canonical_head.Goals as goal

pub returns : goal.returns
returns c = canonical_head_iff
