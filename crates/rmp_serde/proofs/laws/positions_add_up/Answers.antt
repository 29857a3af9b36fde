use Rattle.rmp_wire.proofs.Cursors.{moved_on}
use Rattle.rmp_serde.proofs.laws.positions_add_up.Goals as goal

pub returns : goal.returns
returns c = λ bytes more taken p q. moved_on bytes more taken p q
