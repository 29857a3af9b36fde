use Rattle.rmp_encode.specs.Data.{lower}
use Rattle.rmp_encode.proofs.Parts.{part_or}
use Rattle.rmp_encode.proofs.ser.options.OptionSerialize.serialize.Goals as goal

pub returns-in-None-clause-writes : goal.returns-in-None-clause-writes
unfolding lower
returns-in-None-clause-writes g c = rw c.in-None.is (part_or g.W.Sink _ c.serialize_none.ensures.writes)
