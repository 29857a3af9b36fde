use Rattle.std.proofs.Common.{refl}
use Rattle.rmp_encode.proofs.Promises.{head_by_wire}
use Rattle.rmp_encode.proofs.serializer.Serializer.put_byte.Goals as goal

pub returns : goal.returns
returns g c = head_by_wire g.W.Sink c.write_uint.result c.answer.ensures.is c.answer.ensures.error (rw c.from.ensures at c.write_uint.ensures.writes)
    (record { settings = refl; place = c.write_uint.ensures.place })
