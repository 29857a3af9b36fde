use Rattle.std.proofs.Common.{refl}
use Rattle.rmp_encode.proofs.Promises.{head_by_wire}
use Rattle.rmp_encode.proofs.serializer.Serializer.put_bin_head.Goals as goal

pub returns : goal.returns
returns g c = head_by_wire g.W.Sink c.write_bin_len.result c.answer.ensures.is c.answer.ensures.error c.write_bin_len.ensures.writes
    (record { settings = refl; place = c.write_bin_len.ensures.place })
