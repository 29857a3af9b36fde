use Rattle.std.proofs.Common.{refl}
use Rattle.rmp_wire.proofs.Writing.{puts_as}
use Rattle.rmp_encode.proofs.Promises.{head_by_wire}
use Rattle.rmp_encode.proofs.serializer.Serializer.put_head.Goals as goal

pub returns-then-n-lt16 : goal.returns-then-n-lt16
returns-then-n-lt16 g c = head_by_wire g.W.Sink c.put_all.result c.answer.ensures.is c.answer.ensures.error
    (puts_as c.short_head.ensures c.put_all.ensures.writes) (record { settings = refl; place = c.put_all.ensures.place })
