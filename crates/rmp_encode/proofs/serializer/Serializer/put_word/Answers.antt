use Rattle.std.proofs.Common.{arith, length}
use Rattle.rmp_wire.specs.Heads.{fits_head}
use Rattle.rmp_wire.specs.Msg.{text}
use Rattle.rmp_encode.proofs.Leaves.{bytes_from}
use Rattle.rmp_encode.proofs.Promises.{message_by_head}
use Rattle.rmp_encode.proofs.serializer.Serializer.put_word.Goals as goal

pub returns : goal.returns
unfolding fits_head
returns g c = message_by_head g.W.Sink (text c.args.word.now) (length c.args.word.now) c.put_short_word.result
    (omega arith, bytes_from c.args.word.now (λ i. omega (arith, c.type_inv.word i))) (omega arith) c.put_short_word.ensures
