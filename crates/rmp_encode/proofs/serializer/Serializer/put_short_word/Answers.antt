use Rattle.std.proofs.Common.{refl}
use Rattle.rmp_wire.proofs.Writing.{puts_as}
use Rattle.rmp_encode.proofs.Promises.{head_by_wire}
use Rattle.rmp_encode.proofs.Variants.{short_piece}
use Rattle.rmp_encode.proofs.serializer.Serializer.put_short_word.Goals as goal

pub returns : goal.returns
returns g c = head_by_wire g.W.Sink c.put_all.result c.answer.ensures.is c.answer.ensures.error
    (puts_as (short_piece c.args.word.now _ _ _ c.as_bytes-bytes.ensures.value c.copy_from_slice.ensures.after c.requires) c.put_all.ensures.writes)
    (record { settings = refl; place = c.put_all.ensures.place })
