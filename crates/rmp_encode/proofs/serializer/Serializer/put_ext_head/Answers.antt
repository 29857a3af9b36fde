use Rattle.std.proofs.Common.{refl}
use Rattle.std.specs.Int.{w8}
use Rattle.std.proofs.lemmas.Int.{to_z-of_z}
use Rattle.rmp_encode.proofs.Promises.{ext_head_as, head_by_wire}
use Rattle.rmp_encode.proofs.serializer.Serializer.put_ext_head.Goals as goal

pub returns : goal.returns
returns g c = ext_head_as g.W.Sink c.args.len _ c.args.tag (to_z-of_z w8 c.args.tag c.ranges.tag)
    (head_by_wire g.W.Sink c.write_ext_meta.result c.answer.ensures.is c.answer.ensures.error c.write_ext_meta.ensures.writes
    (record { settings = refl; place = c.write_ext_meta.ensures.place }))
