use Rattle.std.proofs.Common.{refl}
use Rattle.rmp_encode.specs.Going.{head_at}
use Rattle.rmp_encode.proofs.Promises.{head_by_wire}
use Rattle.rmp_encode.proofs.serializer.Serializer.put_long_head.Goals as goal

pub returns-then-pairs : goal.returns-then-pairs
unfolding head_at
returns-then-pairs g c = rw c.if-pairs.true (head_by_wire g.W.Sink c.write_map_len.result c.answer.ensures.is c.answer.ensures.error
    c.write_map_len.ensures.writes (record { settings = refl; place = c.write_map_len.ensures.place }))

pub returns : goal.returns
unfolding head_at
returns g c = rw c.if-pairs.false (head_by_wire g.W.Sink c.write_array_len.result c.answer-2.ensures.is c.answer-2.ensures.error
    c.write_array_len.ensures.writes (record { settings = refl; place = c.write_array_len.ensures.place }))
