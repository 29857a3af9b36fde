use Rattle.std.proofs.Common.{rules}
use Rattle.rmp_decode.proofs.FieldReads.{list_refused, list_done, list_over, tuple_unopened, tuple_read}
use Rattle.rmp_decode.proofs.Seqs.{via}
use Rattle.rmp_decode.proofs.deserializer.Deserializer.opened_tuple.Goals as goal

pub returns-in-Err : goal.returns-in-Err
returns-in-Err g c = tuple_unopened g.F.Fields (rw c.in-Err.is at c.deserialize_tuple.follows.holds-at-none)

pub returns-in-Err-listed : goal.returns-in-Err-listed
returns-in-Err-listed g c =
    let e = c.in-Err-listed.ensures in
    tuple_read {F = g.F.Fields} _ (list_refused c.in-Ok.ensures.opened e.err e.refused e.memory (search rules))

pub returns-in-Ok-end : goal.returns-in-Ok-end
returns-in-Ok-end g c =
    let t = c.in-Ok-listed.ensures.ok in
    let e = c.in-Ok-end.ensures.ok t.run.still in
    tuple_read {F = g.F.Fields} _ (list_done c.in-Ok.ensures.opened t e.0 (via c.end.new.self.0 (search rules) e.1))

pub returns-in-Err-end : goal.returns-in-Err-end
returns-in-Err-end g c =
    let t = c.in-Ok-listed.ensures.ok in
    let e = c.in-Err-end.ensures.err t.run.still in
    tuple_read {F = g.F.Fields} _ (list_over c.in-Ok.ensures.opened t e.0 e.2 (via c.end.new.self.0 (search rules) e.1))
