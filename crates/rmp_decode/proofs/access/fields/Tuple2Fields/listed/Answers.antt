use Rattle.std.proofs.Common.{inl}
use Rattle.rmp_wire.specs.Msg.{no_items}
use Rattle.rmp_decode.specs.Refusing.{part_of}
use Rattle.rmp_decode.proofs.Fields.{others_read, others_refused, others_wrong}
use Rattle.rmp_decode.proofs.Seqs.{run_start}
use Rattle.rmp_decode.proofs.Tuples.{part_refused}
use Rattle.rmp_decode.proofs.access.fields.Tuple2Fields.listed.Goals as goal

pub returns-in-Err-clause-err : goal.returns-in-Err-clause-err
returns-in-Err-clause-err g c = part_refused g.R.Source (λ z. g.A.Deserialize.reads g.C.SerializerConfig.human g.R.ReadSlice.lends) _ c.args.seq.now
    c.args.seq.now c.element.new.self no_items (run_start g.R.Source c.args.seq.now c.requires) c.in-Err.e c.in-Err.ensures.err c.element.ensures.marked
    (λ m ks v h. (v.0, h.0)) (λ v h. h)

pub returns-in-Ok-listed-clause-ok : goal.returns-in-Ok-listed-clause-ok
returns-in-Ok-listed-clause-ok g c = others_read (c.in-Ok.ensures.ok c.requires) g.A.Deserialize.absent
    (g.B.Fields.reads g.C.SerializerConfig.human g.R.ReadSlice.lends)
    c.requires c.element.ensures.same_reference c.in-Ok-listed.ensures.ok

pub returns-in-Err-listed-clause-err : goal.returns-in-Err-listed-clause-err
returns-in-Err-listed-clause-err g c = others_refused (c.in-Ok.ensures.ok c.requires) g.A.Deserialize.absent
    (g.B.Fields.reads g.C.SerializerConfig.human g.R.ReadSlice.lends)
    c.requires c.element.ensures.same_reference c.in-Err-listed.ensures.err

pub returns-in-Err-clause-refused : goal.returns-in-Err-clause-refused
returns-in-Err-clause-refused g c = inl (c.in-Err.ensures.refused c.requires)

pub returns-in-Err-listed-clause-refused : goal.returns-in-Err-listed-clause-refused
returns-in-Err-listed-clause-refused g c =
    let t = c.in-Ok.ensures.ok c.requires in
    others_wrong t g.C.SerializerConfig.human g.R.ReadSlice.lends (part_of g.A.Deserialize.reads g.A.Deserialize.refuses) g.B.Fields.parts c.listed.new.seq
    c.in-Err-listed.e (c.in-Ok.first, t.value)
    c.in-Err-listed.ensures.refused
