use Rattle.std.proofs.Common.{inl, inr, arith}
use Rattle.rmp_decode.specs.Refusing.{part_of}
use Rattle.rmp_decode.proofs.FieldRows.{row_first, row_read, row_others, row_wrong}
use Rattle.rmp_decode.proofs.Fields.{if_some}
use Rattle.rmp_decode.proofs.access.fields.Tuple2Fields.row.Goals as goal

pub returns-in-Ok-clause-ok : goal.returns-in-Ok-clause-ok
returns-in-Ok-clause-ok g c = λ y. row_read c.in-Ok.ensures.law (g.B.Fields.holds g.C.SerializerConfig.human g.R.ReadSlice.lends) (c.row.ensures.ok y)

pub returns-in-Ok-clause-err : goal.returns-in-Ok-clause-err
returns-in-Ok-clause-err g c = λ n. if_some c.row.new.refusal (row_others c.in-Ok.ensures.law g.A.Deserialize.absent
    (g.B.Fields.reads g.C.SerializerConfig.human g.R.ReadSlice.lends)) (c.row.ensures.err n)

pub returns-in-Ok-clause-refused : goal.returns-in-Ok-clause-refused
returns-in-Ok-clause-refused g c = λ n. if_some c.row.new.refusal
    (λ e. row_wrong c.in-Ok.ensures.law c.row.new.de g.B.Fields.count g.C.SerializerConfig.human g.R.ReadSlice.lends
    (part_of g.A.Deserialize.reads g.A.Deserialize.refuses) g.B.Fields.parts e (c.in-Ok.first, c.in-Ok.ensures.law.ok.value)) (c.row.ensures.refused n)

pub returns-in-Err-clause-err : goal.returns-in-Err-clause-err
returns-in-Err-clause-err g c = λ n. row_first _ _ c.requires.ready c.in-Err.ensures.law (λ m ks h. (h.0.0, h.1.0))

pub returns-in-Err-clause-refused : goal.returns-in-Err-clause-refused
returns-in-Err-clause-refused g c = λ n. inl (inr (omega arith, c.in-Err.ensures.refused c.requires.ready))
