use Rattle.rmp_decode.proofs.Orders.{SetOf}
use Rattle.rmp_decode.proofs.RowReads.{row_opens}
use Rattle.rmp_decode.proofs.Seqs.{seq_unopened}
use Rattle.rmp_decode.proofs.de.sets.BTreeSetDeserialize.deserialize.Goals as goal

pub returns-in-Err-clause-law : goal.returns-in-Err-clause-law
returns-in-Err-clause-law g c =
    seq_unopened g.R.Source (SetOf g.T.Ord.cmp (g.T.Deserialize.reads g.C.SerializerConfig.human g.R.ReadSlice.lends)) _ _ _ c.in-Err.ensures.err

pub returns-in-Ok : goal.returns-in-Ok
returns-in-Ok g c = let r = c.many_row.ensures _ (row_opens c.in-Ok.ensures) in record { law = r.law; refused = r.refused; memory = r.memory }

pub returns-in-Ok-true-default : goal.returns-in-Ok-true-default
returns-in-Ok-true-default g c =
    let r = c.set_row.ensures _ (row_opens (rw c.in-Ok-true-default.field-0-0-test at c.in-Ok.ensures)) in
    record { law = r.law; refused = r.refused; memory = r.memory }

pub returns-in-Ok-false-default : goal.returns-in-Ok-false-default
returns-in-Ok-false-default g c =
    let r = c.set_row-in-Ok-false-default.ensures _ (row_opens (rw c.in-Ok-false-default.field-0-0-test at c.in-Ok.ensures)) in
    record { law = r.law; refused = r.refused; memory = r.memory }
