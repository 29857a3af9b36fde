use Rattle.rmp_decode.proofs.Orders.{SetOf}
use Rattle.rmp_decode.proofs.RowEnds.{row_done, row_stopped}
use Rattle.rmp_decode.proofs.de.sets.set_row.Goals as goal

pub returns-in-Ok : goal.returns-in-Ok
returns-in-Ok g c = λ d o.
    let r = c.in-Ok.ensures in
    row_done o r (SetOf g.T.Ord.cmp (g.T.Deserialize.reads g.C.SerializerConfig.human g.R.ReadSlice.lends)) _ (r.values, r.read.value, r.held)

pub returns-in-Err : goal.returns-in-Err
returns-in-Err g c = λ d o.
    row_stopped o c.in-Err.ensures (SetOf g.T.Ord.cmp (g.T.Deserialize.reads g.C.SerializerConfig.human g.R.ReadSlice.lends)) (λ v ms h. (h.0, h.1))
