use Rattle.std.proofs.Common.{sym, subst}
use Rattle.rmp_decode.specs.Sets.{CollectsKeys}
use Rattle.rmp_decode.proofs.Orders.{SetOf}
use Rattle.rmp_decode.proofs.RowEnds.{row_done, row_full, row_stopped}
use Rattle.rmp_decode.proofs.de.sets.many_row.Goals as goal

pub returns-in-Ok-settle : goal.returns-in-Ok-settle
returns-in-Ok-settle g c = λ d o.
    let r = c.in-Ok.ensures in
    row_done o r (SetOf g.T.Ord.cmp (g.T.Deserialize.reads g.C.SerializerConfig.human g.R.ReadSlice.lends)) _
    (r.values, r.read.value, subst (CollectsKeys g.T.Ord.cmp r.values) (sym c.in-Ok-settle.ensures.keys) r.held.0)

pub returns-in-Err-settle : goal.returns-in-Err-settle
returns-in-Err-settle g c = λ d o.
    rw (c.refuse.ensures.same, c.refuse.ensures.failed) (row_stopped o (row_full {P = g.T.Deserialize.refuses} c.in-Ok.ensures c.requires.some)
    (SetOf g.T.Ord.cmp (g.T.Deserialize.reads g.C.SerializerConfig.human g.R.ReadSlice.lends)) (λ v ms h. (h.0, h.1)))

pub returns-in-Err : goal.returns-in-Err
returns-in-Err g c = λ d o.
    row_stopped o c.in-Err.ensures (SetOf g.T.Ord.cmp (g.T.Deserialize.reads g.C.SerializerConfig.human g.R.ReadSlice.lends)) (λ v ms h. (h.0, h.1))
