use Rattle.std.proofs.Common.{subst, sym, List}
use Rattle.rmp_decode.specs.Rows.{ReadsEach}
use Rattle.rmp_decode.proofs.RowEnds.{row_done, row_stopped}
use Rattle.rmp_decode.proofs.de.lists.vec_row.Goals as goal

pub returns-in-Ok : goal.returns-in-Ok
returns-in-Ok g c = λ d o.
    let reads = g.T.Deserialize.reads g.C.SerializerConfig.human g.R.ReadSlice.lends in
    let r = c.in-Ok.ensures in
    row_done o r (λ vs ms. ReadsEach reads ms vs) _ (subst (ReadsEach reads r.read.trees) (sym {A = List g.row.T.Denot} r.held) r.read.value)

pub returns-in-Err : goal.returns-in-Err
returns-in-Err g c = λ d o.
    row_stopped o c.in-Err.ensures (λ vs ms. ReadsEach (g.T.Deserialize.reads g.C.SerializerConfig.human g.R.ReadSlice.lends) ms vs) (λ vs ms h. (vs, h))
