use Rattle.std.proofs.Common.{List, inl}
use Rattle.rmp_decode.specs.Rows.{ReadsEach}
use Rattle.rmp_decode.proofs.RowEnds.{row_unopened}
use Rattle.rmp_decode.proofs.de.lists.read_vec.Goals as goal

pub returns-in-Err : goal.returns-in-Err
returns-in-Err g c = row_unopened (λ (vs : List g.row.T.Denot) ms. ReadsEach (g.T.Deserialize.reads g.C.SerializerConfig.human g.R.ReadSlice.lends) ms vs)
    c.in-Err.ensures.err (λ x. inl x)
