use Rattle.std.proofs.Common.{inl, inr}
use Rattle.rmp_decode.specs.Arrays.{Exactly}
use Rattle.rmp_decode.proofs.RowEnds.{row_unopened}
use Rattle.rmp_decode.proofs.de.arrays.slow_array.Goals as goal

pub returns-in-Err : goal.returns-in-Err
returns-in-Err g c = row_unopened (Exactly g.row.N (g.T.Deserialize.reads g.C.SerializerConfig.human g.R.ReadSlice.lends)) c.in-Err.ensures.err
    (λ x. inr (inl x))
