use Rattle.std.proofs.Common.{Vec, Global}
use Rattle.rmp_decode.proofs.RowEnds.{of_values}
use Rattle.rmp_decode.proofs.de.lists.ItemsReadHereVec.read.Goals as goal

pub returns : goal.returns
returns g c = of_values (g.T.Deserialize.reads g.C.SerializerConfig.human g.R.ReadSlice.lends) (λ (v : Vec g.row.T.Denot Global). v.items) _
    c.read_vec.ensures
