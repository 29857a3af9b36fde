use Rattle.std.proofs.Common.{Global}
use Rattle.std.specs.declared.collections.VecDeque.{VecDeque}
use Rattle.rmp_decode.proofs.RowEnds.{of_values}
use Rattle.rmp_decode.proofs.de.lists.ItemsReadHereVecDeque.read.Goals as goal

pub returns : goal.returns
returns g c = of_values (g.T.Deserialize.reads g.C.SerializerConfig.human g.R.ReadSlice.lends) (λ (v : VecDeque g.row.T.Denot Global). v.items) _
    c.read_queue.ensures
