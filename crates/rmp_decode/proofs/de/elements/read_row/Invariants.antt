-- The values so far are the readings of the elements so far, and the reader is ready for the next one.
use Rattle.rmp_decode.proofs.RowReads.{RowSoFar}
use Rattle.rmp_decode.proofs.de.elements.read_row.Given as goal

abbrev pub invariant-loop-left : goal.invariant-loop-left
invariant-loop-left g l = RowSoFar g.R.Source g.C.SerializerConfig.human g.R.ReadSlice.lends g.T.Deserialize.reads g.W.Row.holds g.W.Row.most l.fn.de
    l.fn.bytes l.fn.count l.rest l.de l.left l.row

abbrev pub decreases-loop-left : goal.decreases-loop-left
decreases-loop-left g l = l.left
