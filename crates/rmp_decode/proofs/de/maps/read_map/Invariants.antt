-- The entries so far are the readings of the pairs so far.
use Rattle.rmp_decode.proofs.Maps.{Gathers}
use Rattle.rmp_decode.proofs.de.maps.read_map.Given as goal

abbrev pub invariant-loop-entries : goal.invariant-loop-entries
invariant-loop-entries g l = Gathers g.R.Source g.K.Ord.cmp (g.K.Deserialize.reads g.C.SerializerConfig.human g.R.ReadSlice.lends)
    (g.V.Deserialize.reads g.C.SerializerConfig.human g.R.ReadSlice.lends) l.initial.map l.map l.entries.entries

abbrev pub decreases-loop-entries : goal.decreases-loop-entries
decreases-loop-entries g l = l.map.left
