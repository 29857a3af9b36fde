-- The fields so far are those that the pairs so far name.
use Rattle.rmp_decode.specs.Names.{bytes_of}
use Rattle.rmp_decode.proofs.Structs.{FieldsRun}
use Rattle.rmp_decode.proofs.deserializer.Deserializer.opened_fields.Given as goal

abbrev pub invariant-loop-map : goal.invariant-loop-map
invariant-loop-map g l = FieldsRun g.R.Source (bytes_of l.fn.names) (g.F.Fields.holds g.C.SerializerConfig.human g.R.ReadSlice.lends)
    l.initial.map l.map l.slots

abbrev pub decreases-loop-map : goal.decreases-loop-map
decreases-loop-map g l = l.map.left
