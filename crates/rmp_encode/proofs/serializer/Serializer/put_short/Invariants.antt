-- The head and the numbers before the index were written.
use Rattle.std.proofs.Common.{◌≤◌, drop, length}
use Rattle.rmp_encode.specs.Ser.{sink_of, settings_of}
use Rattle.rmp_encode.specs.Writes.{Keeps}
use Rattle.rmp_encode.proofs.Packed.{Written}
use Rattle.rmp_encode.proofs.serializer.Serializer.put_short.Given as goal

abbrev pub invariant-loop-value : goal.invariant-loop-value
invariant-loop-value g l = record {
  within : l.value-index ≤ length l.fn.values;
  keeps : Keeps g.W.Sink l.fn.self l.self;
  writes : Written g.W.Sink (λ x. g.T.Serialize.data_of x (settings_of l.fn.self).human) l.fn.values (drop l.value-index l.fn.values) (sink_of l.fn.self)
      (sink_of l.self);
}
