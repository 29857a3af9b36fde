-- Nothing was written, and no fault counted.
use Rattle.std.proofs.Common.{◌≡◌}
use Rattle.std.specs.Io.KnownBytes.{Keeps}
use Rattle.rmp_wire.specs.Streams.{writer_of, write_faults}
use Rattle.rmp_wire.proofs.stream.IoSink.write.Given as goal

abbrev pub invariant-loop : goal.invariant-loop
invariant-loop g l = record {
  kept : Keeps (g.W.Write.contents (writer_of l.initial.self)) (g.W.Write.contents (writer_of l.self));
  faults : write_faults l.self ≡ write_faults l.initial.self;
}
