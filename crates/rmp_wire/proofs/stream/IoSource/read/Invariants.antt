-- Nothing was read, and no fault counted.
use Rattle.std.proofs.Common.{◌≡◌, length}
use Rattle.std.specs.Io.KnownBytes.{Keeps}
use Rattle.rmp_wire.specs.Streams.{reader_of, read_faults}
use Rattle.rmp_wire.proofs.stream.IoSource.read.Given as goal

abbrev pub invariant-loop : goal.invariant-loop
invariant-loop g l = record {
  size : length l.buf ≡ length l.initial.buf;
  kept : Keeps (g.R.Read.remaining (reader_of l.initial.self)) (g.R.Read.remaining (reader_of l.self));
  faults : read_faults l.self ≡ read_faults l.initial.self;
}
